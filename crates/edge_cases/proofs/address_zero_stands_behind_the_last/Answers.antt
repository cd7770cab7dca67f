use Rattle.edge_cases.proofs.Computed.{of-last-address}
use Rattle.edge_cases.proofs.address_zero_stands_behind_the_last.Goals as goal

pub returns : goal.returns
returns c = of-last-address
