use Rattle.edge_cases.proofs.Computed.{of-nothing}
use Rattle.edge_cases.proofs.nothing_takes_no_cycle.Goals as goal

pub returns : goal.returns
returns c = of-nothing
