use Rattle.edge_cases.proofs.Computed.{of-one-item}
use Rattle.edge_cases.proofs.an_item_reads_before_it_writes.Goals as goal

pub returns : goal.returns
returns c = of-one-item
