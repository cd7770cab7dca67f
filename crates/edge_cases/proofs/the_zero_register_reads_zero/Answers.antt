use Rattle.edge_cases.proofs.Computed.{of-zero}
use Rattle.edge_cases.proofs.the_zero_register_reads_zero.Goals as goal

pub returns : goal.returns
returns c = of-zero
