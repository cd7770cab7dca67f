use Rattle.edge_cases.proofs.Computed.{of-accesses}
use Rattle.edge_cases.proofs.accesses_conflict_where_they_may_share_a_byte.Goals as goal

pub returns : goal.returns
returns c = of-accesses
