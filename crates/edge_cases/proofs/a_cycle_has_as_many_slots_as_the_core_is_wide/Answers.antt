use Rattle.edge_cases.proofs.Computed.{of-widths}
use Rattle.edge_cases.proofs.a_cycle_has_as_many_slots_as_the_core_is_wide.Goals as goal

pub returns : goal.returns
returns c = of-widths
