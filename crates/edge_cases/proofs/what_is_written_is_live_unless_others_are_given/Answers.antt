use Rattle.edge_cases.proofs.Computed.{of-frames}
use Rattle.edge_cases.proofs.what_is_written_is_live_unless_others_are_given.Goals as goal

pub returns : goal.returns
returns c = of-frames
