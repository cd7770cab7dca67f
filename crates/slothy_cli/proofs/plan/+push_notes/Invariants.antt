use Rattle.std.proofs.Common.{length}
use Rattle.slothy_cli.proofs.plan.+push_notes.Given as goal

abbrev pub decreases-push_notes : goal.decreases-push_notes
decreases-push_notes l = length l.items.now
