use Rattle.std.proofs.Common.{length}
use Rattle.form_table.proofs.spells.+front.Given as goal

abbrev pub decreases-front : goal.decreases-front
decreases-front l = length l.slots.now
