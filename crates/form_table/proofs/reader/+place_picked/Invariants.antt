use Rattle.std.proofs.Common.{length}
use Rattle.form_table.proofs.reader.+place_picked.Given as goal

abbrev pub decreases-place_picked : goal.decreases-place_picked
decreases-place_picked l = length l.operands.now
