use Rattle.std.proofs.Common.{length}
use Rattle.form_table.proofs.reader.+numbers_suit.Given as goal

abbrev pub decreases-numbers_suit : goal.decreases-numbers_suit
decreases-numbers_suit l = length l.operands.now
