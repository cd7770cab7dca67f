use Rattle.std.proofs.Common.{length}
use Rattle.form_table.proofs.reader.+registers_suit.Given as goal

abbrev pub decreases-registers_suit : goal.decreases-registers_suit
decreases-registers_suit l = length l.operands.now
