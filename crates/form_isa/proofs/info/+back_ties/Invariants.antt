use Rattle.std.proofs.Common.{length}
use Rattle.form_isa.proofs.info.+back_ties.Given as goal

abbrev pub decreases-back_ties : goal.decreases-back_ties
decreases-back_ties l = length l.operands.now
