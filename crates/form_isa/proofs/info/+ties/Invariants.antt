use Rattle.std.proofs.Common.{length}
use Rattle.form_isa.proofs.info.+ties.Given as goal

abbrev pub decreases-ties : goal.decreases-ties
decreases-ties l = length l.operands.now
