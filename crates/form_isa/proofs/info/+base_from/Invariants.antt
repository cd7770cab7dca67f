use Rattle.std.proofs.Common.{length}
use Rattle.form_isa.proofs.info.+base_from.Given as goal

abbrev pub decreases-base_from : goal.decreases-base_from
decreases-base_from l = length l.operands.now
