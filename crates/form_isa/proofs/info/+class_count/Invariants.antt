use Rattle.std.proofs.Common.{length}
use Rattle.form_isa.proofs.info.+class_count.Given as goal

abbrev pub decreases-class_count : goal.decreases-class_count
decreases-class_count l = length l.operands.now
