use Rattle.std.proofs.Common.{length}
use Rattle.form_isa.proofs.info.+with_classes.Given as goal

abbrev pub decreases-with_classes : goal.decreases-with_classes
decreases-with_classes l = length l.operands.now
