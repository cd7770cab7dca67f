use Rattle.instruction_tests.proofs.Arm64.{is_known}
use Rattle.instruction_tests.proofs.classes.class_of.Goals as goal

pub info-requires : goal.info-requires
info-requires c = is_known c.args.form c.requires
