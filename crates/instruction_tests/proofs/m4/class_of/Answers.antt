use Rattle.instruction_tests.proofs.OfM4.{is_known}
use Rattle.instruction_tests.proofs.m4.class_of.Goals as goal

pub info-requires : goal.info-requires
info-requires c = is_known c.args.instr.now c.requires
