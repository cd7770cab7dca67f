use Rattle.std.proofs.Common.{length}
use Rattle.instruction_tests.proofs.m4.+put_all.Given as goal

abbrev pub decreases-put_all : goal.decreases-put_all
decreases-put_all l = length l.regs.now
