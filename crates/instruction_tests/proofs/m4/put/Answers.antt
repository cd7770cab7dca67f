use Rattle.m4_table.specs.M4.{m4}
use Rattle.m4_table.specs.Laws.{m4_lawful}
use Rattle.instruction_tests.proofs.Arm64.{below}
use Rattle.instruction_tests.proofs.m4.put.Goals as goal

pub returns : goal.returns
returns c = c.set_reg.ensures.fits m4.isa m4_lawful.set (below _ _ _ c.if-most_in-value.false c.most_in.ensures) c.requires
