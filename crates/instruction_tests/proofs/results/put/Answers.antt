use Rattle.arm64_table.specs.Arm64.{arm64}
use Rattle.arm64_table.specs.Laws.{arm64_lawful}
use Rattle.instruction_tests.proofs.Arm64.{below}
use Rattle.instruction_tests.proofs.results.put.Goals as goal

pub returns : goal.returns
returns c = c.set_reg.ensures.fits arm64.isa arm64_lawful.set (below _ _ _ c.if-most_in-value.false c.most_in.ensures) c.requires
