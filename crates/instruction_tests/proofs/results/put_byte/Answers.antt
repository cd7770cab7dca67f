use Rattle.arm64_table.specs.Arm64.{arm64}
use Rattle.arm64_table.specs.Laws.{arm64_lawful}
use Rattle.instruction_tests.proofs.Arm64.{addressed}
use Rattle.instruction_tests.proofs.results.put_byte.Goals as goal

pub returns : goal.returns
returns c = c.set_byte.ensures.fits arm64.isa arm64_lawful.set (addressed c.args.address c.ranges.address.fits) c.requires
