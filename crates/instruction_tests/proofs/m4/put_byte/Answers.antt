use Rattle.std.proofs.Common.{arith}
use Rattle.m4_table.specs.M4.{m4}
use Rattle.m4_table.specs.Laws.{m4_lawful}
use Rattle.instruction_tests.proofs.OfM4.{addressed}
use Rattle.instruction_tests.proofs.m4.put_byte.Goals as goal

pub returns : goal.returns
returns c = c.set_byte.ensures.fits m4.isa m4_lawful.set (addressed c.from.result (omega (arith, c.from.ensures, c.ranges.address.fits))) c.requires
