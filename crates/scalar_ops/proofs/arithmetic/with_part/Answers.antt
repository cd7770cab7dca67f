-- Each step keeps to the low bits.
use Rattle.scalar_ops.proofs.LowBits.{with_part-steps}
use Rattle.scalar_ops.proofs.arithmetic.with_part.Goals as goal

pub returns : goal.returns
returns c = cc (with_part-steps c.args.bits c.args.d c.args.part c.args.place c.requires.fits)
