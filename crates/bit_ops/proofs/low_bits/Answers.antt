use Rattle.std.proofs.Common.{sym}
use Rattle.bit_ops.proofs.Powers.{all_low, below_wide}
use Rattle.bit_ops.proofs.low_bits.Goals as goal

pub returns-then-count-ge128-clause-value : goal.returns-then-count-ge128-clause-value
returns-then-count-ge128-clause-value c = sym (all_low c.args.x c.args.count c.if-count-ge128.true c.ranges.x.fits)

pub returns-then-count-ge128-clause-small : goal.returns-then-count-ge128-clause-small
returns-then-count-ge128-clause-small c = below_wide c.args.x c.args.count c.if-count-ge128.true c.ranges.x.fits
