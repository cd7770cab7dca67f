use Rattle.std.proofs.Common.{sym}
use Rattle.bit_ops.proofs.Powers.{none_left}
use Rattle.bit_ops.proofs.shift_right.Goals as goal

pub returns-then-by-ge128 : goal.returns-then-by-ge128
returns-then-by-ge128 c = sym (none_left c.args.x c.args.by c.if-by-ge128.true c.ranges.x.fits)
