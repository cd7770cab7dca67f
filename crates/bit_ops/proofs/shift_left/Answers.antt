use Rattle.std.proofs.Common.{sym}
use Rattle.bit_ops.proofs.Powers.{none_low}
use Rattle.bit_ops.proofs.shift_left.Goals as goal

pub returns-then-by-ge128 : goal.returns-then-by-ge128
returns-then-by-ge128 c = sym (none_low c.args.x c.args.by c.if-by-ge128.true)
