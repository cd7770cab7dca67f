-- The low bits of the low 128 bits are the low bits.
use Rattle.std.proofs.Common.{◌*◌, ◌^◌}
use Rattle.scalar_ops.proofs.LowBits.{low-of_wide}
use Rattle.scalar_ops.proofs.arithmetic.shifted_left.Goals as goal

pub returns-clause-value : goal.returns-clause-value
returns-clause-value c = cc (low-of_wide (c.args.x * 2 ^ c.args.count) c.args.bits c.requires.bits)
