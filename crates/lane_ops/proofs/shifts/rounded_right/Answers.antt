use Rattle.std.proofs.Common.{◌≤◌, arith}
use Rattle.lane_ops.proofs.Rounding.{rounded}
use Rattle.lane_ops.proofs.shifts.rounded_right.Goals as goal

pub returns : goal.returns
returns c =
    let some : 1 ≤ c.args.by = omega arith in
    rounded c.args.x c.args.by c.shift_right-doubled.result some c.shift_right-doubled.ensures
