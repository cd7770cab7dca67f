use Rattle.std.proofs.Common.{◌<◌, ◌≤◌, arith}
use Rattle.lane_ops.proofs.Moves.{lane_of_first, lane_of_second}
use Rattle.lane_ops.proofs.permute.lane_of_both.Goals as goal

pub returns-then-place-count : goal.returns-then-place-count
returns-then-place-count c =
    let h : c.args.place < c.args.cut.count = omega arith in
    cc (c.lane.ensures.value, lane_of_first c.args.cut.bits c.args.cut.count c.args.n c.args.m c.args.place h)

pub returns : goal.returns
returns c =
    let h : c.args.cut.count ≤ c.args.place = omega arith in
    cc (c.lane-2.ensures.value, lane_of_second c.args.cut.bits c.args.cut.count c.args.n c.args.m c.args.place h)
