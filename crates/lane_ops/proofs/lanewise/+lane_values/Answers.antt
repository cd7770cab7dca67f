use Rattle.std.proofs.Common.{◌≡◌, ◌^◌}
use Rattle.std.proofs.Math.Nat.{mod-mod}
use Rattle.lane_ops.specs.Vector.{lane_value}
use Rattle.lane_ops.proofs.Lanes.{room_for}
use Rattle.lane_ops.proofs.LaneByLane.{lanewise, lanewise_none, lanewise_more, length-lanewise}
use Rattle.lane_ops.proofs.lanewise.+lane_values.Goals as goal

pub returns-in_default : goal.returns-in_default
returns-in_default t c =
    let e : c.args.cut.count ≡ 0 = c.in_default.ensures in
    cc (lanewise_none c.args.op c.args.cut.bits c.args.d c.args.n c.args.m)

pub joined-requires : goal.joined-requires
joined-requires t c =
    room_for c.args.cut.bits c.args.cut.count c.in-Some.above.bits c.in-Some.above.count c.lane_values-rest.result
    (lanewise c.args.op c.in-Some.above.bits c.in-Some.above.count c.without_lowest.result c.without_lowest-2.result c.without_lowest-3.result)
    c.in-Some.ensures.0 c.in-Some.ensures.1 c.args.cut.fits
    (length-lanewise c.args.op c.in-Some.above.bits c.in-Some.above.count c.without_lowest.result c.without_lowest-2.result c.without_lowest-3.result)
    c.lane_values-rest.ensures

pub returns : goal.returns
returns t c =
    let low = mod-mod (lane_value c.args.op c.args.cut.bits c.lowest.result c.lowest-2.result c.lowest-3.result) (2 ^ c.args.cut.bits) in
    cc (low, c.in-Some.ensures.0, c.in-Some.ensures.1, lanewise_more c.args.op c.args.cut.bits c.in-Some.above.count c.args.d c.args.n c.args.m)
