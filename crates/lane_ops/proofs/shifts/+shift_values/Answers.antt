use Rattle.std.proofs.Common.{◌≡◌, ◌^◌}
use Rattle.std.proofs.Math.Nat.{mod-mod}
use Rattle.lane_ops.specs.Vector.{shift_value}
use Rattle.lane_ops.proofs.Lanes.{room_for}
use Rattle.lane_ops.proofs.LaneByLane.{shifts, shifts_none, shifts_more, length-shifts}
use Rattle.lane_ops.proofs.shifts.+shift_values.Goals as goal

pub returns-in_default : goal.returns-in_default
returns-in_default t c =
    let e : c.args.cut.count ≡ 0 = c.in_default.ensures in
    cc (shifts_none c.args.op c.args.cut.bits c.args.by c.args.d c.args.n)

pub joined-requires : goal.joined-requires
joined-requires t c =
    room_for c.args.cut.bits c.args.cut.count c.in-Some.above.bits c.in-Some.above.count c.shift_values-rest.result
    (shifts c.args.op c.in-Some.above.bits c.args.by c.in-Some.above.count c.without_lowest.result c.without_lowest-2.result)
    c.in-Some.ensures.0 c.in-Some.ensures.1 c.args.cut.fits
    (length-shifts c.args.op c.in-Some.above.bits c.args.by c.in-Some.above.count c.without_lowest.result c.without_lowest-2.result)
    c.shift_values-rest.ensures

pub returns : goal.returns
returns t c =
    let low = mod-mod (shift_value c.args.op c.args.cut.bits c.args.by c.lowest.result c.lowest-2.result) (2 ^ c.args.cut.bits) in
    cc (low, c.in-Some.ensures.0, c.in-Some.ensures.1, shifts_more c.args.op c.args.cut.bits c.args.by c.in-Some.above.count c.args.d c.args.n)
