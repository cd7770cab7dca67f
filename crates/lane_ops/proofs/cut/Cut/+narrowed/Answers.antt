use Rattle.std.proofs.Common.{◌≡◌, ◌*◌}
use Rattle.lane_ops.specs.Lanes.{lanes_of}
use Rattle.lane_ops.proofs.Lanes.{room_for}
use Rattle.lane_ops.proofs.Moves.{narrowed_none, narrowed_more, length-narrowed}
use Rattle.lane_ops.proofs.cut.Cut.+narrowed.Goals as goal

pub returns-in_default : goal.returns-in_default
returns-in_default t c =
    let e : c.args.self.count ≡ 0 = c.in_default.ensures in
    cc (narrowed_none c.args.self.bits (2 * c.args.self.bits) c.args.register)

pub joined-requires : goal.joined-requires
joined-requires t c =
    room_for c.args.self.bits c.args.self.count c.in-Some.above.bits c.in-Some.above.count c.narrowed-rest.result
    (lanes_of (2 * c.in-Some.above.bits) c.in-Some.above.count c.shift_right.result) c.in-Some.ensures.0 c.in-Some.ensures.1 c.args.self.fits
    (length-narrowed (2 * c.in-Some.above.bits) c.in-Some.above.count c.shift_right.result) c.narrowed-rest.ensures

pub returns : goal.returns
returns t c = cc (c.in-Some.ensures.0, c.in-Some.ensures.1, narrowed_more c.args.self.bits c.in-Some.above.count c.args.register)
