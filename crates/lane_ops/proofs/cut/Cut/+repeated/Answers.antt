use Rattle.std.proofs.Common.{◌≡◌}
use Rattle.lane_ops.specs.Lanes.{repeated}
use Rattle.lane_ops.proofs.Lanes.{room_for}
use Rattle.lane_ops.proofs.Moves.{repeated_none, repeated_more, length-repeated}
use Rattle.lane_ops.proofs.cut.Cut.+repeated.Goals as goal

pub returns-in_default : goal.returns-in_default
returns-in_default t c =
    let e : c.args.self.count ≡ 0 = c.in_default.ensures in
    cc (repeated_none c.args.self.bits c.args.lane)

pub joined-requires : goal.joined-requires
joined-requires t c =
    room_for c.args.self.bits c.args.self.count c.in-Some.above.bits c.in-Some.above.count c.repeated.result
    (repeated c.in-Some.above.count c.args.lane) c.in-Some.ensures.0 c.in-Some.ensures.1 c.args.self.fits
    (length-repeated c.in-Some.above.count c.args.lane) c.repeated.ensures

pub returns : goal.returns
returns t c = cc (c.in-Some.ensures.0, c.in-Some.ensures.1, repeated_more c.args.self.bits c.in-Some.above.count c.args.lane)
