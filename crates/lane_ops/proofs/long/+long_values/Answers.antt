use Rattle.std.proofs.Common.{◌≡◌, ◌≤◌, ◌/◌, arith}
use Rattle.lane_ops.specs.Vector.{long_value}
use Rattle.lane_ops.proofs.Lanes.{room_for, low_low}
use Rattle.lane_ops.proofs.LaneByLane.{products, products_none, products_more, length-products}
use Rattle.lane_ops.proofs.long.+long_values.Goals as goal

pub returns-in_default : goal.returns-in_default
returns-in_default t c =
    let e : c.args.cut.count ≡ 0 = c.in_default.ensures in
    cc (products_none c.args.signed c.args.cut.bits (c.args.cut.bits / 2) c.args.d c.args.n c.args.m)

pub joined-requires : goal.joined-requires
joined-requires t c =
    room_for c.args.cut.bits c.args.cut.count c.in-Some.above.bits c.in-Some.above.count c.long_values-rest.result
    (products c.args.signed c.in-Some.above.bits (c.in-Some.above.bits / 2) c.in-Some.above.count c.without_lowest.result c.shift_right.result c.shift_right-2.result)
    c.in-Some.ensures.0 c.in-Some.ensures.1 c.args.cut.fits
    (length-products c.args.signed c.in-Some.above.bits (c.in-Some.above.bits / 2) c.in-Some.above.count c.without_lowest.result c.shift_right.result c.shift_right-2.result)
    c.long_values-rest.ensures

pub returns : goal.returns
returns t c =
    let h : c.args.cut.bits ≤ 128 = omega arith in
    let low = low_low (long_value c.args.signed (c.args.cut.bits / 2) c.lowest.result c.low_bits.result c.low_bits-2.result) c.args.cut.bits 128 h in
    cc (low, c.in-Some.ensures.0, c.in-Some.ensures.1, products_more c.args.signed c.args.cut.bits (c.args.cut.bits / 2) c.in-Some.above.count c.args.d c.args.n c.args.m)
