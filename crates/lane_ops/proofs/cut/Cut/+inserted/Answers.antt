use Rattle.std.proofs.Common.{◌≡◌, ◌-◌, suc, arith}
use Rattle.std.specs.Prelude.{slice_set}
use Rattle.lane_ops.specs.Lanes.{lanes_of}
use Rattle.lane_ops.proofs.Lanes.{room_for}
use Rattle.lane_ops.proofs.Moves.{inserted_none, inserted_here, inserted_above, length-narrowed, length-inserted}
use Rattle.lane_ops.proofs.cut.Cut.+inserted.Goals as goal

pub returns-in_default : goal.returns-in_default
returns-in_default t c =
    let e : c.args.self.count ≡ 0 = c.in_default.ensures in
    cc (inserted_none c.args.self.bits c.args.register c.args.place c.args.lane)

pub joined-requires : goal.joined-requires
joined-requires t c =
    room_for c.args.self.bits c.args.self.count c.in-Some.above.bits c.in-Some.above.count c.copied.result
    (lanes_of c.in-Some.above.bits c.in-Some.above.count c.without_lowest-rest.result) c.in-Some.ensures.0 c.in-Some.ensures.1 c.args.self.fits
    (length-narrowed c.in-Some.above.bits c.in-Some.above.count c.without_lowest-rest.result) c.copied.ensures

pub returns-then-place-eq0 : goal.returns-then-place-eq0
returns-then-place-eq0 t c =
    let e : c.args.place ≡ 0 = c.if-place-eq0.true in
    cc (c.in-Some.ensures.0, c.in-Some.ensures.1, inserted_here c.args.self.bits c.in-Some.above.count c.args.register c.args.lane)

pub joined-requires-2 : goal.joined-requires-2
joined-requires-2 t c =
    room_for c.args.self.bits c.args.self.count c.in-Some.above.bits c.in-Some.above.count c.inserted.result
    (slice_set (lanes_of c.in-Some.above.bits c.in-Some.above.count c.without_lowest-rest.result) (c.args.place - 1) c.args.lane)
    c.in-Some.ensures.0 c.in-Some.ensures.1 c.args.self.fits
    (length-inserted c.in-Some.above.bits c.in-Some.above.count c.without_lowest-rest.result (c.args.place - 1) c.args.lane) c.inserted.ensures

pub returns : goal.returns
returns t c =
    let e : c.args.place ≡ suc (c.args.place - 1) = omega arith in
    cc (c.in-Some.ensures.0, c.in-Some.ensures.1, inserted_above c.args.self.bits c.in-Some.above.count c.args.register (c.args.place - 1) c.args.lane)
