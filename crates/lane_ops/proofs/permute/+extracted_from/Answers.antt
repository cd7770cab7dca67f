use Rattle.std.proofs.Common.{◌≡◌, ◌+◌, ◌-◌, suc, take, drop, arith}
use Rattle.lane_ops.proofs.Lanes.{room_within}
use Rattle.lane_ops.proofs.Moves.{both, extracted_none, extracted_more, length-extracted}
use Rattle.lane_ops.proofs.permute.+extracted_from.Goals as goal

pub returns-then-count-eq0 : goal.returns-then-count-eq0
returns-then-count-eq0 t c =
    let e : c.args.count ≡ 0 = c.if-count-eq0.true in
    cc (extracted_none c.args.cut.bits c.args.place (both c.args.cut.bits c.args.cut.count c.args.n c.args.m))

pub joined-requires : goal.joined-requires
joined-requires t c =
    room_within c.args.cut.bits c.args.cut.count (c.args.count - 1) c.extracted_from-rest.result
    (take (c.args.count - 1) (drop (c.args.place + 1) (both c.args.cut.bits c.args.cut.count c.args.n c.args.m)))
    (omega arith) c.args.cut.fits
    (length-extracted (c.args.count - 1) (c.args.place + 1) (both c.args.cut.bits c.args.cut.count c.args.n c.args.m))
    c.extracted_from-rest.ensures

pub returns : goal.returns
returns t c =
    let e : c.args.count ≡ suc (c.args.count - 1) = omega arith in
    cc (extracted_more c.args.cut.bits (c.args.count - 1) c.args.place (both c.args.cut.bits c.args.cut.count c.args.n c.args.m))
