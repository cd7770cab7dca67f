use Rattle.std.proofs.Common.{◌≡◌, ◌+◌, ◌-◌, suc, arith}
use Rattle.lane_ops.specs.Vector.{permuted}
use Rattle.lane_ops.proofs.Lanes.{room_within}
use Rattle.lane_ops.proofs.Moves.{both, permuted_none, permuted_more, length-permuted}
use Rattle.lane_ops.proofs.permute.+permuted_from.Goals as goal

pub returns-then-count-eq0 : goal.returns-then-count-eq0
returns-then-count-eq0 t c =
    let e : c.args.count ≡ 0 = c.if-count-eq0.true in
    cc (permuted_none c.args.op c.args.cut.bits c.args.cut.count c.args.place (both c.args.cut.bits c.args.cut.count c.args.n c.args.m))

pub joined-requires : goal.joined-requires
joined-requires t c =
    room_within c.args.cut.bits c.args.cut.count (c.args.count - 1) c.permuted_from-rest.result
    (permuted c.args.op c.args.cut.count (both c.args.cut.bits c.args.cut.count c.args.n c.args.m) (c.args.place + 1) (c.args.count - 1))
    (omega arith) c.args.cut.fits
    (length-permuted c.args.op c.args.cut.count (c.args.place + 1) (c.args.count - 1) (both c.args.cut.bits c.args.cut.count c.args.n c.args.m))
    c.permuted_from-rest.ensures

pub returns : goal.returns
returns t c =
    let e : c.args.count ≡ suc (c.args.count - 1) = omega arith in
    cc (permuted_more c.args.op c.args.cut.bits c.args.cut.count c.args.place (c.args.count - 1) (both c.args.cut.bits c.args.cut.count c.args.n c.args.m))
