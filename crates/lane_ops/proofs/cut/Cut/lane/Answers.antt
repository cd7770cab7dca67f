use Rattle.std.proofs.Common.{sym, ◌<◌, arith}
use Rattle.lane_ops.proofs.Moves.{lane_at, lane_past}
use Rattle.lane_ops.proofs.cut.Cut.lane.Goals as goal

pub returns-then-from-place-clause-value : goal.returns-then-from-place-clause-value
returns-then-from-place-clause-value c = sym (lane_past c.args.self.bits c.args.self.count c.args.register c.args.place (omega arith))

pub returns-clause-value : goal.returns-clause-value
returns-clause-value c =
    let h : c.args.place < c.args.self.count = omega arith in
    cc (lane_at c.args.self.bits c.args.self.count c.args.register c.args.place h)
