use Rattle.lane_ops.proofs.Lanes.{joined-lanes_of}
use Rattle.lane_ops.proofs.cut.Cut.copied.Goals as goal

pub returns : goal.returns
returns c = cc (joined-lanes_of c.args.self.bits c.args.self.count c.args.register)
