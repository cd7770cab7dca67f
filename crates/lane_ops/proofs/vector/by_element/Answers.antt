use Rattle.lane_ops.proofs.Moves.{lanes_of-repeated}
use Rattle.lane_ops.proofs.vector.by_element.Goals as goal

pub returns : goal.returns
returns c = cc (lanes_of-repeated c.args.cut.bits c.args.cut.count c.args.element c.requires)
