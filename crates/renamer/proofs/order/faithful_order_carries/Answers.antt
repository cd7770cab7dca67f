-- A faithful order carries out the body.
use Rattle.renamer.proofs.OrderRun.{order-carries}
use Rattle.renamer.proofs.order.faithful_order_carries.Goals as goal

pub returns : goal.returns
returns c isa body schedule s lawful sound faithful full tags = order-carries isa body s lawful sound tags schedule faithful full
