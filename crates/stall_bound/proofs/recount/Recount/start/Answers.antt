use Rattle.stall_bound.proofs.RecountLemmas.{recount-start}
use Rattle.stall_bound.proofs.recount.Recount.start.Goals as goal

pub returns : goal.returns
returns c = λ problem. recount-start problem c.start.result c.start.ensures
