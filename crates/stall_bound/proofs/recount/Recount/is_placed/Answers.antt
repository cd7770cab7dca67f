use Rattle.std.proofs.Common.{is_some, ap, ◌∙◌}
use Rattle.stall_bound.proofs.RecountLemmas.{placed_at-some}
use Rattle.stall_bound.proofs.recount.Recount.is_placed.Goals as goal

pub returns : goal.returns
returns c = λ done h.
    c.is_some.ensures ∙ ap is_some (c.cycle_at.ensures.cycle done h) ∙ placed_at-some c.args.problem.now done c.args.item
