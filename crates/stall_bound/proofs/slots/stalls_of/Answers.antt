use Rattle.std.proofs.Common.{length, reverse, ap, ◌∙◌}
use Rattle.sl_model.specs.Cycles.{CostTable, ceil_div}
use Rattle.stall_bound.proofs.SlotLemmas.{stalls-is}
use Rattle.stall_bound.proofs.slots.stalls_of.Goals as goal

pub returns : goal.returns
returns c =
    c.saturating_sub.ensures
    ∙ stalls-is c.args.problem.now c.args.schedule.now c.cycle_count.result c.ceil_div-filled.result
    (c.cycle_count.ensures (reverse c.args.schedule.now) c.of-recount.ensures)
    (c.ceil_div-filled.ensures.exact
    ∙ ap (λ width. ceil_div (length c.args.schedule.now) width) (c.width.ensures.width ∙ ap (λ (v : CostTable). v.width) c.costs.ensures.costs))
