use Rattle.std.proofs.Common.{◌≡◌, ◌+◌, unwrap_or, sym, ap, ap₂, ◌∙◌}
use Rattle.sl_model.specs.Cycles.{CostTable, cycle_of, ready_after, ready_at}
use Rattle.search_space.specs.Bound.{issued_for}
use Rattle.stall_bound.proofs.RecountLemmas.{placed_at-or}
use Rattle.stall_bound.proofs.recount.Recount.ready_at.Goals as goal

pub returns-in-Item-clause-ready : goal.returns-in-Item-clause-ready
returns-in-Item-clause-ready c = λ done h.
    let cycle : c.unwrap_or.result ≡ cycle_of c.in-Item.index done (issued_for c.args.problem.now done) =
    c.unwrap_or.ensures ∙ ap (λ o. unwrap_or o 0) (c.cycle_at.ensures.cycle done h) ∙ placed_at-or c.args.problem.now done c.in-Item.index in
    let after : c.ready_after-after.result ≡ ready_after c.args.problem.now.costs c.in-Item.index c.in-Item.place c.args.item c.args.operand =
    c.ready_after-after.ensures.ready ∙ ap (λ (v : CostTable). ready_after v c.in-Item.index c.in-Item.place c.args.item c.args.operand) c.costs.ensures.costs in
    ap₂ (λ m n. m + n) cycle after
    ∙ ap (ready_at c.args.problem.now.costs done (issued_for c.args.problem.now done) c.args.item c.args.operand) (sym c.in-Item.is)
