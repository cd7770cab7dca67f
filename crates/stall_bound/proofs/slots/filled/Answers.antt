use Rattle.std.proofs.Common.{◌≡◌, ◌+◌, ◌-◌, ◌<◌, List, length, sym, ap, ap₂, ◌∙◌, arith}
use Rattle.sl_model.specs.declared.schedule.Choice.{Choice}
use Rattle.sl_model.specs.Cycles.{CostTable, ceil_div}
use Rattle.search_space.specs.Bound.{issued_for}
use Rattle.stall_bound.specs.Recounts.{Recounts}
use Rattle.stall_bound.proofs.RecountLemmas.{length-issued}
use Rattle.stall_bound.proofs.SlotLemmas.{filled-none, filled-some}
use Rattle.stall_bound.proofs.slots.filled.Goals as goal

pub returns-then-recount-eq0 : goal.returns-then-recount-eq0
returns-then-recount-eq0 c = λ (done : List Choice) (h : Recounts c.args.problem.now done c.args.recount.now).
    let none : length (issued_for c.args.problem.now done) ≡ 0 = length-issued c.args.problem.now done ∙ sym h.placed ∙ c.if-recount-eq0.true in
    let width : c.width-width.result ≡ c.args.problem.now.costs.width = c.width-width.ensures.width ∙ ap (λ (v : CostTable). v.width) c.costs.ensures.costs in
    c.ceil_div.ensures.exact ∙ ap₂ (λ items width. ceil_div items width) c.len-items.ensures.len width
    ∙ filled-none c.args.problem.now.costs.width (length c.args.problem.now.graph.items) (issued_for c.args.problem.now done) none

pub returns : goal.returns
returns c = λ (done : List Choice) (h : Recounts c.args.problem.now done c.args.recount.now).
    let issued = issued_for c.args.problem.now done in
    let count : length issued ≡ c.args.recount.now.placed = length-issued c.args.problem.now done ∙ sym h.placed in
    let some : 0 < length issued = omega arith in
    let width : c.width-width.result ≡ c.args.problem.now.costs.width = c.width-width.ensures.width ∙ ap (λ (v : CostTable). v.width) c.costs.ensures.costs in
    let left : c.saturating_sub-left.result ≡ length c.args.problem.now.graph.items - length issued - (c.args.problem.now.costs.width - c.args.recount.now.tally.count) =
    c.saturating_sub-left.ensures ∙ ap₂ (λ m n. m - n) (c.saturating_sub.ensures ∙ ap₂ (λ m n. m - n) c.len-items.ensures.len (sym count))
    (c.saturating_sub-room.ensures ∙ ap (λ n. n - c.args.recount.now.tally.count) (c.from.ensures ∙ width)) in
    ap (λ n. c.args.recount.now.tally.cycle + 1 + n) (c.ceil_div-2.ensures.exact ∙ ap₂ (λ items width. ceil_div items width) left width)
    ∙ filled-some c.args.problem.now.costs.width (length c.args.problem.now.graph.items) issued c.args.recount.now.tally h.tally some
