use Rattle.std.proofs.Common.{◌≡◌, ℕ, ◌+◌, ◌*◌, ◌<◌, ◌≤◌, List, Some, set, sym, ap, ◌∙◌, subst, arith}
use Rattle.sl_model.specs.declared.schedule.Choice.{Choice}
use Rattle.sl_model.specs.declared.limits.TheConstants.{ITEMS}
use Rattle.sl_model.specs.Cycles.{CostTable, Issued, last_cycle, next_cycle, unit_free, row_of}
use Rattle.sl_model.specs.Legal.{Problem}
use Rattle.search_space.specs.Bound.{issued_for}
use Rattle.issue_cost.proofs.ForCallers.{last-next_cycle, next_cycle-from}
use Rattle.stall_bound.specs.declared.recount.Recount.{Recount}
use Rattle.stall_bound.specs.Recounts.{Recounts}
use Rattle.stall_bound.proofs.RecountLemmas.{recount-count, recount-next, recount-more}
use Rattle.stall_bound.proofs.recount.Recount.place.Goals as goal

-- a cycle that a tally gives is soon
soon-by : (problem : Problem) (done : List Choice) (recount : Recount) (width unit ready cycle : ℕ) → Recounts problem done recount → ready ≤ 512 * recount.placed + 255
    → cycle ≡ next_cycle width unit ready (issued_for problem done) → cycle ≤ 512 * recount.placed + 255
soon-by problem done recount width unit ready cycle h early is = subst (λ n. n ≤ 512 * recount.placed + 255) (sym is) (recount-next problem done recount width unit ready h early)

pub after-self-requires-clause-fits : goal.after-self-requires-clause-fits
after-self-requires-clause-fits c =
    let problem : Problem = c.args.problem.now in
    let done : List Choice = c.requires.is_one.0 in
    let h : Recounts problem done c.args.self.now = c.requires.is_one.1 in
    let soon : c.next_cycle-cycle.result ≤ 512 * c.args.self.now.placed + 255 =
    soon-by problem done c.args.self.now c.width.result c.args.choice.now.unit c.ready-ready.result c.next_cycle-cycle.result h c.ready-ready.ensures.soon
    (c.next_cycle-cycle.ensures (issued_for problem done) h.tally) in
    omega arith

pub after-self-requires-clause-count_fits : goal.after-self-requires-clause-count_fits
after-self-requires-clause-count_fits c =
    let few : c.args.self.now.tally.count ≤ c.args.self.now.placed = recount-count c.args.problem.now c.requires.is_one.0 c.args.self.now c.requires.is_one.1 in
    omega arith

pub after-self-requires-clause-in_order : goal.after-self-requires-clause-in_order
after-self-requires-clause-in_order c =
    let problem : Problem = c.args.problem.now in
    let done : List Choice = c.requires.is_one.0 in
    let h : Recounts problem done c.args.self.now = c.requires.is_one.1 in
    let last : c.args.self.now.tally.cycle ≡ last_cycle (issued_for problem done) = h.tally.last in
    let is : c.next_cycle-cycle.result ≡ next_cycle c.width.result c.args.choice.now.unit c.ready-ready.result (issued_for problem done) =
    c.next_cycle-cycle.ensures (issued_for problem done) h.tally in
    let behind : last_cycle (issued_for problem done) ≤ next_cycle c.width.result c.args.choice.now.unit c.ready-ready.result (issued_for problem done) =
    last-next_cycle c.width.result c.args.choice.now.unit c.ready-ready.result (issued_for problem done) in
    omega arith

pub returns : goal.returns
returns c = λ (done : List Choice) (h : Recounts c.args.problem.now done c.args.self.now).
    let problem : Problem = c.args.problem.now in
    let choice : Choice = c.args.choice.now in
    let issued : List Issued = issued_for problem done in
    let costs : c.costs-costs.result.now ≡ problem.costs = c.costs-costs.ensures.costs in
    let below : choice.item < ITEMS = omega arith in
    let is : c.next_cycle-cycle.result ≡ next_cycle c.width.result choice.unit c.ready-ready.result issued = c.next_cycle-cycle.ensures issued h.tally in
    let free : unit_free choice.unit issued ≤ c.next_cycle-cycle.result =
    subst (λ n. unit_free choice.unit issued ≤ n) (sym is) (next_cycle-from c.width.result choice.unit c.ready-ready.result issued).2 in
    recount-more problem done c.args.self.now choice c.ready-ready.result c.next_cycle-cycle.result c.busy.result c.after-self.result
    (set c.args.self.now.cycles c.from.result (Some c.next_cycle-cycle.result)) h below
    (c.ready-ready.ensures.ready done h)
    (is ∙ ap (λ width. next_cycle width choice.unit c.ready-ready.result issued) (c.width.ensures.width ∙ ap (λ (v : CostTable). v.width) costs))
    (c.busy.ensures.busy ∙ ap (λ (v : CostTable). (row_of v choice.item).busy) costs)
    c.busy.ensures.most
    (soon-by problem done c.args.self.now c.width.result choice.unit c.ready-ready.result c.next_cycle-cycle.result h c.ready-ready.ensures.soon is)
    (c.after-self.ensures issued h.tally free)
    (ap (λ p. set c.args.self.now.cycles p (Some c.next_cycle-cycle.result)) c.from.ensures)
