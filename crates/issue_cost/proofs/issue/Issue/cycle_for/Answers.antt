use Rattle.std.proofs.Common.{◌≡◌, ℕ, ◌+◌, ◌*◌, ◌^◌, ◌≤◌, max, length, subst, sym, ap, ap₂, ◌∙◌, arith}
use Rattle.sl_model.specs.Cycles.{MayIssue, issued, next_cycle}
use Rattle.issue_cost.specs.Timeline.{start_of, IsFreeBy}
use Rattle.issue_cost.specs.Tallies.{NoneAfter}
use Rattle.issue_cost.proofs.IssueRule.{next_cycle-may_issue, next_cycle-least, next_cycle-within, start-within}
use Rattle.issue_cost.proofs.issue.Issue.cycle_for.Goals as goal

-- when the operands are ready in this pass
abbrev ready_in : (c : goal.After-next_cycle) → ℕ
ready_in c = max (start_of c.args.self.now) c.args.ready

-- the cycle by the definition
cycle_is : (c : goal.After-next_cycle) → c.next_cycle.result ≡ next_cycle c.args.costs.now.width c.args.unit (ready_in c) (issued c.args.self.now.pushes)
cycle_is c =
    c.next_cycle.ensures (issued c.args.self.now.pushes) c.tally.ensures.tally
    ∙ ap₂ (λ width ready. next_cycle width c.args.unit ready (issued c.args.self.now.pushes)) c.width-width.ensures.width
    (c.max-ready.ensures ∙ ap (λ start. max start c.args.ready) c.start.ensures.start)

pub returns-clause-may_issue : goal.returns-clause-may_issue
returns-clause-may_issue c =
    subst (λ cycle. MayIssue c.args.costs.now.width c.args.unit (ready_in c) (issued c.args.self.now.pushes) cycle) (sym (cycle_is c))
    (next_cycle-may_issue c.args.costs.now.width c.args.unit (ready_in c) (issued c.args.self.now.pushes) (subst (λ width. 1 ≤ width) c.width-width.ensures.width c.width-width.ensures.least)
    (subst (λ cycle. NoneAfter cycle (issued c.args.self.now.pushes)) c.tally.ensures.tally.last c.tally.ensures.tally.none_after))

pub returns-clause-least : goal.returns-clause-least
returns-clause-least c = λ cycle may.
    subst (λ n. n ≤ cycle) (sym (cycle_is c)) (next_cycle-least c.args.costs.now.width c.args.unit (ready_in c) (issued c.args.self.now.pushes) cycle may)

-- it isn't later than when all is free and ready
cycle_within : (c : goal.After-next_cycle) → (limit : ℕ) → IsFreeBy limit (issued c.args.self.now.pushes) → c.args.ready ≤ limit → c.next_cycle.result ≤ limit
cycle_within c limit by operands =
    let start : start_of c.args.self.now ≤ limit = start-within limit c.args.self.now.pushes c.args.self.now.pass by in
    subst (λ n. n ≤ limit) (sym (cycle_is c)) (next_cycle-within c.args.costs.now.width c.args.unit (ready_in c) limit (issued c.args.self.now.pushes) by (omega arith))

pub returns-clause-fits : goal.returns-clause-fits
returns-clause-fits c =
    let within : c.next_cycle.result ≤ 2 ^ 30 + 256 * length c.args.self.now.pushes =
    cycle_within c (2 ^ 30 + 256 * length c.args.self.now.pushes) c.tally.ensures.free_by (omega (arith, c.requires.ready)) in
    omega (arith, within, c.tally.ensures.few)

pub returns-clause-within : goal.returns-clause-within
returns-clause-within c = λ limit by operands. cycle_within c limit by operands
