use Rattle.std.proofs.Common.{◌≡◌, ◌+◌, ◌*◌, ◌^◌, ◌<◌, ◌≤◌, take, sym, ap, subst, arith}
use Rattle.sl_model.specs.Cycles.{issued, issued_from, cycle_count}
use Rattle.issue_cost.proofs.IssueRule.{cycle_count-first, cycle_count-within}
use Rattle.issue_cost.proofs.issue.Issue.cycles_of_first.Goals as goal

pub returns-then-count-eq0-clause-cycles : goal.returns-then-count-eq0-clause-cycles
unfolding issued_from
returns-then-count-eq0-clause-cycles c =
    ap (λ n. cycle_count (issued (take n c.args.self.now.pushes))) (sym c.if-count-eq0.true)

pub overflow_add-result : goal.overflow_add-result
overflow_add-result c =
    let some : 0 < c.args.count = omega (arith, c.if-count-eq0.false) in
    let is : c.tally_of_first.result.cycle + 1 ≡ cycle_count (issued (take c.args.count c.args.self.now.pushes)) = cycle_count-first c.args.count c.tally_of_first.result.cycle c.args.self.now.pushes some c.requires c.tally_of_first.ensures.tally.last in
    let few : c.args.count ≤ 131072 = c.tally_of_first.ensures.few in
    let within : cycle_count (issued (take c.args.count c.args.self.now.pushes)) ≤ 2 ^ 30 + 256 * c.args.count = cycle_count-within (2 ^ 30 + 256 * c.args.count) (issued (take c.args.count c.args.self.now.pushes)) c.tally_of_first.ensures.free_by in
    omega arith

pub returns-clause-cycles : goal.returns-clause-cycles
returns-clause-cycles c =
    let some : 0 < c.args.count = omega (arith, c.if-count-eq0.false) in
    cycle_count-first c.args.count c.tally_of_first.result.cycle c.args.self.now.pushes some c.requires c.tally_of_first.ensures.tally.last

pub returns-clause-fits : goal.returns-clause-fits
returns-clause-fits c =
    subst (λ n. n ≤ 2 ^ 30 + 256 * c.args.count) (sym (returns-clause-cycles c))
    (cycle_count-within (2 ^ 30 + 256 * c.args.count) (issued (take c.args.count c.args.self.now.pushes)) c.tally_of_first.ensures.free_by)
