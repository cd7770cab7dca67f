use Rattle.std.proofs.Common.{◌≤◌, Some, subst, sym, ◌∙◌}
use Rattle.issue_cost.proofs.IssueRule.{start-break, start-within}
use Rattle.issue_cost.proofs.issue.Issue.start.Goals as goal

pub returns-in-Some-clause-within : goal.returns-in-Some-clause-within
returns-in-Some-clause-within c = λ limit by.
    subst (λ n. n ≤ limit) (start-break c.in-Some.place c.args.self.now.pushes ∙ sym c.cycles_of_first.ensures.cycles)
    (start-within limit c.args.self.now.pushes (Some c.in-Some.place) by)
