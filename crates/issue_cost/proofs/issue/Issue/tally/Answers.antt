use Rattle.std.proofs.Common.{◌+◌, ◌*◌, ◌^◌, take_all, subst, arith}
use Rattle.sl_model.specs.Cycles.{issued}
use Rattle.issue_cost.specs.Timeline.{IsFreeBy}
use Rattle.issue_cost.specs.Tallies.{Tallies}
use Rattle.issue_cost.proofs.issue.Issue.tally.Goals as goal

pub returns-clause-tally : goal.returns-clause-tally
returns-clause-tally c =
    subst (λ pushes. Tallies (issued pushes) c.tally_of_first.result) (take_all c.len.result c.args.self.now.pushes (omega (arith, c.len.ensures.len))) c.tally_of_first.ensures.tally

pub returns-clause-free_by : goal.returns-clause-free_by
returns-clause-free_by c =
    subst (λ n. IsFreeBy (2 ^ 30 + 256 * n) (issued c.args.self.now.pushes)) c.len.ensures.len
    (subst (λ pushes. IsFreeBy (2 ^ 30 + 256 * c.len.result) (issued pushes)) (take_all c.len.result c.args.self.now.pushes (omega (arith, c.len.ensures.len))) c.tally_of_first.ensures.free_by)
