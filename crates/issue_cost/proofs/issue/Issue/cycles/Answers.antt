use Rattle.std.proofs.Common.{take_all, ap, ◌∙◌, arith}
use Rattle.sl_model.specs.Cycles.{issued, cycle_count}
use Rattle.issue_cost.proofs.issue.Issue.cycles.Goals as goal

pub returns-clause-cycles : goal.returns-clause-cycles
returns-clause-cycles c =
    c.cycles_of_first.ensures.cycles
    ∙ ap (λ pushes. cycle_count (issued pushes)) (take_all c.len.result c.args.self.now.pushes (omega (arith, c.len.ensures.len)))
