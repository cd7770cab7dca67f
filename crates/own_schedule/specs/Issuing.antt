-- What is kept while the choices of a schedule are issued, one after the other.
use Rattle.std.specs.Prelude.{ℕ, ◌≡◌, ◌*◌, ◌≤◌, List, None, length, reverse, slice_index, EachIndex}
use Rattle.sl_model.specs.declared.schedule.Choice.{Choice}
use Rattle.sl_model.specs.Cycles.{issued, timed}
use Rattle.sl_model.specs.Legal.{Problem, sources_in}
use Rattle.issue_cost.specs.Timeline.{Timeline, IsFreeBy}
use Rattle.legal_space.specs.Timed.{HasCycles}

-- The choices so far are those that were issued, in one pass, with room for all items, and `latest`
-- has the cycle of each of their items, 0 for the others. No cycle is past 512 for each choice.
pub record IsIssued (problem : Problem) (schedule : List Choice) (issue : Timeline)
    (latest : List ℕ) : Type 0 where
  pub first : issue.pass ≡ None
  pub room : issue.room ≡ length problem.graph.items
  pub pushes : length issue.pushes ≡ length schedule
  pub cycles : issued issue.pushes ≡ timed problem.costs (sources_in problem) schedule
  pub items : length latest ≡ length problem.graph.items
  pub each : HasCycles latest (reverse schedule) (issued issue.pushes)
  pub early : EachIndex latest (λ q. slice_index latest q ≤ 512 * length schedule)
  pub free : IsFreeBy (512 * length schedule) (issued issue.pushes)
