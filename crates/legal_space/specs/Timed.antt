-- Which sources the items of a problem have, and when items were issued.
use Rattle.std.specs.Prelude.{ℕ, ◌≡◌, ◌*◌, ◌≤◌, Bool, true, nat_lt, List, length, reverse, slice_index, EachIndex}
use Rattle.sl_model.specs.declared.schedule.Choice.{Choice}
use Rattle.sl_model.specs.declared.schedule.Source.{Source}
use Rattle.sl_model.specs.Cycles.{Push, Issued, issued, cycle_of, timed}
use Rattle.sl_model.specs.Legal.{Problem, sources_in}
use Rattle.issue_cost.specs.Timeline.{IsFreeBy}
use Rattle.sl_model.specs.declared.schedule.Source.TheVariants.{Entry, Item}

-- Is a source what a register held at first, or an output of one of so many items?
abbrev pub is_known_source : ℕ → Source → Bool
is_known_source items (Entry r) = true
is_known_source items (Item from place) = nat_lt from items

-- Choices, the last first, were issued so that the items from the first on have these cycles.
abbrev pub HasCycles : List ℕ → List Choice → List Issued → Type 0
HasCycles cycles choices done =
    EachIndex cycles (λ q. cycle_of q choices done ≡ slice_index cycles q)

-- A schedule was pushed, so that these are the latest cycles of the items from the first on. An
-- item is issued at most 512 cycles behind the one before it.
pub record IsPassed (problem : Problem) (schedule : List Choice) (pushes : List Push) (latest : List ℕ) : Type 0 where
  pub are_issued : issued pushes ≡ timed problem.costs (sources_in problem) schedule
  pub count : length pushes ≡ length schedule
  pub items : length latest ≡ length problem.graph.items
  pub has : HasCycles latest (reverse schedule) (issued pushes)
  pub early : EachIndex latest (λ q. slice_index latest q ≤ 512 * length schedule)
  pub free : IsFreeBy (512 * length schedule) (issued pushes)
