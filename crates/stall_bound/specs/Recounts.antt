-- What a recount keeps of the choices made so far. Source: the issue rule, counted from the first
-- choice.
use Rattle.std.specs.Prelude.{ℕ, ◌≡◌, ◌*◌, ◌<◌, List, length, slice_index_or, Option, None, Some, if◌then◌else◌}
use Rattle.sl_model.specs.declared.schedule.Choice.{Choice}
use Rattle.sl_model.specs.declared.limits.TheConstants.{ITEMS}
use Rattle.sl_model.specs.Cycles.{cycle_of}
use Rattle.sl_model.specs.Body.{is_placed}
use Rattle.sl_model.specs.Legal.{Problem}
use Rattle.search_space.specs.Bound.{issued_for}
use Rattle.issue_cost.specs.Tallies.{Tallies}
use Rattle.issue_cost.specs.Timeline.{IsFreeBy}
use Rattle.stall_bound.specs.declared.recount.Recount.{Recount}

-- In what follows `done` is the choices made so far, the last first.

-- the cycle of an item, where it was placed
unfoldable pub placed_at : Problem → List Choice → ℕ → Option ℕ
placed_at problem done item =
    if is_placed done item then Some (cycle_of item done (issued_for problem done)) else None

-- A recount has the tally of what was issued for the choices, how many they are, and the cycle of
-- each item that was placed. All is over at most 512 cycles later with each choice.
pub record Recounts (problem : Problem) (done : List Choice) (recount : Recount) : Type 0 where
  pub tally : Tallies (issued_for problem done) recount.tally
  pub placed : recount.placed ≡ length done
  pub items : length recount.cycles ≡ ITEMS
  pub cycles : (item : ℕ) → item < ITEMS
      → slice_index_or recount.cycles item None ≡ placed_at problem done item
  pub soon : IsFreeBy (512 * length done) (issued_for problem done)

-- a recount of some choices of a problem
abbrev pub IsRecount : Problem → Recount → Type 0
IsRecount problem recount = (done : List Choice) × Recounts problem done recount
