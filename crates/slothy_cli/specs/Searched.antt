-- What the search of a problem's trees comes to, and what is known of the schedule that it finds. Source: the verdict over levels and trees.
use Rattle.std.specs.Prelude.{ℕ, ◌≡◌, ◌<◌, ◌≤◌, nat_lt, List, length, Result, Ok, Err, if◌then◌else◌}
use Rattle.sl_model.specs.declared.schedule.Choice.{Choice}
use Rattle.sl_model.specs.Isa.{Isa}
use Rattle.sl_model.specs.Legal.{Problem, IsFullLegal}
use Rattle.sl_model.specs.Space.{IsBest, stalls_of}
use Rattle.search_space.specs.Levels.{Verdict, straight_trees, verdict}
use Rattle.search_space.specs.Levels.Outcome.{Found, Spent, Nothing}
use Rattle.search_space.specs.Levels.Verdict.{First, Infeasible}
use Rattle.search_space.specs.Searchable.{IsSearchable}
use Rattle.bnb_solver.specs.declared.refusal.TheConstants.{TREES}
use Rattle.slothy_cli.specs.declared.stop.Stop.{Stop}
use Rattle.slothy_cli.specs.declared.stop.Stop.TheVariants as stops
use Rattle.slothy_cli.specs.declared.stop.File.TheVariants as files
use Rattle.slothy_cli.specs.declared.stop.Quantity.TheVariants as quantities
use Rattle.slothy_cli.specs.Command.{Aim}
use Rattle.slothy_cli.specs.Plan.{region_problem}
use Rattle.slothy_cli.specs.Setting.{Setting}

-- the reason to stop of a search with too many trees
abbrev pub too_many_trees : Stop
too_many_trees = stops.TooLarge files.Input 0 quantities.Trees TREES

-- The schedule of a verdict, or the reason why it has none. A first outcome is never nothing.
abbrev pub schedule_in : ℕ → Verdict → Result (List Choice) Stop
schedule_in most (First level tree (Found schedule)) = Ok schedule
schedule_in most (First level tree Spent) = Err (stops.Budget level tree)
schedule_in most (First level tree Nothing) = Err (stops.Infeasible most)
schedule_in most Infeasible = Err (stops.Infeasible most)

-- What the search of a problem's trees gives: the schedule of their verdict, unless there are too
-- many.
unfoldable pub searched : Problem → ℕ → ℕ → Result (List Choice) Stop
searched problem most budget =
    if nat_lt TREES (length (straight_trees problem)) then Err too_many_trees
    else schedule_in most (verdict (straight_trees problem) most budget)

-- the same of the problem of a region on a core
abbrev pub region_searched : Isa → Aim → Setting → Result (List Choice) Stop
region_searched isa aim setting =
    searched (region_problem isa aim setting) aim.most aim.budget

-- No full legal schedule, whatever its order, units and registers, has fewer stalls than this one.
abbrev pub HasFewest : Problem → List Choice → Type 0
HasFewest problem schedule = (other : List Choice) → IsFullLegal problem other
    → stalls_of problem schedule ≤ stalls_of problem other

-- No full legal schedule, whatever its order, units and registers, has at most so many stalls.
abbrev pub IsOutOfReach : Problem → ℕ → Type 0
IsOutOfReach problem most = (other : List Choice) → IsFullLegal problem other
    → most < stalls_of problem other

-- A schedule is the best of the problem of a region on a core.
pub record IsBestOf (isa : Isa) (aim : Aim) (setting : Setting) (problem : Problem)
    (schedule : List Choice) : Type 0 where
  pub is : problem ≡ region_problem isa aim setting
  pub searchable : IsSearchable problem
  pub best : IsBest problem aim.most schedule
