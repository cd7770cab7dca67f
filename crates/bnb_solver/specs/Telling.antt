-- What the search of a tree tells: its outcome, and how far it went. Source: the outcome of branch and
-- bound within a level and a budget, which is counted in nodes.
use Rattle.std.specs.Prelude.{ℕ, Bool, true, false, ◌≡◌, ◌+◌, ◌≤◌, List}
use Rattle.sl_model.specs.declared.schedule.Choice.{Choice}
use Rattle.sl_model.specs.Legal.{Problem}
use Rattle.search_space.specs.Levels as levels
use Rattle.search_space.specs.Levels.{visited, outcome_of, entries_from}
use Rattle.search_space.specs.Levels.Outcome.{Found, Spent, Nothing}
use Rattle.race_pool.specs.declared.forest.Outcome.{Outcome}
use Rattle.race_pool.specs.declared.forest.Outcome.TheVariants as ends

-- an outcome without its schedule
abbrev pub plain : levels.Outcome → Outcome
plain (Found schedule) = ends.Found
plain Spent = ends.Spent
plain Nothing = ends.Nothing

-- What was told is the outcome, with the schedule that was found. Of a search that was called off
-- nothing is said.
abbrev pub Tells : Outcome → List Choice → levels.Outcome → Type 0
Tells ends.Found found o = o ≡ Found found
Tells ends.Nothing found o = o ≡ Nothing
Tells ends.Spent found o = o ≡ Spent
Tells ends.Cancelled found o = Unit {0}

-- Was the search called off?
abbrev pub is_cancelled : Outcome → Bool
is_cancelled ends.Found = false
is_cancelled ends.Nothing = false
is_cancelled ends.Spent = false
is_cancelled ends.Cancelled = true

-- Is there nothing?
abbrev pub is_nothing : Outcome → Bool
is_nothing ends.Found = false
is_nothing ends.Nothing = true
is_nothing ends.Spent = false
is_nothing ends.Cancelled = false

-- Of a number that another and a third make up: exactly, and at most where the search was called off.
abbrev pub Sees : Outcome → ℕ → ℕ → ℕ → Type 0
Sees ends.Found all rest seen = all ≡ rest + seen
Sees ends.Nothing all rest seen = all ≡ rest + seen
Sees ends.Spent all rest seen = all ≡ rest + seen
Sees ends.Cancelled all rest seen = all ≤ rest + seen

-- What a search told that went on from choices made so far, the last first, with at most so many more:
-- the outcome of the entries that go on from them; and the budget was spent on those that were looked
-- at, up to the rest.
pub record Searched (problem : Problem) (level more : ℕ) (done : List Choice) (budget rest : ℕ)
    (told : Outcome) (found : List Choice) : Type 0 where
  pub finds : Tells told found
      (outcome_of problem level budget (entries_from problem level more done))
  pub sees : Sees told budget rest
      (visited problem level budget (entries_from problem level more done))

-- How many choices were pushed, where so many entries had to be looked at: as many, or one less or
-- more; and no more than that where the search was called off.
abbrev pub AreBounded : Outcome → ℕ → ℕ → Type 0
AreBounded ends.Found pushes seen = (pushes ≤ seen + 1) × (seen ≤ pushes + 1)
AreBounded ends.Nothing pushes seen = (pushes ≤ seen + 1) × (seen ≤ pushes + 1)
AreBounded ends.Spent pushes seen = (pushes ≤ seen + 1) × (seen ≤ pushes + 1)
AreBounded ends.Cancelled pushes seen = pushes ≤ seen + 1
