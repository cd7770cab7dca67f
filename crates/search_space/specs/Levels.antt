-- The search by levels: what a tree has at a level, and the verdict over levels and trees. Source:
-- branch and bound with iterative deepening, as filtered lists.
use Rattle.std.specs.Prelude.{ℕ, Bool, zero, suc, ◌+◌, ◌-◌, ◌&&◌, nat_le, nat_lt, map, filter, min, List, [], ◌∷◌, length, reverse, take, Option, None, Some, if◌then◌else◌}
use Rattle.std.specs.List.{find}
use Rattle.sl_model.specs.declared.schedule.Choice.{Choice}
use Rattle.sl_model.specs.Body.{is_full}
use Rattle.sl_model.specs.Legal.{Problem, IsLegalFrom}
use Rattle.sl_model.specs.Space.{IsReducedFrom, stalls_of}
use Rattle.search_space.specs.Searchable.{IsSearchable}
use Rattle.search_space.specs.Next.{next_choices}
use Rattle.search_space.specs.Going.{going_on}
use Rattle.search_space.specs.Bound.{bound}

-- ---- trees

-- A tree: a problem, and the choice that its lists begin with, where there is one.
pub record Tree : Type 0 where
  pub problem : Problem
  pub first : Option Choice

-- the choices that the lists of a tree begin with
abbrev pub begun : Option Choice → List Choice
begun None = []
begun (Some c) = c ∷ []

-- A tree that can be searched: its problem can be, and what its lists begin with is legal and
-- reduced.
pub record IsTree (tree : Tree) : Type 0 where
  pub searchable : IsSearchable tree.problem
  pub legal : IsLegalFrom tree.problem [] (begun tree.first)
  pub reduced : IsReducedFrom tree.problem [] (begun tree.first)

-- the trees of so many items, where these choices may come first
abbrev pub trees_by : Problem → ℕ → List Choice → List Tree
trees_by problem zero firsts = record { problem = problem; first = None } ∷ []
trees_by problem (suc n) firsts = map (λ c. record { problem = problem; first = Some c }) firsts

-- The trees of a straight problem: one for each choice that may come first, and an empty one where
-- it has no items.
unfoldable pub straight_trees : Problem → List Tree
straight_trees problem = trees_by problem (length problem.graph.items) (next_choices problem [])

-- ---- entries

-- Is the bound of a list of choices at most the level?
abbrev pub is_within : Problem → ℕ → List Choice → Bool
is_within problem level choices = nat_le (bound problem (reverse choices)) level

-- the lists within the level that go on from choices made so far, the last first, with at most so
-- many more
unfoldable pub entries_from : Problem → ℕ → ℕ → List Choice → List (List Choice)
entries_from problem level more done =
    filter (is_within problem level) (going_on (next_choices problem) more done)

-- the legal lists of reduced choices that belong to a tree and are within the level, in their order
unfoldable pub entries : Tree → ℕ → List (List Choice)
entries tree level =
    entries_from tree.problem level
    (length tree.problem.graph.items - length (begun tree.first)) (begun tree.first)

-- ---- outcomes

-- Is a list of choices a solution: full, with stalls at most the level?
unfoldable pub is_solution : Problem → ℕ → List Choice → Bool
is_solution problem level choices =
    is_full problem.graph.order choices && nat_le (stalls_of problem choices) level

-- what a search of a tree comes to: a schedule, the end of its budget, or nothing
pub data Outcome : Type 0 where
  Found : (schedule : List Choice) → Outcome
  Spent : Outcome
  Nothing : Outcome

-- the first solution, where there is one, else whether there are more entries than were looked at
abbrev pub outcome_by : Option (List Choice) → Bool → Outcome
outcome_by (Some schedule) more = Found schedule
outcome_by None more = if more then Spent else Nothing

-- What a list of entries has: the first solution, where it is among as many as the budget; else
-- whether there are more entries than that.
unfoldable pub outcome_of : Problem → ℕ → ℕ → List (List Choice) → Outcome
outcome_of problem level budget lists =
    outcome_by (find (is_solution problem level) (take budget lists)) (nat_lt budget (length lists))

-- the outcome of a tree at a level
unfoldable pub outcome : ℕ → ℕ → Tree → Outcome
outcome budget level tree = outcome_of tree.problem level budget (entries tree level)

-- the place of the first solution, counted from 1, or of the end of the list
unfoldable pub first_place : Problem → ℕ → List (List Choice) → ℕ
first_place problem level [] = 1
first_place problem level (x ∷ lists) =
    if is_solution problem level x then 1 else suc (first_place problem level lists)

-- How many entries are looked at: up to the first solution, or the end of the list, or as many as
-- the budget.
unfoldable pub visited : Problem → ℕ → ℕ → List (List Choice) → ℕ
visited problem level budget lists =
    min budget (min (length lists) (first_place problem level lists))

-- ---- the verdict

-- the first outcome that isn't nothing, with its level and its tree's place; or none is
pub data Verdict : Type 0 where
  First : (level tree : ℕ) (outcome : Outcome) → Verdict
  Infeasible : Verdict

-- The verdict of a level, where the trees are counted from a number: its first outcome that isn't
-- nothing; else what the later levels say.
unfoldable pub level_verdict : ℕ → ℕ → List Outcome → Verdict → Verdict
level_verdict level tree [] later = later
level_verdict level tree (Nothing ∷ outcomes) later =
    level_verdict level (tree + 1) outcomes later
level_verdict level tree (Found schedule ∷ outcomes) later = First level tree (Found schedule)
level_verdict level tree (Spent ∷ outcomes) later = First level tree Spent

-- the verdict of so many levels from one on
unfoldable pub verdict_from : (ℕ → List Outcome) → ℕ → ℕ → Verdict
verdict_from outcomes level zero = Infeasible
verdict_from outcomes level (suc more) =
    level_verdict level 0 (outcomes level) (verdict_from outcomes (level + 1) more)

-- the verdict of a forest, where a schedule may have at most so many stalls, and as many entries of
-- a tree are looked at as the budget says
unfoldable pub verdict : List Tree → ℕ → ℕ → Verdict
verdict forest most budget =
    verdict_from (λ level. map (outcome budget level) forest) 0 (most + 1)
