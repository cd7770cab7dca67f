-- The trees of a straight problem, by their numbers. Source: the trees of a search, as a list.
use Rattle.std.specs.Prelude.{ℕ, ◌≡◌, ◌<◌, map, List, length, slice_index_or, Option, None, Some}
use Rattle.sl_model.specs.declared.schedule.Choice.{Choice}
use Rattle.sl_model.specs.Legal.{Problem}
use Rattle.search_space.specs.Levels.{Tree, straight_trees}
use Rattle.bnb_solver.specs.declared.refusal.ForestErr.{ForestErr}
use Rattle.bnb_solver.specs.declared.refusal.ForestErr.TheVariants.{TooManyTrees, NoMemory}
use Rattle.bnb_solver.specs.declared.refusal.TheConstants.{TREES}

-- a straight problem, and how many entries of a tree are looked at
pub record Straight : Type 0 where
  pub problem : Problem
  pub budget : ℕ

-- the tree of a problem that begins with a choice, where there is one
abbrev pub tree_of : Problem → Option Choice → Tree
tree_of problem first = record { problem = problem; first = first }

-- what the trees of a straight problem begin with
unfoldable pub beginnings : Problem → List (Option Choice)
beginnings problem = map (λ tree. tree.first) (straight_trees problem)

-- the tree of a number
abbrev pub tree_at : Problem → ℕ → Tree
tree_at problem place = tree_of problem (slice_index_or (beginnings problem) place None)

-- There are more trees than the limit, or memory ran out.
abbrev pub IsRefused : Problem → ForestErr → Type 0
IsRefused problem (TooManyTrees limit) =
    (limit ≡ TREES) × (TREES < length (straight_trees problem))
IsRefused problem NoMemory = Unit {0}
