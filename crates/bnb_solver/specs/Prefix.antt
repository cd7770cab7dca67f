-- A prefix of a schedule. Source: the choices that lead to a node of a depth-first search.
use Rattle.std.specs.Prelude.{ℕ, ◌≡◌, ◌≤◌, List, length, reverse}
use Rattle.sl_model.specs.declared.schedule.Choice.{Choice}
use Rattle.sl_model.specs.Legal.{Problem}
use Rattle.search_space.specs.Searchable.{AreMade}
use Rattle.stall_bound.specs.Prepared.{heights_of}

-- A prefix: the heights of the items of the problem that it was started with, the choices that were
-- made since, in their order, and for how many items there is room.
pub record Prefix : Type 0 where
  pub heights : List ℕ
  pub choices : List Choice
  pub room : ℕ

-- A prefix of a problem: it was started with it, or with one of the same heights; each choice was
-- legal after those before it; and there is room for all items.
pub record IsPrefixOf (problem : Problem) (prefix : Prefix) : Type 0 where
  pub heights : prefix.heights ≡ heights_of problem
  pub made : AreMade problem (reverse prefix.choices)
  pub room : length problem.graph.items ≤ prefix.room
