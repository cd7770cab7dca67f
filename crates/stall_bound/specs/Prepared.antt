-- What is kept to tell the bounds of a problem's lists of choices. Source: the longest paths of
-- latencies of list scheduling.
use Rattle.std.specs.Prelude.{ℕ, map, List, length}
use Rattle.sl_model.specs.Source.{numbers_below}
use Rattle.sl_model.specs.Legal.{Problem}
use Rattle.search_space.specs.Bound.{height}

-- for how many items there is room, and the heights of the items of the problem prepared for
pub record Prepared : Type 0 where
  pub room : ℕ
  pub heights : List ℕ

-- the height of each item of a problem, by the items' numbers
abbrev pub heights_of : Problem → List ℕ
heights_of problem = map (height problem) (numbers_below (length problem.graph.items))
