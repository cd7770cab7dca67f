-- The best of listed schedules. Source: the definition of the best of a space, read as a choice from
-- a list in its order.
use Rattle.std.specs.Prelude.{ℕ, Bool, nat_le, filter, List, [], ◌∷◌, Option, None, Some, if◌then◌else◌}
use Rattle.sl_model.specs.declared.schedule.Choice.{Choice}
use Rattle.sl_model.specs.Legal.{Problem}
use Rattle.sl_model.specs.Space.{stalls_of}
use Rattle.search_space.specs.Going.{full_lists}

-- of a schedule and what is best behind it, the one with fewer stalls, and the first of as many
abbrev pub better_of : Problem → List Choice → Option (List Choice) → Option (List Choice)
better_of problem x None = Some x
better_of problem x (Some y) =
    if nat_le (stalls_of problem x) (stalls_of problem y) then Some x else Some y

-- the first of those with the fewest stalls
unfoldable pub first_fewest : Problem → List (List Choice) → Option (List Choice)
first_fewest problem [] = None
first_fewest problem (x ∷ lists) = better_of problem x (first_fewest problem lists)

-- Has a schedule at most so many stalls?
abbrev pub has_at_most : Problem → ℕ → List Choice → Bool
has_at_most problem most x = nat_le (stalls_of problem x) most

-- the space of a problem as a list, in its order
unfoldable pub members : Problem → ℕ → List (List Choice)
members problem most = filter (has_at_most problem most) (full_lists problem)

-- the best of the space, where it isn't empty
unfoldable pub best : Problem → ℕ → Option (List Choice)
best problem most = first_fewest problem (members problem most)
