-- What a stop of a race was told. Source: none; the race's own.
use Rattle.std.specs.Prelude.{ℕ, Bool, false, ◌||◌, nat_lt, List, [], ◌∷◌}

-- some tree of the list is below the tree
abbrev pub has_below : ℕ → List ℕ → Bool
has_below tree [] = false
has_below tree (x ∷ xs) = nat_lt x tree || has_below tree xs
