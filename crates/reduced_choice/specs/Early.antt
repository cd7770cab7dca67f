-- Which choices come too early. Source: the order of choices, by the first difference of their
-- keys.
use Rattle.std.specs.Prelude.{ℕ, Bool, false, ◌==◌, nat_lt, List, [], ◌∷◌, Option, None, Some, if◌then◌else◌}
use Rattle.sl_model.specs.declared.schedule.Choice.{Choice}
use Rattle.sl_model.specs.Space.{choice_key}

-- Is the first difference of two lists of numbers lower in the first one? Where the first one ends
-- and the other goes on, it is as `ends` says.
unfoldable pub is_lower : Bool → List ℕ → List ℕ → Bool
is_lower ends [] [] = false
is_lower ends [] (y ∷ ys) = ends
is_lower ends (x ∷ xs) [] = false
is_lower ends (x ∷ xs) (y ∷ ys) = if x == y then is_lower ends xs ys else nat_lt x y

-- Do all choices that begin as this one does come before another, where there is another?
unfoldable pub is_early : Option Choice → Choice → Bool
is_early None front = false
is_early (Some a) front = is_lower false (choice_key front) (choice_key a)
