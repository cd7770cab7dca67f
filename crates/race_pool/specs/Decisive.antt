-- Which trees of a level are decisive: those that have something. Source: the search by levels.
use Rattle.std.specs.Prelude.{◌≡◌, ℕ, suc, zero, Bool, true, false, List, [], ◌∷◌, cond, ◌⊎◌}
use Rattle.race_pool.specs.declared.forest.Outcome.{Outcome}
use Rattle.race_pool.specs.declared.forest.Outcome.TheVariants.{Found, Nothing, Spent, Cancelled}
use Rattle.race_pool.specs.declared.key.Level.{Level}

-- the outcome of a tree that has nothing
abbrev pub is_nothing : Outcome → Bool
is_nothing Nothing = true
is_nothing Found = false
is_nothing Spent = false
is_nothing Cancelled = false

-- the decisive trees below a count, the last one first
abbrev pub decisive_below : (ℕ → Outcome) → ℕ → List ℕ
decisive_below outcome zero = []
decisive_below outcome (suc n) = cond (is_nothing (outcome n)) (decisive_below outcome n) (n ∷ decisive_below outcome n)

-- a level: how many trees there are, and which are decisive
abbrev pub level_of : (ℕ → Outcome) → ℕ → Level
level_of outcome count = record { count = count; decisive = decisive_below outcome count }

-- a number of the list
abbrev pub Has : List ℕ → ℕ → Type 0
Has [] x = ⊥
Has (y ∷ ys) x = (x ≡ y) ⊎ Has ys x
