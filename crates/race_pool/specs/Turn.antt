-- What a search of one tree told. Source: none; the race's own.
use Rattle.std.specs.Prelude.{◌≡◌, ◌≢◌, ℕ, ◌<◌, Bool, true, false}
use Rattle.race_pool.specs.declared.forest.Outcome.{Outcome}
use Rattle.race_pool.specs.declared.forest.Outcome.TheVariants.{Found, Nothing, Spent, Cancelled}

-- What is told is so; a search is called off where a lower tree has something.
abbrev pub Searched : (ℕ → Outcome) → (ℕ → Type 0) → ℕ → ℕ → Outcome → Type 0
Searched outcome holds count tree Found = (outcome tree ≡ Found) × holds tree
Searched outcome holds count tree Spent = outcome tree ≡ Spent
Searched outcome holds count tree Nothing = outcome tree ≡ Nothing
Searched outcome holds count tree Cancelled = (t : ℕ) × (t < tree) × (t < count) × (outcome t ≢ Nothing)

-- the search found a solution, or spent its budget
abbrev pub decided : Outcome → Bool
decided Found = true
decided Spent = true
decided Nothing = false
decided Cancelled = false
