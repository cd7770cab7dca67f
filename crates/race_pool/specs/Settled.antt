-- What the least published tree of a level is, once all workers have ended. Source: the first of a list that passes a test.
use Rattle.std.specs.Prelude.{◌≡◌, ℕ, ◌%◌, ◌<◌, false, List, Option, Some, None, slice_get, IsSomeAnd}
use Rattle.race_pool.specs.declared.forest.Outcome.{Outcome}
use Rattle.race_pool.specs.declared.forest.Outcome.TheVariants.{Nothing}
use Rattle.race_pool.specs.Level.{IsFirst, IsSpent}
use Rattle.race_pool.specs.declared.best.Best.{Best}

-- None was published where none has anything; else it is the first that has, and where it has a solution, the worker whose turn it was holds it.
abbrev pub Answered : {W : Type 0} → (ℕ → Outcome) → ℕ → ℕ → (W → ℕ → Type 0) → List W → Option Best → Type 0
Answered outcome count stride holds workers None = (t : ℕ) → t < count → outcome t ≡ Nothing
Answered outcome count stride holds workers (Some b) =
    IsFirst outcome count b.tree × IsSpent outcome b.tree b.spent
    × (b.spent ≡ false → IsSomeAnd (slice_get workers (b.tree % stride)) (λ w. holds w b.tree))
