-- What the workers of a race leave. Source: none; the workers' own.
use Rattle.std.specs.Prelude.{◌≡◌, ◌≢◌, ℕ, suc, ◌%◌, ◌<◌, ◌≤◌, ◌⊎◌, List, [], ◌∷◌, Option, Some, None}
use Rattle.race_pool.specs.declared.forest.Outcome.{Outcome}
use Rattle.race_pool.specs.declared.forest.Outcome.TheVariants.{Found, Nothing}
use Rattle.race_pool.specs.Level.{IsSpent}
use Rattle.race_pool.specs.declared.best.Best.{Best}

-- the least tree that was published, or the count
abbrev pub least : ℕ → Option Best → ℕ
least count None = count
least count (Some b) = b.tree

-- a tree that was published has something, and its budget was spent or it has a solution
abbrev pub IsFound : (ℕ → Outcome) → ℕ → Option Best → Type 0
IsFound outcome count None = Unit {0}
IsFound outcome count (Some b) = (b.tree < count) × IsSpent outcome b.tree b.spent

-- Worker k of so many stopped: each of its trees below the stop has nothing.
-- It had no tree left, or published the decisive tree at the stop, or was told of a decisive tree below the stop.
abbrev pub Ended : (ℕ → Outcome) → ℕ → ℕ → ℕ → (ℕ → Type 0) → ℕ → Type 0
Ended outcome count stride bound holds k =
    (stop : ℕ) × ((t : ℕ) → t < stop → t < count → t % stride ≡ k → outcome t ≡ Nothing)
    × ((count ≤ stop)
    ⊎ ((stop < count) × (bound ≤ stop) × (outcome stop ≢ Nothing) × (outcome stop ≡ Found → holds stop))
    ⊎ ((t : ℕ) × (t < stop) × (t < count) × (outcome t ≢ Nothing)))

-- the workers from k on
abbrev pub EachEnded : {W : Type 0} → (ℕ → Outcome) → ℕ → ℕ → ℕ → (W → ℕ → Type 0) → ℕ → List W → Type 0
EachEnded outcome count stride bound holds k [] = Unit {0}
EachEnded outcome count stride bound holds k (w ∷ ws) = Ended outcome count stride bound (holds w) k × EachEnded outcome count stride bound holds (suc k) ws
