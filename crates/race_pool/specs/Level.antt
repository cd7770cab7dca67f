-- What the trees of a level have. The outcomes are given as a function of the tree. Source: the first
-- of a list that passes a test.
use Rattle.std.specs.Prelude.{◌≡◌, ◌≢◌, ℕ, ◌<◌, Bool, true, false, List, ◌⊎◌, IsSomeAnd, slice_get}
use Rattle.race_pool.specs.declared.forest.Outcome.{Outcome}
use Rattle.race_pool.specs.declared.forest.Outcome.TheVariants.{Found, Nothing, Spent}
use Rattle.race_pool.specs.declared.level.LevelAnswer.{LevelAnswer}
use Rattle.race_pool.specs.declared.level.LevelAnswer.TheVariants.{AllNothing, First}

-- All of so many trees have nothing.
abbrev pub HaveNothing : (ℕ → Outcome) → ℕ → Type 0
HaveNothing outcome count = (tree : ℕ) → tree < count → outcome tree ≡ Nothing

-- A tree is the first of so many that has something.
abbrev pub IsFirst : (ℕ → Outcome) → ℕ → ℕ → Type 0
IsFirst outcome count tree =
    (tree < count) × (outcome tree ≢ Nothing) × HaveNothing outcome tree

-- Its budget was spent, or it has a solution.
abbrev pub IsSpent : (ℕ → Outcome) → ℕ → Bool → Type 0
IsSpent outcome tree spent =
    ((spent ≡ true) × (outcome tree ≡ Spent)) ⊎ ((spent ≡ false) × (outcome tree ≡ Found))

-- what is answered of a level of so many trees
abbrev pub IsLevelAnswer : (ℕ → Outcome) → ℕ → LevelAnswer → Type 0
IsLevelAnswer outcome count AllNothing = HaveNothing outcome count
IsLevelAnswer outcome count (First tree worker spent) =
    IsFirst outcome count tree × IsSpent outcome tree spent

-- The worker at a place holds the solution of a tree.
abbrev pub IsHeld : {W : Type 0} → (W → ℕ → Type 0) → List W → ℕ → ℕ → Type 0
IsHeld holds workers worker tree = IsSomeAnd (slice_get workers worker) (λ w. holds w tree)

-- Where the first tree has a solution, the worker that is named holds it.
abbrev pub HoldsFirst : {W : Type 0} → (W → ℕ → Type 0) → List W → LevelAnswer → Type 0
HoldsFirst holds workers AllNothing = Unit {0}
HoldsFirst holds workers (First tree worker spent) =
    spent ≡ false → IsHeld holds workers worker tree
