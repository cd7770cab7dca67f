-- The verdict of so many trees over levels. The outcomes are given as a function of tree and level.
-- Source: iterative deepening.
use Rattle.std.specs.Prelude.{◌≡◌, ℕ, ◌<◌, ◌≤◌, false, List}
use Rattle.race_pool.specs.declared.forest.Outcome.{Outcome}
use Rattle.race_pool.specs.declared.verdict.Verdict.{Verdict}
use Rattle.race_pool.specs.declared.verdict.Verdict.TheVariants.{Infeasible, First}
use Rattle.race_pool.specs.Level.{HaveNothing, IsFirst, IsSpent, IsHeld}

-- The first tree that has something, at the first level where one has, up to a level; or none has.
abbrev pub IsVerdict : (ℕ → ℕ → Outcome) → ℕ → ℕ → Verdict → Type 0
IsVerdict outcome count most Infeasible =
    (level : ℕ) → level ≤ most → HaveNothing (λ t. outcome t level) count
IsVerdict outcome count most (First level tree worker spent) =
    (level ≤ most) × IsFirst (λ t. outcome t level) count tree
    × IsSpent (λ t. outcome t level) tree spent
    × ((lower : ℕ) → lower < level → HaveNothing (λ t. outcome t lower) count)

-- Where that tree has a solution, the worker that is named holds it.
abbrev pub HoldsVerdict : {W : Type 0} → (W → ℕ → ℕ → Type 0) → List W → Verdict → Type 0
HoldsVerdict holds workers Infeasible = Unit {0}
HoldsVerdict holds workers (First level tree worker spent) =
    spent ≡ false → IsHeld (λ w t. holds w t level) workers worker tree
