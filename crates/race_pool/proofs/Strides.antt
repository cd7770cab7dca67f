-- The trees of one worker of several.
use Rattle.std.proofs.Common.{◌≡◌, ℕ, ◌+◌, ◌%◌, ◌<◌, ◌≤◌, sym, ◌∙◌, subst, arith}
use native.Mathlib.Decide.{dec_le}
use Rattle.atomic_table.proofs.Lists.{one_turn}
use Rattle.race_pool.specs.declared.forest.Outcome.{Outcome}
use Rattle.race_pool.specs.declared.forest.Outcome.TheVariants.{Nothing}

-- one tree more
pub mine_more : (outcome : ℕ → Outcome) (tree stride first : ℕ) → tree % stride ≡ first → ((t : ℕ) → t < tree → t % stride ≡ first → outcome t ≡ Nothing) → outcome tree ≡ Nothing → (t : ℕ) → t < tree + stride → t % stride ≡ first → outcome t ≡ Nothing
mine_more outcome tree stride first at earlier here t lt mine = go (dec_le tree t)
  where
    go : Dec (tree ≤ t) → outcome t ≡ Nothing
    go (yes le) = subst (λ (k : ℕ). outcome k ≡ Nothing) (one_turn tree t stride le lt (at ∙ sym mine)) here
    go (no n) = earlier t (omega (arith, n)) mine
