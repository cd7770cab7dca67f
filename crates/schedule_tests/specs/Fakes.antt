-- What the trees of tests have. Source: none; these are made up.
use Rattle.std.specs.Prelude.{ℕ, zero, suc}
use Rattle.race_pool.specs.declared.forest.Outcome.{Outcome}
use Rattle.race_pool.specs.declared.forest.Outcome.TheVariants.{Nothing, Spent}

-- The budget of tree 0 is spent, and each other tree has nothing.
abbrev pub first_spent : ℕ → Outcome
first_spent zero = Spent
first_spent (suc n) = Nothing
