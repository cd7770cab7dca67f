-- The rule of the word that the workers of a race share, and its steps. Source: none; the race's own.
use Rattle.std.specs.Prelude.{◌≡◌, ℕ, ◌≤◌, ◌⊎◌, min, true, false, [], ◌∷◌}
use mathlib.Core.Option.{some}
use lib.ListN.{get_elem?}
use Rattle.atomic_table.specs.Table.{State, Me, Step}
use Rattle.race_pool.specs.Decisive.{Has}
use Rattle.race_pool.specs.declared.key.Level.{Level}
use Rattle.race_pool.specs.declared.rule.View.{View}

-- what a worker knows that has published nothing
abbrev pub newcomer : Level → View
newcomer level = record { live = true; best = level.count; level = level }

-- what the view is of a seat that was given back
abbrev pub spent : View
spent = record { live = false; best = 0; level = record { count = 0; decisive = [] } }

-- what two workers know together
abbrev pub joined : View → View → View
joined v w = record { live = v.live; best = min v.best w.best; level = v.level }

-- what a worker knows that has published one tree more
abbrev pub with_best : View → ℕ → View
with_best v tree = record { live = v.live; best = min v.best tree; level = v.level }

-- a word is the number of trees, or a decisive tree
-- A word is the number of trees, or a decisive tree.
abbrev pub IsMark : Level → ℕ → Type 0
IsMark level word = (word ≤ level.count) × ((word ≡ level.count) ⊎ Has level.decisive word)

-- The word is at most the least tree that a worker published, who knows the level.
abbrev pub Fits : Level → ℕ → View → Type 0
Fits level word v = v.live ≡ true → (word ≤ v.best) × (v.level ≡ level)

-- What always holds of the one word and of what the workers know.
abbrev pub Kept : Level → State (Unit {0}) View → Type 0
Kept level s =
    ((n : ℕ) × (s.words ≡ n ∷ []) × IsMark level n
    × ((id : ℕ) (v : View) → get_elem? s.views id ≡ some v → Fits level n v))

-- A load changes nothing, and finds a word of the level that is at most what the worker published.
abbrev pub looked : Step (Unit {0}) → Me (Unit {0}) View → ℕ → Me (Unit {0}) View → Type 0
looked step before found after = (after ≡ before) × (found ≤ before.0.best) × IsMark before.0.level found

-- what a worker knows once it has published
abbrev pub published : Step (Unit {0}) → Me (Unit {0}) View → ℕ → Me (Unit {0}) View → Type 0
published step before found after = after ≡ (with_best before.0 step.first, before.1)
