-- What items need, one after the other.
use Rattle.std.proofs.Common.{◌≡◌, ℕ, ◌+◌, false, max, List, [], ◌∷◌, map, refl, sym, ap₂, ◌∙◌, arith}
use Rattle.std.proofs.lemmas.Bool.{cond-false}
use Rattle.sl_model.specs.declared.schedule.Choice.{Choice}
use Rattle.sl_model.specs.Body.{is_placed}
use Rattle.sl_model.specs.Cycles.{first_slot}
use Rattle.sl_model.specs.Legal.{Problem, sources_in}
use Rattle.search_space.specs.Bound.{issued_for, greatest, known_from, earliest, height, needs}

-- the greatest of two numbers, whichever comes first
max-turned : (m n : ℕ) → max m n ≡ max n m
max-turned m n = omega arith

-- an item that wasn't placed
pub needs-unplaced : (problem : Problem) (done : List Choice) (item known slot tall : ℕ) → is_placed done item ≡ false
    → known ≡ known_from problem done item 0 (sources_in problem item) → slot ≡ first_slot problem.costs.width (issued_for problem done) → tall ≡ height problem item
    → max known slot + tall ≡ needs problem done item
unfolding earliest
needs-unplaced problem done item known slot tall none is_known is_slot is_tall =
    ap₂ (λ m n. m + n) (max-turned known slot ∙ ap₂ max is_slot is_known) is_tall
    ∙ sym (cond-false (is_placed done item) 0 (earliest problem done item + height problem item) none)

-- the greatest of what some items need
abbrev pub most_needed : Problem → List Choice → List ℕ → ℕ
most_needed problem done items = greatest (map (needs problem done) items)

pub needs-step : (problem : Problem) (done : List Choice) (k item : ℕ) (items : List ℕ) → most_needed problem done (item ∷ items) ≡ max (needs problem done item) (most_needed problem done items)
unfolding greatest
needs-step problem done k item items = refl

pub needs-none : (problem : Problem) (done : List Choice) (k : ℕ) → most_needed problem done [] ≡ 0
unfolding greatest
needs-none problem done k = refl
