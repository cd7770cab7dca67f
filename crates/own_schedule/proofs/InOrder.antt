-- The items of a problem, one after the other.
use Rattle.std.proofs.Common.{◌≡◌, ◌≤◌, ◌∙◌, ◌+◌, ℕ, Bool, true, List, [], ◌∷◌, ◌++◌, length, refl, sym, ap, arith}
use Rattle.std.specs.List.{fold, list_all}
use Rattle.std.proofs.lemmas.Bool.{and_from}
use Rattle.std.proofs.lemmas.List.Folds.{list_all-append}
use Rattle.std.proofs.lemmas.List.Sums.{fold-append}
use Rattle.sl_model.specs.declared.schedule.Choice.{Choice}
use Rattle.sl_model.specs.Source.{numbers_below}
use Rattle.sl_model.specs.Legal.{Problem}
use Rattle.sl_laws.proofs.Numbers.{numbers-next}
use Rattle.core_text.specs.Core.{CoreTable}
use Rattle.own_schedule.specs.OwnSchedule.{with_item, own_schedule}

-- a count that is neither past its end nor before it
pub all-taken : (taken end count : ℕ) → end ≤ taken → taken ≤ end → end ≡ count → taken ≡ count
all-taken taken end count past before is = let same : taken ≡ end = omega arith in same ∙ is

-- the choices of the first items, so many
abbrev pub first_choices : CoreTable → Problem → ℕ → List Choice
first_choices core problem n = fold (with_item core problem) [] (numbers_below n)

-- of none
pub choices-none : (core : CoreTable) (problem : Problem) → first_choices core problem 0 ≡ []
unfolding numbers_below
choices-none core problem = refl

-- of one more
pub choices-more : (core : CoreTable) (problem : Problem) (n : ℕ) (schedule more : List Choice) (c : Choice) → schedule ≡ first_choices core problem n → schedule ++ c ∷ [] ≡ with_item core problem schedule n → more ≡ schedule ++ c ∷ []
    → more ≡ first_choices core problem (n + 1)
choices-more core problem n schedule more c made next pushed =
    pushed ∙ next ∙ ap (λ s. with_item core problem s n) made ∙ sym (fold-append (with_item core problem) [] (numbers_below n) (n ∷ [])) ∙ ap (λ ns. fold (with_item core problem) [] ns) (sym (numbers-next n))

-- of all
pub choices-all : (core : CoreTable) (problem : Problem) (n : ℕ) (schedule : List Choice) → schedule ≡ first_choices core problem n → n ≡ length problem.graph.items → schedule ≡ own_schedule core problem
unfolding own_schedule
choices-all core problem n schedule made all = made ∙ ap (first_choices core problem) all

-- a test of all and of one more
pub all-more : (p : Choice → Bool) (schedule more : List Choice) (c : Choice) → list_all p schedule ≡ true → p c ≡ true → more ≡ schedule ++ c ∷ [] → list_all p more ≡ true
all-more p schedule more c all one pushed =
    ap (list_all p) pushed ∙ list_all-append p schedule (c ∷ []) ∙ and_from (list_all p schedule) (list_all p (c ∷ [])) all (and_from (p c) true one refl)
