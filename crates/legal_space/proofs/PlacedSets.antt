-- A test of the members of a set, one number after the other.
use Rattle.std.proofs.Common.{◌≡◌, ℕ, ◌+◌, ◌<◌, Bool, true, false, ◌&&◌, ◌||◌, not, filter, List, [], ◌∷◌, sym, ap, ap₂, ◌∙◌}
use Rattle.std.specs.List.{list_all}
use Rattle.std.proofs.lemmas.Bool.{both_ways, false_from_ne_true}
use Rattle.std.proofs.lemmas.List.Folds.{list_all-append}
use Rattle.sl_model.specs.Source.{numbers_below}
use Rattle.sl_model.specs.Body.{stands_in}
use Rattle.sl_laws.proofs.Elements.{list_all-filter}
use Rattle.sl_laws.proofs.Members.{passes, has-numbers}
use Rattle.sl_laws.proofs.Numbers.{numbers-none, numbers-next}

module _ (set : List ℕ) (f : ℕ → Bool) where
  -- does a number pass where it is a member?
  abbrev pub passes-in : ℕ → Bool
  passes-in p = not (stands_in p set) || f p

  -- of no number
  pub members-none : list_all (λ p. not (stands_in p set) || f p) (numbers_below 0) ≡ true
  members-none = ap (list_all passes-in) numbers-none

  -- of one more number
  pub members-next : (n : ℕ) → list_all passes-in (numbers_below n) ≡ true → passes-in n ≡ true → list_all passes-in (numbers_below (n + 1)) ≡ true
  members-next n before pass =
      ap (list_all passes-in) (numbers-next n) ∙ list_all-append passes-in (numbers_below n) (n ∷ [])
      ∙ ap₂ (λ a b. a && (b && true)) before pass

  -- of all numbers that may be members it is the test of the members
  pub members-all : (count : ℕ) → set ≡ filter (λ p. stands_in p set) (numbers_below count) → list_all f set ≡ list_all passes-in (numbers_below count)
  members-all count is = ap (list_all f) is ∙ list_all-filter f (λ p. stands_in p set) (numbers_below count)

  -- a member that fails decides
  pub members-broken : (count p : ℕ) → set ≡ filter (λ q. stands_in q set) (numbers_below count) → p < count → passes-in p ≡ false → false ≡ list_all f set
  members-broken count p is less fails =
      sym (members-all count is ∙ false_from_ne_true (list_all passes-in (numbers_below count)) (λ all.
      both_ways (passes-in p) fails (passes passes-in p (numbers_below count) (has-numbers count p less) all)))
