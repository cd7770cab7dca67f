-- What an outcome of a list of entries says.
use Rattle.std.proofs.Common.{◌≡◌, ℕ, zero, suc, ◌<◌, ◌≤◌, Bool, true, false, nat_lt, nat_le, List, [], ◌∷◌, cond, take, length, Some, None, if◌then◌else◌, inl, inr, ⊎_elim, refl, sym, ap, ◌∙◌, subst, arith}
use Rattle.std.specs.List.{find}
use Rattle.std.proofs.lemmas.Bool.{cases_Bool, cases_lt, and_parts, and_from, both_ways, lt-ltb, le-ltb, leb-true, le-leb, cond-true, cond-false}
use Rattle.sl_model.specs.declared.schedule.Choice.{Choice}
use Rattle.sl_model.specs.Body.{is_full}
use Rattle.sl_model.specs.Legal.{Problem}
use Rattle.sl_model.specs.Space.{stalls_of, comes_before}
use Rattle.sl_laws.proofs.Members.{Has, Ordered}
use Rattle.search_space.specs.Levels.{is_solution, outcome_by, outcome_of}
use Rattle.search_space.specs.Levels.Outcome.{Found, Spent, Nothing}
use Rattle.search_space.proofs.Keys.{Comes, comes-not, before-itself}

-- one more on both sides
nat_lt-suc : (m n : ℕ) → nat_lt (suc m) (suc n) ≡ nat_lt m n
nat_lt-suc m n = ⊎_elim
    (λ (less : m < n). lt-ltb (suc m) (suc n) (omega arith) ∙ sym (lt-ltb m n less))
    (λ (more : n ≤ m). le-ltb (suc m) (suc n) (omega arith) ∙ sym (le-ltb m n more))
    (cases_lt m n)

module _ (problem : Problem) (level : ℕ) where
  -- a solution is full, and has few stalls
  pub solution-parts : (x : List Choice) → is_solution problem level x ≡ true → (is_full problem.graph.order x ≡ true) × (stalls_of problem x ≤ level)
  unfolding is_solution
  solution-parts x solves =
      let parts = and_parts (is_full problem.graph.order x) (nat_le (stalls_of problem x) level) solves in
      (parts.0, leb-true (stalls_of problem x) level parts.1)

  -- and the other way
  pub is-solution : (x : List Choice) → is_full problem.graph.order x ≡ true → stalls_of problem x ≤ level → is_solution problem level x ≡ true
  unfolding is_solution
  is-solution x full few = and_from (is_full problem.graph.order x) (nat_le (stalls_of problem x) level) full (le-leb (stalls_of problem x) level few)

  -- no entries have nothing
  pub outcome-none : (budget : ℕ) → outcome_of problem level budget [] ≡ Nothing
  unfolding outcome_of
  outcome-none zero = ap (λ b. outcome_by None b) (le-ltb 0 0 (omega arith))
  outcome-none (suc budget) = ap (λ b. outcome_by None b) (le-ltb (suc budget) 0 (omega arith))

  -- no budget is spent at the first entry
  pub outcome-spent : (x : List Choice) (xs : List (List Choice)) → outcome_of problem level 0 (x ∷ xs) ≡ Spent
  unfolding outcome_of
  outcome-spent x xs = ap (λ b. outcome_by None b) (lt-ltb 0 (length (x ∷ xs)) (omega arith))

  -- one entry more
  pub outcome-more : (budget : ℕ) (x : List Choice) (xs : List (List Choice))
      → outcome_of problem level (suc budget) (x ∷ xs) ≡ (if is_solution problem level x then Found x else outcome_of problem level budget xs)
  unfolding outcome_of
  outcome-more budget x xs =
      ap (λ b. outcome_by (cond (is_solution problem level x) (Some x) (find (is_solution problem level) (take budget xs))) b) (nat_lt-suc budget (length xs))
      ∙ by (is_solution problem level x)
    where
      by : (b : Bool) → outcome_by (cond b (Some x) (find (is_solution problem level) (take budget xs))) (nat_lt budget (length xs))
          ≡ (if b then Found x else outcome_by (find (is_solution problem level) (take budget xs)) (nat_lt budget (length xs)))
      by true = refl
      by false = refl

  -- an entry that is a solution
  outcome-here : (budget : ℕ) (x : List Choice) (xs : List (List Choice)) → is_solution problem level x ≡ true → outcome_of problem level (suc budget) (x ∷ xs) ≡ Found x
  outcome-here budget x xs solves = outcome-more budget x xs ∙ cond-true (is_solution problem level x) (Found x) (outcome_of problem level budget xs) solves

  -- one that isn't
  outcome-past : (budget : ℕ) (x : List Choice) (xs : List (List Choice)) → is_solution problem level x ≡ false → outcome_of problem level (suc budget) (x ∷ xs) ≡ outcome_of problem level budget xs
  outcome-past budget x xs other = outcome-more budget x xs ∙ cond-false (is_solution problem level x) (Found x) (outcome_of problem level budget xs) other

  -- Of what was found: it is a solution of the list, and none of the list comes before it.
  pub record IsFirstSolution (x : List Choice) (all : List (List Choice)) : Type 0 where
    pub listed : Has x all
    pub solves : is_solution problem level x ≡ true
    pub least : (y : List Choice) → Has y all → is_solution problem level y ≡ true → comes_before y x ≡ false

  -- the first of a list, where it is a solution
  solution-here : (x : List Choice) (all : List (List Choice)) → ((y : List Choice) → Has y all → Comes x y) → is_solution problem level x ≡ true → IsFirstSolution x (x ∷ all)
  solution-here x all ahead solves = record {
    listed = inl refl;
    solves = solves;
    least = λ y h _. ⊎_elim
        (λ (here : x ≡ y). subst (λ z. comes_before z x ≡ false) here (before-itself x))
        (λ (there : Has y all). comes-not x y (ahead y there))
        h;
  }

  -- one behind an entry that isn't
  solution-past : (x y : List Choice) (all : List (List Choice)) → is_solution problem level y ≡ false → IsFirstSolution x all → IsFirstSolution x (y ∷ all)
  solution-past x y all other first = record {
    listed = inr first.listed;
    solves = first.solves;
    least = λ z h solves. ⊎_elim
        (λ (here : y ≡ z). absurd (both_ways (is_solution problem level z) (subst (λ a. is_solution problem level a ≡ false) here other) solves))
        (λ (there : Has z all). first.least z there solves)
        h;
  }

  -- What is found is the first solution.
  pub found-first : (budget : ℕ) (all : List (List Choice)) (x : List Choice) → Ordered Comes all → outcome_of problem level budget all ≡ Found x → IsFirstSolution x all
  found-first budget [] x ordered is = absurd (let e : Nothing ≡ Found x = sym (outcome-none budget) ∙ is in cc)
  found-first zero (y ∷ all) x ordered is = absurd (let e : Spent ≡ Found x = sym (outcome-spent y all) ∙ is in cc)
  found-first (suc budget) (y ∷ all) x ordered is = ⊎_elim
      (λ (solves : is_solution problem level y ≡ true).
      let found : Found y ≡ Found x = sym (outcome-here budget y all solves) ∙ is in
      let same : y ≡ x = cc in
      subst (λ z. IsFirstSolution z (y ∷ all)) same (solution-here y all ordered.0 solves))
      (λ (other : is_solution problem level y ≡ false).
      solution-past x y all other (found-first budget all x ordered.1 (sym (outcome-past budget y all other) ∙ is)))
      (cases_Bool (is_solution problem level y))

  -- Where the outcome is Nothing, no list is a solution.
  pub nothing-none : (budget : ℕ) (all : List (List Choice)) (y : List Choice) → outcome_of problem level budget all ≡ Nothing → Has y all → is_solution problem level y ≡ false
  nothing-none budget [] y is h = absurd h
  nothing-none zero (x ∷ all) y is h = absurd (let e : Spent ≡ Nothing = sym (outcome-spent x all) ∙ is in cc)
  nothing-none (suc budget) (x ∷ all) y is h = ⊎_elim
      (λ (solves : is_solution problem level x ≡ true). absurd (let e : Found x ≡ Nothing = sym (outcome-here budget x all solves) ∙ is in cc))
      (λ (other : is_solution problem level x ≡ false).
      ⊎_elim
      (λ (here : x ≡ y). subst (λ z. is_solution problem level z ≡ false) here other)
      (λ (there : Has y all). nothing-none budget all y (sym (outcome-past budget x all other) ∙ is) there)
      h)
      (cases_Bool (is_solution problem level x))

  -- A budget of at least the length of a list is never spent.
  pub ample : (budget : ℕ) (all : List (List Choice)) → length all ≤ budget → outcome_of problem level budget all ≡ Spent → ⊥
  ample budget [] few is = (let e : Nothing ≡ Spent = sym (outcome-none budget) ∙ is in cc)
  ample zero (x ∷ all) few is = absurd (omega arith)
  ample (suc budget) (x ∷ all) few is = ⊎_elim
      (λ (solves : is_solution problem level x ≡ true). (let e : Found x ≡ Spent = sym (outcome-here budget x all solves) ∙ is in cc))
      (λ (other : is_solution problem level x ≡ false). ample budget all (omega arith) (sym (outcome-past budget x all other) ∙ is))
      (cases_Bool (is_solution problem level x))
