-- The choices that may come next, one after the other.
use Rattle.std.proofs.Common.{◌≡◌, Bool, true, false, List, [], ◌∷◌, filter, Option, Some, None, ⊎_elim, refl, sym, ap, ◌∙◌}
use Rattle.std.specs.List.{find}
use Rattle.std.proofs.lemmas.Bool.{cases_Bool, cond-true, cond-false, both_ways}
use Rattle.sl_model.specs.declared.schedule.Choice.{Choice}
use Rattle.sl_model.specs.Legal.{Problem, IsLegalNext}
use Rattle.sl_model.specs.Space.{IsReducedNext}
use Rattle.sl_laws.proofs.Members.{Has, Ordered}
use Rattle.search_space.specs.Searchable.{IsSearchable}
use Rattle.search_space.specs.Next.{every_choice, may_come, may_follow, next_choices, choice_before, is_behind, next_behind, rest_behind}
use Rattle.search_space.proofs.Lists.{filter-all, find-has, find-none, find-filter}
use Rattle.search_space.proofs.Keys.{Before, before-test, before-not, before-trans, choice-before-itself}
use Rattle.search_space.proofs.Next.{has-next, from-next, ordered-next}

-- what comes behind a choice that is behind another is behind that too
behind-trans : (after : Option Choice) (c d : Choice) → is_behind after c ≡ true → Before c d → is_behind after d ≡ true
behind-trans None c d behind before = refl
behind-trans (Some a) c d behind before = before-trans a c d behind before

-- The first choice behind another, and those behind that, are all behind the other.
rest-step : (after : Option Choice) (c : Choice) (xs : List Choice) → Ordered Before xs → find (is_behind after) xs ≡ Some c
    → filter (is_behind after) xs ≡ c ∷ filter (is_behind (Some c)) xs
rest-step after c [] ordered found = absurd (cc)
rest-step after c (x ∷ xs) ordered found = ⊎_elim
    (λ (behind : is_behind after x ≡ true).
    let same : x ≡ c = (let e : Some x ≡ Some c = sym (cond-true (is_behind after x) (Some x) (find (is_behind after) xs) behind) ∙ found in cc) in
    cond-true (is_behind after x) (x ∷ filter (is_behind after) xs) (filter (is_behind after) xs) behind
    ∙ ap (λ ys. x ∷ ys) (filter-all (is_behind after) xs (λ y h. behind-trans after x y behind (ordered.0 y h))
    ∙ sym (cond-false (is_behind (Some x) x) (x ∷ filter (is_behind (Some x)) xs) (filter (is_behind (Some x)) xs) (choice-before-itself x)
    ∙ filter-all (is_behind (Some x)) xs (λ y h. before-test x y (ordered.0 y h))))
    ∙ ap (λ z. z ∷ filter (is_behind (Some z)) (x ∷ xs)) same)
    (λ (before : is_behind after x ≡ false).
    let rest : find (is_behind after) xs ≡ Some c = sym (cond-false (is_behind after x) (Some x) (find (is_behind after) xs) before) ∙ found in
    cond-false (is_behind after x) (x ∷ filter (is_behind after) xs) (filter (is_behind after) xs) before
    ∙ rest-step after c xs ordered.1 rest
    ∙ ap (λ ys. c ∷ ys) (sym (cond-false (is_behind (Some c) x) (x ∷ filter (is_behind (Some c)) xs) (filter (is_behind (Some c)) xs) (before-not x c (ordered.0 c (find-has (is_behind after) xs c rest))))))
    (cases_Bool (is_behind after x))

-- what is found passes the test
find-passes : (test : Choice → Bool) (xs : List Choice) (c : Choice) → find test xs ≡ Some c → test c ≡ true
find-passes test [] c found = absurd (cc)
find-passes test (x ∷ xs) c found = ⊎_elim
    (λ (pass : test x ≡ true).
    let e : Some x ≡ Some c = sym (cond-true (test x) (Some x) (find test xs) pass) ∙ found in
    let same : x ≡ c = cc in
    ap test (sym same) ∙ pass)
    (λ (fail : test x ≡ false). find-passes test xs c (sym (cond-false (test x) (Some x) (find test xs) fail) ∙ found))
    (cases_Bool (test x))

-- nothing that passes comes before what is found
find-first : (test : Choice → Bool) (xs : List Choice) (c d : Choice) → Ordered Before xs → find test xs ≡ Some c → Has d xs → test d ≡ true → choice_before d c ≡ false
find-first test [] c d ordered found h ok = absurd h
find-first test (x ∷ xs) c d ordered found h ok = ⊎_elim
    (λ (pass : test x ≡ true).
    let e : Some x ≡ Some c = sym (cond-true (test x) (Some x) (find test xs) pass) ∙ found in
    let same : x ≡ c = cc in
    ⊎_elim
    (λ (here : x ≡ d). ap (choice_before d) (sym same ∙ here) ∙ choice-before-itself d)
    (λ (there : Has d xs). ap (choice_before d) (sym same) ∙ before-not x d (ordered.0 d there))
    h)
    (λ (fail : test x ≡ false). ⊎_elim
    (λ (here : x ≡ d). absurd (both_ways (test d) (ap test (sym here) ∙ fail) ok))
    (λ (there : Has d xs). find-first test xs c d ordered.1 (sym (cond-false (test x) (Some x) (find test xs) fail) ∙ found) there ok)
    h)
    (cases_Bool (test x))

-- The first choice behind another: it is legal, reduced and behind it, and no other such comes before it.
pub record IsNextBehind (problem : Problem) (done : List Choice) (after : Option Choice) (c : Choice) : Type 0 where
  pub legal : IsLegalNext problem done c
  pub reduced : IsReducedNext problem done c
  pub behind : is_behind after c ≡ true
  pub least : (d : Choice) → IsLegalNext problem done d → IsReducedNext problem done d → is_behind after d ≡ true → choice_before d c ≡ false

module _ (problem : Problem) (search : IsSearchable problem) (done : List Choice) where
  -- What is found behind another is the first behind it.
  pub next_behind-some : (after : Option Choice) (c : Choice) → next_behind problem done after ≡ Some c → IsNextBehind problem done after c
  unfolding next_behind
  next_behind-some after c found =
      let parts = from-next problem search done c (find-has (is_behind after) (next_choices problem done) c found) in
      record {
        legal = parts.0;
        reduced = parts.1;
        behind = find-passes (is_behind after) (next_choices problem done) c found;
        least = λ d legal reduced behind. find-first (is_behind after) (next_choices problem done) c d (ordered-next problem search done) found (has-next problem search done d legal reduced) behind;
      }

  -- Where nothing is found, no legal reduced choice is behind it.
  pub next_behind-none : (after : Option Choice) → next_behind problem done after ≡ None
      → (d : Choice) → IsLegalNext problem done d → IsReducedNext problem done d → is_behind after d ≡ false
  unfolding next_behind
  next_behind-none after none d legal reduced = never (next_choices problem done) none (has-next problem search done d legal reduced)
    where
      never : (xs : List Choice) → find (is_behind after) xs ≡ None → Has d xs → is_behind after d ≡ false
      never [] none h = absurd h
      never (x ∷ xs) none h = ⊎_elim
          (λ (pass : is_behind after x ≡ true). absurd (let e : Some x ≡ None = sym (cond-true (is_behind after x) (Some x) (find (is_behind after) xs) pass) ∙ none in cc))
          (λ (fail : is_behind after x ≡ false). ⊎_elim
          (λ (here : x ≡ d). ap (is_behind after) (sym here) ∙ fail)
          (λ (there : Has d xs). never xs (sym (cond-false (is_behind after x) (Some x) (find (is_behind after) xs) fail) ∙ none) there)
          h)
          (cases_Bool (is_behind after x))

  -- What is behind another begins with what is found there, and goes on behind that.
  pub rest_behind-more : (after : Option Choice) (c : Choice) → next_behind problem done after ≡ Some c → rest_behind problem done after ≡ c ∷ rest_behind problem done (Some c)
  unfolding next_behind rest_behind
  rest_behind-more after c found = rest-step after c (next_choices problem done) (ordered-next problem search done) found

  -- It ends where nothing is found,
  pub rest_behind-none : (after : Option Choice) → next_behind problem done after ≡ None → rest_behind problem done after ≡ []
  unfolding next_behind rest_behind
  rest_behind-none after none = find-none (is_behind after) (next_choices problem done) none

  -- and begins as all that may come.
  pub rest_behind-all : rest_behind problem done None ≡ next_choices problem done
  unfolding rest_behind
  rest_behind-all = filter-all (is_behind None) (next_choices problem done) (λ x h. refl)

  -- It is found among all choices too.
  pub next_behind-every : (after : Option Choice) → next_behind problem done after ≡ find (may_follow problem done after) (every_choice problem)
  unfolding next_behind next_choices
  next_behind-every after = find-filter (is_behind after) (may_come problem done) (every_choice problem)
