-- The entries that go on from choices made so far, and outcomes of lists that are joined.
use Rattle.std.proofs.Common.{◌≡◌, ℕ, zero, suc, ◌+◌, ◌-◌, ◌<◌, ◌≤◌, Bool, true, false, nat_le, List, [], ◌∷◌, ◌++◌, reverse, length, if◌then◌else◌, min, refl, sym, ap, ◌∙◌, subst, arith}
use Rattle.std.specs.List.{flat_map}
use Rattle.std.proofs.lemmas.List.{reverse-append, reverse-reverse}
use Rattle.std.proofs.lemmas.Bool.{leb-true, le-leb, cond-true, false_from_ne_true}
use Rattle.sl_model.specs.declared.schedule.Choice.{Choice}
use Rattle.sl_model.specs.Legal.{Problem}
use Rattle.search_space.specs.Searchable.{IsSearchable, AreMade}
use Rattle.search_space.specs.Next.{next_choices}
use Rattle.search_space.specs.Going.{going_on}
use Rattle.search_space.specs.Bound.{bound}
use Rattle.search_space.specs.Levels.{is_within, is_solution, outcome_of, first_place, visited, entries_from}
use Rattle.search_space.specs.Levels.Outcome.{Found, Spent, Nothing}
use Rattle.search_space.proofs.Lists.{filter-none, filter-flat_map}
use Rattle.search_space.proofs.Going.{from-going}
use Rattle.search_space.proofs.Full.{goes-legal}
use Rattle.search_space.proofs.BoundLaws.{bound-along}
use Rattle.search_space.proofs.Outcomes.{outcome-none, outcome-spent, outcome-more}

module _ (problem : Problem) (search : IsSearchable problem) (level : ℕ) where
  -- a bound above the level isn't within it
  past-within : (n : ℕ) → level < n → nat_le n level ≡ false
  past-within n past = false_from_ne_true (nat_le n level) (λ le. (let within : n ≤ level = leb-true n level le in omega arith))

  -- Where the bound is above the level, no list that goes on is an entry.
  pub entries-past : (more : ℕ) (done : List Choice) → AreMade problem done → level < bound problem done → entries_from problem level more done ≡ []
  unfolding entries_from
  entries-past more done made past = filter-none (is_within problem level) (going_on (next_choices problem) more done) (λ x h.
      let g = from-going (next_choices problem) more done x h in
      let along : bound problem done ≤ bound problem (reverse g.rest ++ done) = bound-along problem search done g.rest made (goes-legal problem search done g.rest g.goes) in
      let back : reverse x ≡ reverse g.rest ++ done = ap reverse g.is ∙ reverse-append (reverse done) g.rest ∙ ap (λ d. reverse g.rest ++ d) (reverse-reverse done) in
      let same : bound problem (reverse x) ≡ bound problem (reverse g.rest ++ done) = ap (bound problem) back in
      past-within (bound problem (reverse x)) (omega arith))

  -- the choices made so far are within the level where their bound is
  root-within : (done : List Choice) → bound problem done ≤ level → is_within problem level (reverse done) ≡ true
  root-within done within = le-leb (bound problem (reverse (reverse done))) level (subst (λ d. bound problem d ≤ level) (sym (reverse-reverse done)) within)

  -- Where the bound is within the level and no more choices may come, they are the one entry.
  pub entries-last : (done : List Choice) → bound problem done ≤ level → entries_from problem level 0 done ≡ reverse done ∷ []
  unfolding entries_from going_on
  entries-last done within = cond-true (is_within problem level (reverse done)) (reverse done ∷ []) [] (root-within done within)

  -- Where more may, they are the first entry, and those that go on from each next choice follow.
  pub entries-more : (more : ℕ) (done : List Choice) → bound problem done ≤ level
      → entries_from problem level (suc more) done ≡ reverse done ∷ flat_map (λ c. entries_from problem level more (c ∷ done)) (next_choices problem done)
  unfolding entries_from going_on
  entries-more more done within =
      cond-true (is_within problem level (reverse done)) _ _ (root-within done within)
      ∙ ap (λ xs. reverse done ∷ xs) (filter-flat_map (is_within problem level) (λ c. going_on (next_choices problem) more (c ∷ done)) (next_choices problem done))

-- ---- outcomes of lists that are joined

module _ (problem : Problem) (level : ℕ) where
  -- how many entries are looked at, one after the other
  counted : ℕ → List (List Choice) → ℕ
  counted zero lists = 0
  counted (suc budget) [] = 0
  counted (suc budget) (x ∷ lists) = if is_solution problem level x then 1 else 1 + counted budget lists

  -- is the least of the budget, their number, and the place of the first solution
  counted-is : (budget : ℕ) (lists : List (List Choice)) → counted budget lists ≡ visited problem level budget lists
  unfolding counted visited first_place
  counted-is zero lists = omega arith
  counted-is (suc budget) [] = omega arith
  counted-is (suc budget) (x ∷ lists) = by (is_solution problem level x) (counted-is budget lists)
    where
      by : (b : Bool) → counted budget lists ≡ min budget (min (length lists) (first_place problem level lists))
          → (if b then 1 else 1 + counted budget lists) ≡ min (suc budget) (min (suc (length lists)) (if b then 1 else suc (first_place problem level lists)))
      by true e = omega arith
      by false e = omega arith

  -- Where a list has nothing, all of it is looked at, and the budget reaches so far.
  nothing-counted : (budget : ℕ) (xs : List (List Choice)) → outcome_of problem level budget xs ≡ Nothing → (counted budget xs ≡ length xs) × (length xs ≤ budget)
  unfolding counted
  nothing-counted zero [] is = (refl, omega arith)
  nothing-counted (suc budget) [] is = (refl, omega arith)
  nothing-counted zero (x ∷ xs) is = absurd (let e : Spent ≡ Nothing = sym (outcome-spent problem level x xs) ∙ is in cc)
  nothing-counted (suc budget) (x ∷ xs) is = by (is_solution problem level x) (sym (outcome-more problem level budget x xs) ∙ is) (nothing-counted budget xs)
    where
      by : (b : Bool) → (if b then Found x else outcome_of problem level budget xs) ≡ Nothing
          → (outcome_of problem level budget xs ≡ Nothing → (counted budget xs ≡ length xs) × (length xs ≤ budget))
          → ((if b then 1 else 1 + counted budget xs) ≡ suc (length xs)) × (suc (length xs) ≤ suc budget)
      by true e rest = absurd (cc)
      by false e rest = let r = rest e in let seen : counted budget xs ≡ length xs = r.0 in let few : length xs ≤ budget = r.1 in (omega arith, omega arith)

  -- Where the first of two lists has nothing, the rest of the budget is for the second.
  pub outcome-join : (budget : ℕ) (xs ys : List (List Choice)) → outcome_of problem level budget xs ≡ Nothing
      → outcome_of problem level budget (xs ++ ys) ≡ outcome_of problem level (budget - length xs) ys
  outcome-join budget [] ys is = let same : budget ≡ budget - 0 = omega arith in ap (λ b. outcome_of problem level b ys) same
  outcome-join zero (x ∷ xs) ys is = absurd (let e : Spent ≡ Nothing = sym (outcome-spent problem level x xs) ∙ is in cc)
  outcome-join (suc budget) (x ∷ xs) ys is =
      outcome-more problem level budget x (xs ++ ys) ∙ by (is_solution problem level x) (sym (outcome-more problem level budget x xs) ∙ is) (outcome-join budget xs ys)
    where
      by : (b : Bool) → (if b then Found x else outcome_of problem level budget xs) ≡ Nothing
          → (outcome_of problem level budget xs ≡ Nothing → outcome_of problem level budget (xs ++ ys) ≡ outcome_of problem level (budget - length xs) ys)
          → (if b then Found x else outcome_of problem level budget (xs ++ ys)) ≡ outcome_of problem level (suc budget - length (x ∷ xs)) ys
      by true e rest = absurd (cc)
      by false e rest = let same : budget - length xs ≡ suc budget - suc (length xs) = omega arith in rest e ∙ ap (λ b. outcome_of problem level b ys) same

  -- So it is with the entries that are looked at.
  counted-join : (budget : ℕ) (xs ys : List (List Choice)) → outcome_of problem level budget xs ≡ Nothing
      → counted budget (xs ++ ys) ≡ length xs + counted (budget - length xs) ys
  unfolding counted
  counted-join budget [] ys is =
      let same : budget ≡ budget - 0 = omega arith in
      let seen : counted budget ys ≡ counted (budget - 0) ys = ap (λ b. counted b ys) same in
      omega arith
  counted-join zero (x ∷ xs) ys is = absurd (let e : Spent ≡ Nothing = sym (outcome-spent problem level x xs) ∙ is in cc)
  counted-join (suc budget) (x ∷ xs) ys is = by (is_solution problem level x) (sym (outcome-more problem level budget x xs) ∙ is) (counted-join budget xs ys)
    where
      by : (b : Bool) → (if b then Found x else outcome_of problem level budget xs) ≡ Nothing
          → (outcome_of problem level budget xs ≡ Nothing → counted budget (xs ++ ys) ≡ length xs + counted (budget - length xs) ys)
          → (if b then 1 else 1 + counted budget (xs ++ ys)) ≡ suc (length xs) + counted (suc budget - suc (length xs)) ys
      by true e rest = absurd (cc)
      by false e rest =
          let same : budget - length xs ≡ suc budget - suc (length xs) = omega arith in
          let seen : counted (budget - length xs) ys ≡ counted (suc budget - suc (length xs)) ys = ap (λ b. counted b ys) same in
          let r : counted budget (xs ++ ys) ≡ length xs + counted (budget - length xs) ys = rest e in
          omega arith

  -- Where the first list has something, the second is of no account.
  decided-counted : (budget : ℕ) (xs ys : List (List Choice)) → (outcome_of problem level budget xs ≡ Nothing → ⊥)
      → (outcome_of problem level budget (xs ++ ys) ≡ outcome_of problem level budget xs) × (counted budget (xs ++ ys) ≡ counted budget xs)
  unfolding counted
  decided-counted budget [] ys some = absurd (some (outcome-none problem level budget))
  decided-counted zero (x ∷ xs) ys some = (outcome-spent problem level x (xs ++ ys) ∙ sym (outcome-spent problem level x xs), refl)
  decided-counted (suc budget) (x ∷ xs) ys some =
      let r = by (is_solution problem level x) (λ e. some (outcome-more problem level budget x xs ∙ e)) (decided-counted budget xs ys) in
      (outcome-more problem level budget x (xs ++ ys) ∙ r.0 ∙ sym (outcome-more problem level budget x xs), r.1)
    where
      by : (b : Bool) → ((if b then Found x else outcome_of problem level budget xs) ≡ Nothing → ⊥)
          → ((outcome_of problem level budget xs ≡ Nothing → ⊥)
          → (outcome_of problem level budget (xs ++ ys) ≡ outcome_of problem level budget xs) × (counted budget (xs ++ ys) ≡ counted budget xs))
          → ((if b then Found x else outcome_of problem level budget (xs ++ ys)) ≡ (if b then Found x else outcome_of problem level budget xs))
          × ((if b then 1 else 1 + counted budget (xs ++ ys)) ≡ (if b then 1 else 1 + counted budget xs))
      by true never rest = (refl, refl)
      by false never rest = let r = rest never in (r.0, ap (λ n. 1 + n) r.1)

  -- No more of a list is looked at than of one that begins with it.
  counted-front : (budget : ℕ) (xs ys : List (List Choice)) → counted budget xs ≤ counted budget (xs ++ ys)
  unfolding counted
  counted-front zero xs ys = omega arith
  counted-front (suc budget) [] ys = omega arith
  counted-front (suc budget) (x ∷ xs) ys = by (is_solution problem level x) (counted-front budget xs ys)
    where
      by : (b : Bool) → counted budget xs ≤ counted budget (xs ++ ys)
          → (if b then 1 else 1 + counted budget xs) ≤ (if b then 1 else 1 + counted budget (xs ++ ys))
      by true le = omega arith
      by false le = omega arith

  -- ---- so many are looked at

  -- of no entries, none
  pub visited-none : (budget : ℕ) → visited problem level budget [] ≡ 0
  unfolding visited first_place
  visited-none budget = omega arith

  -- without a budget, none
  pub visited-spent : (lists : List (List Choice)) → visited problem level 0 lists ≡ 0
  unfolding visited
  visited-spent lists = omega arith

  -- of one more, where the budget is one more
  pub visited-more : (budget : ℕ) (x : List Choice) (xs : List (List Choice))
      → visited problem level (suc budget) (x ∷ xs) ≡ (if is_solution problem level x then 1 else 1 + visited problem level budget xs)
  unfolding counted
  visited-more budget x xs =
      sym (counted-is (suc budget) (x ∷ xs)) ∙ ap (λ n. if is_solution problem level x then 1 else 1 + n) (counted-is budget xs)

  -- where a list has nothing, all of it, and the budget reaches so far
  pub nothing-visited : (budget : ℕ) (xs : List (List Choice)) → outcome_of problem level budget xs ≡ Nothing → (visited problem level budget xs ≡ length xs) × (length xs ≤ budget)
  nothing-visited budget xs is = let r = nothing-counted budget xs is in (sym (counted-is budget xs) ∙ r.0, r.1)

  -- where the first of two lists has nothing, all of it, and the second with the rest of the budget
  pub visited-join : (budget : ℕ) (xs ys : List (List Choice)) → outcome_of problem level budget xs ≡ Nothing
      → visited problem level budget (xs ++ ys) ≡ length xs + visited problem level (budget - length xs) ys
  visited-join budget xs ys is =
      sym (counted-is budget (xs ++ ys)) ∙ counted-join budget xs ys is ∙ ap (λ n. length xs + n) (counted-is (budget - length xs) ys)

  -- where the first list has something, none of the second, which is of no account
  pub decided-join : (budget : ℕ) (xs ys : List (List Choice)) → (outcome_of problem level budget xs ≡ Nothing → ⊥)
      → (outcome_of problem level budget (xs ++ ys) ≡ outcome_of problem level budget xs) × (visited problem level budget (xs ++ ys) ≡ visited problem level budget xs)
  decided-join budget xs ys some =
      let r = decided-counted budget xs ys some in
      (r.0, sym (counted-is budget (xs ++ ys)) ∙ r.1 ∙ counted-is budget xs)

  -- no more of a list than of one that begins with it
  pub visited-front : (budget : ℕ) (xs ys : List (List Choice)) → visited problem level budget xs ≤ visited problem level budget (xs ++ ys)
  visited-front budget xs ys =
      subst (λ n. visited problem level budget xs ≤ n) (counted-is budget (xs ++ ys)) (subst (λ n. n ≤ counted budget (xs ++ ys)) (counted-is budget xs) (counted-front budget xs ys))
