-- A search that goes on from choices made so far, step by step.
use Rattle.std.proofs.Common.{◌≡◌, ℕ, zero, suc, ◌+◌, ◌-◌, ◌<◌, ◌≤◌, true, false, List, [], ◌∷◌, ◌++◌, reverse, length, Option, Some, None, if◌then◌else◌, refl, sym, ap, ◌∙◌, subst, arith}
use Rattle.std.specs.List.{flat_map}
use Rattle.std.proofs.lemmas.List.{reverse-reverse, length-reverse}
use Rattle.std.proofs.lemmas.Bool.{both_ways, false_from_ne_true}
use Rattle.sl_model.specs.declared.schedule.Choice.{Choice}
use Rattle.sl_model.specs.Body.{is_full}
use Rattle.sl_model.specs.Legal.{Problem, IsLegalNext, IsLegalFrom}
use Rattle.sl_model.specs.Space.{stalls_of}
use Rattle.search_space.specs.Searchable.{IsSearchable, AreMade}
use Rattle.search_space.specs.Next.{next_choices, next_behind, rest_behind}
use Rattle.search_space.specs.Bound.{bound}
use Rattle.search_space.specs.Levels.{Outcome, is_solution, outcome_of, visited, entries_from}
use Rattle.search_space.specs.Levels.Outcome.{Found, Spent, Nothing}
use Rattle.search_space.proofs.ForCallers.{next_behind-some, rest_behind-more, rest_behind-none, rest_behind-all, entries-past, entries-last, entries-more, bound-schedule, solution-parts, is-solution, outcome-none, outcome-spent, outcome-more, outcome-join, decided-join, visited-none, visited-spent, visited-more, nothing-visited, visited-join, visited-front}
use Rattle.bnb_solver.proofs.Prefixes.{made-in_order, lacks-fewer}

-- the entries that go on with some of the next choices
unfoldable pub under : Problem → ℕ → ℕ → List Choice → List Choice → List (List Choice)
under problem level more done choices = flat_map (λ c. entries_from problem level more (c ∷ done)) choices

-- How far a search has come that began with a budget: what is left of the budget finds, in what goes on behind a choice,
-- what the whole finds in all.
pub record Progress (problem : Problem) (level more : ℕ) (done : List Choice) (begun budget : ℕ) (after : Option Choice) : Type 0 where
  pub finds : outcome_of problem level budget (under problem level more done (rest_behind problem done after))
      ≡ outcome_of problem level begun (under problem level more done (next_choices problem done))
  pub sees : begun + visited problem level budget (under problem level more done (rest_behind problem done after))
      ≡ budget + visited problem level begun (under problem level more done (next_choices problem done))

-- What is told at the end: the outcome of all, and what is left of the budget.
pub record Ended (problem : Problem) (level more : ℕ) (done : List Choice) (begun budget : ℕ) (o : Outcome) : Type 0 where
  pub finds : outcome_of problem level begun (under problem level more done (next_choices problem done)) ≡ o
  pub sees : begun ≡ budget + visited problem level begun (under problem level more done (next_choices problem done))

-- a list within the level is an entry, and the first of those that begin with it
pub entries-head : (problem : Problem) → IsSearchable problem → (level more : ℕ) (done : List Choice) → bound problem done ≤ level
    → (rest : List (List Choice)) × (entries_from problem level more done ≡ reverse done ∷ rest)
entries-head problem search level zero done within = ([], entries-last problem search level done within)
entries-head problem search level (suc more) done within =
    (flat_map (λ c. entries_from problem level more (c ∷ done)) (next_choices problem done), entries-more problem search level more done within)

module _ (problem : Problem) (search : IsSearchable problem) (level more : ℕ) (done : List Choice) where
  abbrev U : List Choice → List (List Choice)
  U choices = under problem level more done choices

  abbrev E : Choice → List (List Choice)
  E c = entries_from problem level more (c ∷ done)

  under-more : (c : Choice) (choices : List Choice) → U (c ∷ choices) ≡ E c ++ U choices
  unfolding under
  under-more c choices = refl

  under-none : U [] ≡ []
  unfolding under
  under-none = refl

  -- what goes on behind a choice, where there is a next one
  rest-under : (after : Option Choice) (c : Choice) → next_behind problem done after ≡ Some c → U (rest_behind problem done after) ≡ E c ++ U (rest_behind problem done (Some c))
  rest-under after c found = ap U (rest_behind-more problem search done after c found) ∙ under-more c (rest_behind problem done (Some c))

  -- one more choice is made
  pub next-made : (after : Option Choice) (c : Choice) → AreMade problem done → next_behind problem done after ≡ Some c → AreMade problem (c ∷ done)
  next-made after c made found = ((next_behind-some problem search done after c found).legal, made)

  -- at the beginning
  pub started : (begun : ℕ) → Progress problem level more done begun begun None
  started begun =
      let all : U (rest_behind problem done None) ≡ U (next_choices problem done) = ap U (rest_behind-all problem search done) in
      record { finds = ap (outcome_of problem level begun) all; sees = ap (λ xs. begun + visited problem level begun xs) all }

  -- behind a choice whose bound is above the level
  pub passed : (begun budget : ℕ) (after : Option Choice) (c : Choice) → AreMade problem done → next_behind problem done after ≡ Some c → level < bound problem (c ∷ done)
      → Progress problem level more done begun budget after → Progress problem level more done begun budget (Some c)
  passed begun budget after c made found past p =
      let none : E c ≡ [] = entries-past problem search level more (c ∷ done) (next-made after c made found) past in
      let same : U (rest_behind problem done after) ≡ U (rest_behind problem done (Some c)) = rest-under after c found ∙ ap (λ xs. xs ++ U (rest_behind problem done (Some c))) none in
      record {
        finds = ap (outcome_of problem level budget) (sym same) ∙ p.finds;
        sees = ap (λ xs. begun + visited problem level budget xs) (sym same) ∙ p.sees;
      }

  -- at a choice within the level, where the budget is spent
  pub overspent : (begun budget : ℕ) (after : Option Choice) (c : Choice) → next_behind problem done after ≡ Some c → bound problem (c ∷ done) ≤ level → budget ≡ 0
      → Progress problem level more done begun budget after → Ended problem level more done begun budget Spent
  overspent begun budget after c found within spent p =
      let head = entries-head problem search level more (c ∷ done) within in
      let all : U (rest_behind problem done after) ≡ reverse (c ∷ done) ∷ (head.0 ++ U (rest_behind problem done (Some c))) =
      rest-under after c found ∙ ap (λ xs. xs ++ U (rest_behind problem done (Some c))) head.1 in
      let seen : visited problem level budget (U (rest_behind problem done after)) ≡ 0 =
      ap (λ b. visited problem level b (U (rest_behind problem done after))) spent ∙ visited-spent problem level (U (rest_behind problem done after)) in
      let sees = p.sees in
      record {
        finds = sym p.finds ∙ ap (λ b. outcome_of problem level b (U (rest_behind problem done after))) spent ∙ ap (outcome_of problem level 0) all
            ∙ outcome-spent problem level (reverse (c ∷ done)) (head.0 ++ U (rest_behind problem done (Some c)));
        sees = omega arith;
      }

  -- behind a choice under which there is nothing
  pub nothing : (begun budget left : ℕ) (after : Option Choice) (c : Choice) → next_behind problem done after ≡ Some c
      → outcome_of problem level budget (E c) ≡ Nothing → budget ≡ left + visited problem level budget (E c)
      → Progress problem level more done begun budget after → Progress problem level more done begun left (Some c)
  nothing begun budget left after c found none seen p =
      let v = nothing-visited problem level budget (E c) none in
      let all : visited problem level budget (E c) ≡ length (E c) = v.0 in
      let few : length (E c) ≤ budget = v.1 in
      let rest : budget - length (E c) ≡ left = omega arith in
      let under_all : U (rest_behind problem done after) ≡ E c ++ U (rest_behind problem done (Some c)) = rest-under after c found in
      let finds : outcome_of problem level budget (U (rest_behind problem done after)) ≡ outcome_of problem level left (U (rest_behind problem done (Some c))) =
      ap (outcome_of problem level budget) under_all ∙ outcome-join problem level budget (E c) (U (rest_behind problem done (Some c))) none
      ∙ ap (λ b. outcome_of problem level b (U (rest_behind problem done (Some c)))) rest in
      let sees : visited problem level budget (U (rest_behind problem done after)) ≡ length (E c) + visited problem level left (U (rest_behind problem done (Some c))) =
      ap (visited problem level budget) under_all ∙ visited-join problem level budget (E c) (U (rest_behind problem done (Some c))) none
      ∙ ap (λ b. length (E c) + visited problem level b (U (rest_behind problem done (Some c)))) rest in
      let before = p.sees in
      record { finds = sym finds ∙ p.finds; sees = omega arith }

  -- at a choice under which there is something
  pub decided : (begun budget left : ℕ) (after : Option Choice) (c : Choice) (o : Outcome) → next_behind problem done after ≡ Some c
      → outcome_of problem level budget (E c) ≡ o → (o ≡ Nothing → ⊥) → budget ≡ left + visited problem level budget (E c)
      → Progress problem level more done begun budget after → Ended problem level more done begun left o
  decided begun budget left after c o found is some seen p =
      let under_all : U (rest_behind problem done after) ≡ E c ++ U (rest_behind problem done (Some c)) = rest-under after c found in
      let j = decided-join problem level budget (E c) (U (rest_behind problem done (Some c))) (λ e. some (sym is ∙ e)) in
      let sees : visited problem level budget (U (rest_behind problem done after)) ≡ visited problem level budget (E c) = ap (visited problem level budget) under_all ∙ j.1 in
      let before = p.sees in
      record {
        finds = sym p.finds ∙ ap (outcome_of problem level budget) under_all ∙ j.0 ∙ is;
        sees = omega arith;
      }

  -- where no choice is left
  pub ended : (begun budget : ℕ) (after : Option Choice) → next_behind problem done after ≡ None
      → Progress problem level more done begun budget after → Ended problem level more done begun budget Nothing
  ended begun budget after none p =
      let all : U (rest_behind problem done after) ≡ [] = ap U (rest_behind-none problem search done after none) ∙ under-none in
      let sees : visited problem level budget (U (rest_behind problem done after)) ≡ 0 = ap (visited problem level budget) all ∙ visited-none problem level budget in
      let before = p.sees in
      record {
        finds = sym p.finds ∙ ap (outcome_of problem level budget) all ∙ outcome-none problem level budget;
        sees = omega arith;
      }

  -- Where a search is called off, it has looked at no more than it would have,
  pub most-here : (begun budget : ℕ) (after : Option Choice) → Progress problem level more done begun budget after
      → begun ≤ budget + visited problem level begun (U (next_choices problem done))
  most-here begun budget after p = let sees = p.sees in omega arith

  -- so too where it is called off under a choice.
  pub most-under : (begun budget left : ℕ) (after : Option Choice) (c : Choice) → next_behind problem done after ≡ Some c
      → budget ≤ left + visited problem level budget (E c) → Progress problem level more done begun budget after
      → begun ≤ left + visited problem level begun (U (next_choices problem done))
  most-under begun budget left after c found seen p =
      let front : visited problem level budget (E c) ≤ visited problem level budget (E c ++ U (rest_behind problem done (Some c))) = visited-front problem level budget (E c) (U (rest_behind problem done (Some c))) in
      let same : visited problem level budget (U (rest_behind problem done after)) ≡ visited problem level budget (E c ++ U (rest_behind problem done (Some c))) =
      ap (visited problem level budget) (rest-under after c found) in
      let sees = p.sees in
      omega arith

  -- The choices that are left are fewer behind the next one.
  pub rest-falls : (after : Option Choice) (c : Choice) → next_behind problem done after ≡ Some c
      → length (rest_behind problem done (Some c)) < length (rest_behind problem done after)
  rest-falls after c found =
      let one : length (rest_behind problem done after) ≡ suc (length (rest_behind problem done (Some c))) = ap length (rest_behind-more problem search done after c found) in omega arith

-- ---- what is told of choices that are within the level, with a budget of at least one

module _ (problem : Problem) (search : IsSearchable problem) (level : ℕ) (items : List Choice) (budget : ℕ) (some : 0 < budget) (within : bound problem (reverse items) ≤ level) where
  one-more : (xs : List (List Choice)) → (outcome_of problem level budget (items ∷ xs) ≡ (if is_solution problem level items then Found items else outcome_of problem level (budget - 1) xs))
      × (visited problem level budget (items ∷ xs) ≡ (if is_solution problem level items then 1 else 1 + visited problem level (budget - 1) xs))
  one-more xs =
      let same : budget ≡ suc (budget - 1) = omega arith in (
        ap (λ b. outcome_of problem level b (items ∷ xs)) same ∙ outcome-more problem level (budget - 1) items xs,
        ap (λ b. visited problem level b (items ∷ xs)) same ∙ visited-more problem level (budget - 1) items xs,
      )

  -- where they place all items they are a solution
  solves-full : AreMade problem (reverse items) → is_full problem.graph.order items ≡ true → is_solution problem level items ≡ true
  solves-full made full =
      let same : bound problem (reverse items) ≡ stalls_of problem items = bound-schedule problem search items (record { legal = made-in_order problem search items made; full = full }) in
      is-solution problem level items full (omega arith)

  -- and else not
  solves-lacks : is_full problem.graph.order items ≡ false → is_solution problem level items ≡ false
  solves-lacks lacks = false_from_ne_true (is_solution problem level items) (λ solves.
      both_ways (is_full problem.graph.order items) lacks (solution-parts problem level items solves).0)

  -- They place all items.
  pub top-full : (left : ℕ) → AreMade problem (reverse items) → is_full problem.graph.order items ≡ true
      → (outcome_of problem level budget (entries_from problem level left (reverse items)) ≡ Found items) × (visited problem level budget (entries_from problem level left (reverse items)) ≡ 1)
  top-full left made full =
      let head = entries-head problem search level left (reverse items) within in
      let all : entries_from problem level left (reverse items) ≡ items ∷ head.0 = head.1 ∙ ap (λ x. x ∷ head.0) (reverse-reverse items) in
      let m = one-more head.0 in
      let solves = solves-full made full in (
        ap (outcome_of problem level budget) all ∙ m.0 ∙ ap (λ b. if b then Found items else outcome_of problem level (budget - 1) head.0) solves,
        ap (visited problem level budget) all ∙ m.1 ∙ ap (λ b. if b then 1 else 1 + visited problem level (budget - 1) head.0) solves,
      )

  module _ (left : ℕ) (more : 0 < left) (lacks : is_full problem.graph.order items ≡ false) where
    abbrev next : List (List Choice)
    next = under problem level (left - 1) (reverse items) (next_choices problem (reverse items))

    -- what goes on from them stands behind them
    behind-them : entries_from problem level left (reverse items) ≡ items ∷ next
    unfolding under
    behind-them =
        let count : left ≡ suc (left - 1) = omega arith in
        ap (λ n. entries_from problem level n (reverse items)) count ∙ entries-more problem search level (left - 1) (reverse items) within ∙ ap (λ x. x ∷ next) (reverse-reverse items)

    seen-behind : visited problem level budget (entries_from problem level left (reverse items)) ≡ 1 + visited problem level (budget - 1) next
    seen-behind =
        ap (visited problem level budget) behind-them ∙ (one-more next).1 ∙ ap (λ b. if b then 1 else 1 + visited problem level (budget - 1) next) (solves-lacks lacks)

    -- They don't, and no more is looked at than goes on from them.
    pub top-most : (rest : ℕ) → budget - 1 ≤ rest + visited problem level (budget - 1) next → budget ≤ rest + visited problem level budget (entries_from problem level left (reverse items))
    top-most rest most = let seen = seen-behind in omega arith

    -- They don't, and the rest of the budget is for what goes on from them.
    pub top-more : (rest : ℕ) (o : Outcome) → Ended problem level (left - 1) (reverse items) (budget - 1) rest o
        → (outcome_of problem level budget (entries_from problem level left (reverse items)) ≡ o) × (budget ≡ rest + visited problem level budget (entries_from problem level left (reverse items)))
    top-more rest o e =
        let seen = seen-behind in
        let before : budget - 1 ≡ rest + visited problem level (budget - 1) next = e.sees in (
          ap (outcome_of problem level budget) behind-them ∙ (one-more next).0
              ∙ ap (λ b. if b then Found items else outcome_of problem level (budget - 1) next) (solves-lacks lacks) ∙ e.finds,
          omega arith,
        )
