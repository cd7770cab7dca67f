-- A tree that is searched, from where its lists begin.
use Rattle.std.proofs.Common.{◌≡◌, ℕ, ◌+◌, ◌-◌, ◌<◌, ◌≤◌, Bool, true, false, List, [], ◌∷◌, ◌++◌, reverse, length, Option, Some, None, refl, sym, ap, ◌∙◌, subst, arith}
use Rattle.sl_model.specs.declared.schedule.Choice.{Choice}
use Rattle.sl_model.specs.Legal.{Problem}
use Rattle.search_space.specs.Searchable.{IsSearchable, AreMade}
use Rattle.search_space.specs.Bound.{bound}
use Rattle.search_space.specs.Levels.{IsTree, begun, entries, entries_from, outcome, outcome_of, visited}
use Rattle.search_space.specs.Levels as levels
use Rattle.search_space.specs.Levels.Outcome.{Found, Spent, Nothing}
use Rattle.search_space.proofs.ForCallers.{entries-past, outcome-none, outcome-spent, visited-none, visited-spent}
use Rattle.race_pool.specs.declared.forest.Outcome.{Outcome}
use Rattle.race_pool.specs.declared.forest.Outcome.TheVariants as ends
use Rattle.bnb_solver.specs.Straight.{tree_of}
use Rattle.bnb_solver.specs.Telling.{plain, Tells, Sees, Searched, AreBounded, is_cancelled}
use Rattle.bnb_solver.proofs.Progress.{entries-head}

-- what a tree begins with was made
pub begun-made : (problem : Problem) (c : Choice) → IsTree (tree_of problem (Some c)) → AreMade problem (c ∷ [])
begun-made problem c is = (is.legal.0, tt)

-- As many choices were pushed as the budget fell by, or one less.
pub bounded : (told : Outcome) (all rest seen pushes : ℕ) → Sees told all rest seen → pushes + rest ≤ all → all ≤ pushes + rest + 1 → AreBounded told pushes seen
bounded ends.Found all rest seen pushes sees few many = (omega arith, omega arith)
bounded ends.Nothing all rest seen pushes sees few many = (omega arith, omega arith)
bounded ends.Spent all rest seen pushes sees few many = (omega arith, omega arith)
bounded ends.Cancelled all rest seen pushes sees few many = omega arith

module _ (problem : Problem) (search : IsSearchable problem) (first : Option Choice) (level budget : ℕ) where
  -- how many more choices its lists may have
  abbrev more : ℕ
  more = length problem.graph.items - length (begun first)

  -- Its bound is above the level: it has nothing,
  pub past-outcome : AreMade problem (begun first) → level < bound problem (begun first) → outcome budget level (tree_of problem first) ≡ Nothing
  unfolding outcome entries
  past-outcome made past =
      ap (outcome_of problem level budget) (entries-past problem search level more (begun first) made past) ∙ outcome-none problem level budget

  -- and nothing has to be looked at.
  pub past-visited : AreMade problem (begun first) → level < bound problem (begun first) → visited problem level budget (entries (tree_of problem first) level) ≡ 0
  unfolding entries
  past-visited made past =
      ap (visited problem level budget) (entries-past problem search level more (begun first) made past) ∙ visited-none problem level budget

  -- It is within the level, and there is no budget.
  pub spent-outcome : bound problem (begun first) ≤ level → budget ≡ 0 → outcome budget level (tree_of problem first) ≡ Spent
  unfolding outcome entries
  spent-outcome within none =
      let head = entries-head problem search level more (begun first) within in
      ap (λ b. outcome_of problem level b (entries_from problem level more (begun first))) none ∙ ap (outcome_of problem level 0) head.1
      ∙ outcome-spent problem level (reverse (begun first)) head.0

  pub spent-visited : budget ≡ 0 → visited problem level budget (entries (tree_of problem first) level) ≡ 0
  spent-visited none = ap (λ b. visited problem level b (entries (tree_of problem first) level)) none ∙ visited-spent problem level (entries (tree_of problem first) level)

  -- What was told of the choices that it begins with is told of it.
  module _ (choices : List Choice) (is : choices ≡ begun first) (rest : ℕ) (told : Outcome) (found : List Choice)
      (t : Searched problem level (length problem.graph.items - length choices) (reverse choices) budget rest told found) where
    begun-reverse : (first : Option Choice) → reverse (begun first) ≡ begun first
    begun-reverse None = refl
    begun-reverse (Some c) = refl

    turned : Searched problem level more (begun first) budget rest told found
    turned =
        subst (λ d. Searched problem level more d budget rest told found) (ap reverse is ∙ begun-reverse first)
        (subst (λ n. Searched problem level (length problem.graph.items - n) (reverse choices) budget rest told found) (ap length is) t)

    pub tree-tells : Tells told found (outcome budget level (tree_of problem first))
    unfolding outcome entries
    tree-tells = turned.finds

    pub tree-sees : Sees told budget rest (visited problem level budget (entries (tree_of problem first) level))
    unfolding entries
    tree-sees = turned.sees

-- ---- as forests tell it

-- it was called off exactly where the stop was told to
pub cancelled-both : (told : Outcome) (b : Bool) → b ≡ is_cancelled told → (told ≡ ends.Cancelled → b ≡ true) × (b ≡ true → told ≡ ends.Cancelled)
cancelled-both ends.Found b is = ((λ e. absurd (cc)), (λ e. absurd (cc)))
cancelled-both ends.Nothing b is = ((λ e. absurd (cc)), (λ e. absurd (cc)))
cancelled-both ends.Spent b is = ((λ e. absurd (cc)), (λ e. absurd (cc)))
cancelled-both ends.Cancelled b is = ((λ e. is), (λ e. refl))

-- else what was told is the outcome,
pub told-plain : (told : Outcome) (found : List Choice) (o : levels.Outcome) (b : Bool) → b ≡ is_cancelled told → Tells told found o → b ≡ false → told ≡ plain o
told-plain ends.Found found o b is tells goes = sym (ap plain tells)
told-plain ends.Nothing found o b is tells goes = sym (ap plain tells)
told-plain ends.Spent found o b is tells goes = sym (ap plain tells)
told-plain ends.Cancelled found o b is tells goes = absurd (cc)

-- and the schedule is what was found.
pub told-found : (told : Outcome) (found : List Choice) (o : levels.Outcome) → Tells told found o → told ≡ ends.Found → o ≡ Found found
told-found ends.Found found o tells e = tells
told-found ends.Nothing found o tells e = absurd (cc)
told-found ends.Spent found o tells e = absurd (cc)
told-found ends.Cancelled found o tells e = absurd (cc)
