-- The verdict over levels and trees, told by the first level with a tree that has something.
use Rattle.std.proofs.Common.{◌≡◌, ◌≢◌, ℕ, zero, suc, ◌+◌, ◌<◌, ◌≤◌, ◌⊎◌, Bool, true, false, List, [], ◌∷◌, map, length, get_or, Option, Some, None, ⊎_elim, refl, sym, ap, ◌∙◌, subst, arith}
use Rattle.std.specs.Prelude.{IsSomeAnd, slice_get}
use Rattle.std.proofs.lemmas.Bool.{cases_lt}
use Rattle.std.proofs.lemmas.Option.{slice_get_past}
use Rattle.sl_model.specs.declared.schedule.Choice.{Choice}
use Rattle.sl_model.specs.Legal.{Problem}
use Rattle.search_space.specs.Levels.{Tree, Outcome, outcome, Verdict, level_verdict, verdict_from, verdict, straight_trees}
use Rattle.search_space.specs.Levels.Outcome.{Found, Spent, Nothing}
use Rattle.search_space.specs.Levels.Verdict.{First, Infeasible}
use Rattle.race_pool.specs.declared.forest.Outcome as races
use Rattle.race_pool.specs.declared.forest.Outcome.TheVariants as ends
use Rattle.race_pool.specs.Level.{HaveNothing, IsSpent}
use Rattle.race_pool.specs.Verdict.{IsVerdict, HoldsVerdict}
use Rattle.race_pool.specs.declared.verdict.Verdict.{Verdict as Answer}
use Rattle.race_pool.specs.declared.verdict.Verdict.TheVariants as answers
use Rattle.bnb_solver.specs.Work.{Work}
use Rattle.bnb_solver.specs.Straight.{tree_of, tree_at, beginnings}
use Rattle.bnb_solver.specs.Telling.{plain}
use Rattle.bnb_solver.proofs.Numbered.{straight-are}

-- nothing is told of nothing alone
plain-nothing : (o : Outcome) → plain o ≡ ends.Nothing → o ≡ Nothing
plain-nothing (Found x) e = absurd (cc)
plain-nothing Spent e = absurd (cc)
plain-nothing Nothing e = refl

plain-spent : (o : Outcome) → plain o ≡ ends.Spent → o ≡ Spent
plain-spent (Found x) e = absurd (cc)
plain-spent Spent e = refl
plain-spent Nothing e = absurd (cc)

-- ---- a level

module _ (problem : Problem) (f : Tree → Outcome) where
  -- the outcome of the tree of a number
  abbrev at : List (Option Choice) → ℕ → races.Outcome
  at fs place = plain (f (tree_of problem (get_or fs place None)))

  -- a tree that has nothing is passed by
  level-past : (level start : ℕ) (o : Outcome) (outcomes : List Outcome) (later : Verdict) → o ≡ Nothing → level_verdict level start (o ∷ outcomes) later ≡ level_verdict level (start + 1) outcomes later
  unfolding level_verdict
  level-past level start o outcomes later e = ap (λ x. level_verdict level start (x ∷ outcomes) later) e

  -- one that has something is the first
  level-here : (level start : ℕ) (o : Outcome) (outcomes : List Outcome) (later : Verdict) → (o ≡ Nothing → ⊥) → level_verdict level start (o ∷ outcomes) later ≡ First level start o
  unfolding level_verdict
  level-here level start (Found x) outcomes later some = refl
  level-here level start Spent outcomes later some = refl
  level-here level start Nothing outcomes later some = absurd (some refl)

  -- Where all trees have nothing, the later levels decide,
  level-nothing : (fs : List (Option Choice)) (level start : ℕ) (later : Verdict) → HaveNothing (at fs) (length fs) → level_verdict level start (map f (map (tree_of problem) fs)) later ≡ later
  unfolding level_verdict
  level-nothing [] level start later none = refl
  level-nothing (x ∷ fs) level start later none =
      level-past level start (f (tree_of problem x)) (map f (map (tree_of problem) fs)) later (plain-nothing (f (tree_of problem x)) (none 0 (omega arith)))
      ∙ level-nothing fs level (start + 1) later (λ t within. none (suc t) (omega arith))

  -- and else the first that has something.
  level-first : (fs : List (Option Choice)) (place level start : ℕ) (later : Verdict) (o : Outcome) → place < length fs → HaveNothing (at fs) place → f (tree_of problem (get_or fs place None)) ≡ o → (o ≡ Nothing → ⊥)
      → level_verdict level start (map f (map (tree_of problem) fs)) later ≡ First level (start + place) o
  level-first [] place level start later o within none is some = absurd (omega arith)
  level-first (x ∷ fs) zero level start later o within none is some =
      let same : start ≡ start + 0 = omega arith in
      level-here level start (f (tree_of problem x)) (map f (map (tree_of problem) fs)) later (λ e. some (sym is ∙ e)) ∙ ap (λ n. First level n (f (tree_of problem x))) same ∙ ap (First level (start + 0)) is
  level-first (x ∷ fs) (suc place) level start later o within none is some =
      let same : start + 1 + place ≡ start + suc place = omega arith in
      level-past level start (f (tree_of problem x)) (map f (map (tree_of problem) fs)) later (plain-nothing (f (tree_of problem x)) (none 0 (omega arith)))
      ∙ level-first fs place level (start + 1) later o (omega arith) (λ t below. none (suc t) (omega arith)) is some
      ∙ ap (λ n. First level n o) same

-- ---- the levels

module _ (problem : Problem) (f : ℕ → Tree → Outcome) (fs : List (Option Choice)) where
  -- the outcomes of a level
  abbrev all_at : ℕ → List Outcome
  all_at level = map (f level) (map (tree_of problem) fs)

  -- all trees have nothing at a level
  abbrev Empty : ℕ → Type 0
  Empty level = HaveNothing (λ place. plain (f level (tree_of problem (get_or fs place None)))) (length fs)

  -- Where all levels have nothing, no schedule is found,
  none-from : (level more : ℕ) → ((at : ℕ) → level ≤ at → at < level + more → Empty at) → verdict_from all_at level more ≡ Infeasible
  unfolding verdict_from
  none-from level zero none = refl
  none-from level (suc more) none =
      level-nothing problem (f level) fs level 0 (verdict_from all_at (level + 1) more) (none level (omega arith) (omega arith))
      ∙ none-from (level + 1) more (λ at from below. none at (omega arith) (omega arith))

  -- and else the first tree of the first level that has something is the verdict.
  first-from : (level more ahead place : ℕ) (o : Outcome) → ahead < more → ((at : ℕ) → level ≤ at → at < level + ahead → Empty at)
      → place < length fs → HaveNothing (λ place. plain (f (level + ahead) (tree_of problem (get_or fs place None)))) place
      → f (level + ahead) (tree_of problem (get_or fs place None)) ≡ o → (o ≡ Nothing → ⊥) → verdict_from all_at level more ≡ First (level + ahead) place o
  unfolding verdict_from
  first-from level zero ahead place o within none some nothing is real = absurd (omega arith)
  first-from level (suc more) zero place o within none some nothing is real =
      let here : level + 0 ≡ level = omega arith in
      level-first problem (f level) fs place level 0 (verdict_from all_at (level + 1) more) o some
      (subst (λ n. HaveNothing (λ place. plain (f n (tree_of problem (get_or fs place None)))) place) here nothing)
      (subst (λ n. f n (tree_of problem (get_or fs place None)) ≡ o) here is) real
      ∙ ap (λ n. First level n o) first_place ∙ ap (λ n. First n place o) (sym here)
    where
      first_place : 0 + place ≡ place
      first_place = omega arith
  first-from level (suc more) (suc ahead) place o within none some nothing is real =
      let there : level + suc ahead ≡ level + 1 + ahead = omega arith in
      level-nothing problem (f level) fs level 0 (verdict_from all_at (level + 1) more) (none level (omega arith) (omega arith))
      ∙ first-from (level + 1) more ahead place o (omega arith) (λ at from below. none at (omega arith) (omega arith)) some
      (subst (λ n. HaveNothing (λ place. plain (f n (tree_of problem (get_or fs place None)))) place) there nothing)
      (subst (λ n. f n (tree_of problem (get_or fs place None)) ≡ o) there is) real
      ∙ ap (λ n. First n place o) (sym there)

-- ---- a straight problem

module _ (problem : Problem) (most budget : ℕ) where
  -- what the tree of a number has at a level
  abbrev told_of : ℕ → ℕ → races.Outcome
  told_of place level = plain (outcome budget level (tree_at problem place))

  -- by what the trees begin with
  over-firsts : verdict (straight_trees problem) most budget ≡ verdict_from (λ level. map (outcome budget level) (map (tree_of problem) (beginnings problem))) 0 (most + 1)
  unfolding verdict
  over-firsts = ap (λ trees. verdict_from (λ level. map (outcome budget level) trees) 0 (most + 1)) (straight-are problem)

  -- No tree has anything at any level.
  pub verdict-none : ((level : ℕ) → level ≤ most → HaveNothing (λ place. told_of place level) (length (beginnings problem))) → verdict (straight_trees problem) most budget ≡ Infeasible
  verdict-none none = over-firsts ∙ none-from problem (outcome budget) (beginnings problem) 0 (most + 1) (λ at from below. none at (omega arith))

  -- A tree is the first of the first level that has something.
  verdict-at : (level place : ℕ) (o : Outcome) → level ≤ most → place < length (beginnings problem) → HaveNothing (λ place. told_of place level) place
      → ((lower : ℕ) → lower < level → HaveNothing (λ place. told_of place lower) (length (beginnings problem)))
      → outcome budget level (tree_at problem place) ≡ o → (o ≡ Nothing → ⊥) → verdict (straight_trees problem) most budget ≡ First level place o
  verdict-at level place o within some before lower is real =
      let here : 0 + level ≡ level = omega arith in
      over-firsts
      ∙ first-from problem (outcome budget) (beginnings problem) 0 (most + 1) level place o (omega arith) (λ at from below. lower at (omega arith)) some
      (subst (λ n. HaveNothing (λ place. told_of place n) place) (sym here) before) (subst (λ n. outcome budget n (tree_at problem place) ≡ o) (sym here) is) real
      ∙ ap (λ n. First n place o) here

  module _ (level place : ℕ) (within : level ≤ most) (first : (place < length (beginnings problem)) × (told_of place level ≢ ends.Nothing) × HaveNothing (λ place. told_of place level) place)
      (lower : (lower : ℕ) → lower < level → HaveNothing (λ place. told_of place lower) (length (beginnings problem))) where
    -- Its budget was spent,
    pub verdict-spent : (spent : Bool) → spent ≡ true → IsSpent (λ place. told_of place level) place spent → verdict (straight_trees problem) most budget ≡ First level place Spent
    verdict-spent spent was is = ⊎_elim
        (λ (here : (spent ≡ true) × (told_of place level ≡ ends.Spent)).
        verdict-at level place Spent within first.0 first.2 lower (plain-spent (outcome budget level (tree_at problem place)) here.1) (λ no. cc))
        (λ (other : (spent ≡ false) × (told_of place level ≡ ends.Found)). absurd (let no : true ≡ false = sym was ∙ other.0 in cc))
        is

    -- or this was found.
    pub verdict-found : (x : List Choice) → outcome budget level (tree_at problem place) ≡ Found x → verdict (straight_trees problem) most budget ≡ First level place (Found x)
    verdict-found x is = verdict-at level place (Found x) within first.0 first.2 lower is (λ no. cc)

  -- ---- as workers tell it

  pub of-none : (answer : Answer) → answer ≡ answers.Infeasible → IsVerdict told_of (length (beginnings problem)) most answer → verdict (straight_trees problem) most budget ≡ Infeasible
  of-none answer is told = verdict-none (subst (IsVerdict told_of (length (beginnings problem)) most) is told)

  module _ (answer : Answer) (level place worker : ℕ) (spent : Bool) (is : answer ≡ answers.First level place worker spent) (told : IsVerdict told_of (length (beginnings problem)) most answer) where
    first_told : IsVerdict told_of (length (beginnings problem)) most (answers.First level place worker spent)
    first_told = subst (IsVerdict told_of (length (beginnings problem)) most) is told

    pub of-spent : spent ≡ true → verdict (straight_trees problem) most budget ≡ First level place Spent
    of-spent was = verdict-spent level place first_told.0 first_told.1 first_told.3 spent was first_told.2

    module _ (workers : List Work) (held : HoldsVerdict (λ (w : Work) t l. outcome budget l (tree_at problem t) ≡ Found w.found) workers answer) (unspent : spent ≡ false) where
      -- the worker that is named holds what was found
      holds : IsSomeAnd (slice_get workers worker) (λ w. outcome budget level (tree_at problem place) ≡ Found w.found)
      holds = subst (HoldsVerdict (λ (w : Work) t l. outcome budget l (tree_at problem t) ≡ Found w.found) workers) is held unspent

      -- there is one
      pub of-worker : worker < length workers
      of-worker = ⊎_elim
          (λ (within : worker < length workers). within)
          (λ (past : length workers ≤ worker). absurd (subst (λ o. IsSomeAnd o (λ w. outcome budget level (tree_at problem place) ≡ Found w.found)) (slice_get_past workers worker past) holds))
          (cases_lt worker (length workers))

      pub of-found : (w : Work) → slice_get workers worker ≡ Some w → verdict (straight_trees problem) most budget ≡ First level place (Found w.found)
      of-found w here = verdict-found level place first_told.0 first_told.1 first_told.3 w.found
          (subst (λ o. IsSomeAnd o (λ w. outcome budget level (tree_at problem place) ≡ Found w.found)) here holds)
