-- The verdict of a straight problem's trees loses nothing.
use Rattle.std.proofs.Common.{◌≡◌, ℕ, zero, suc, ◌<◌, ◌≤◌, ◌⊎◌, true, false, List, [], ◌∷◌, ◌++◌, reverse, length, Option, Some, None, inl, ⊎_elim, refl, sym, ap, ◌∙◌, subst, arith}
use Rattle.std.proofs.lemmas.List.{length-reverse}
use Rattle.std.proofs.lemmas.Bool.{cases_lt, both_ways}
use Rattle.sl_model.specs.declared.schedule.Choice.{Choice}
use Rattle.sl_model.specs.Legal.{Problem, IsLegalFrom, IsFullLegal}
use Rattle.sl_model.specs.Space.{IsReducedFrom, InSpace, IsBest, stalls_of, comes_before}
use Rattle.sl_laws.proofs.Members.{Has, Ordered, has-map, from-map, has-right, has-cases, ordered-map}
use Rattle.search_space.specs.Searchable.{IsSearchable}
use Rattle.search_space.specs.Next.{next_choices}
use Rattle.search_space.specs.Bound.{bound}
use Rattle.search_space.specs.Levels.{Tree, IsTree, begun, entries, is_solution, outcome, trees_by, straight_trees, verdict}
use Rattle.search_space.specs.Levels.Outcome.{Found, Spent}
use Rattle.search_space.specs.Levels.Verdict.{First, Infeasible}
use Rattle.search_space.proofs.Keys.{Before, Comes, comes-not, branch-comes}
use Rattle.search_space.proofs.Next.{has-next, from-next, ordered-next}
use Rattle.search_space.proofs.Counts.{full-length}
use Rattle.search_space.proofs.Going.{GoesBy, reverse-full}
use Rattle.search_space.proofs.Full.{made-list, goes-legal, goes-reduced}
use Rattle.search_space.proofs.BoundLaws.{bound-schedule}
use Rattle.search_space.proofs.Outcomes.{IsFirstSolution, found-first, nothing-none, ample, solution-parts, is-solution}
use Rattle.search_space.proofs.Trees.{IsOfTree, entry-of_tree, has-entry, ordered-entries}
use Rattle.search_space.proofs.Verdicts.{HaveNothing, IsVerdict, verdict-first, verdict-infeasible}

-- elements behind another stand in the relation to it
ordered-behind : {X : Type 0} (R : X → X → Type 0) (before : List X) (x : X) (behind : List X) → Ordered R (before ++ x ∷ behind) → (y : X) → Has y behind → R x y
ordered-behind R [] x behind ordered y h = ordered.0 y h
ordered-behind R (z ∷ before) x behind ordered y h = ordered-behind R before x behind ordered.1 y h

-- one tree comes before another by its choice
abbrev ChoiceSooner : Option Choice → Option Choice → Type 0
ChoiceSooner (Some c) (Some d) = Before c d
ChoiceSooner None first = ⊥
ChoiceSooner (Some c) None = ⊥

abbrev Sooner : Tree → Tree → Type 0
Sooner t u = ChoiceSooner t.first u.first

-- what begins with a choice comes before what begins with a later one
apart : (first second : Option Choice) (a b : List Choice) → ChoiceSooner first second → Comes (begun first ++ a) (begun second ++ b)
apart None second a b sooner = absurd sooner
apart (Some c) None a b sooner = absurd sooner
apart (Some c) (Some d) a b sooner = branch-comes [] c d a b sooner

-- so do the lists of one tree before those of a later one
trees-apart : (t u : Tree) (x y : List Choice) → Sooner t u → IsOfTree t x → IsOfTree u y → Comes x y
trees-apart t u x y sooner of_t of_u =
    subst (λ z. Comes z y) (sym of_t.is) (subst (λ z. Comes (begun t.first ++ of_t.rest) z) (sym of_u.is) (apart t.first u.first of_t.rest of_u.rest sooner))

module _ (problem : Problem) (search : IsSearchable problem) where
  -- the tree of a first choice
  abbrev tree_of : Choice → Tree
  tree_of c = record { problem = problem; first = Some c }

  -- the trees stand in their order
  ordered-trees : Ordered Sooner (straight_trees problem)
  unfolding straight_trees
  ordered-trees = by (length problem.graph.items)
    where
      by : (n : ℕ) → Ordered Sooner (trees_by problem n (next_choices problem []))
      by zero = (λ y h. absurd h, tt)
      by (suc n) = ordered-map Before Sooner tree_of (next_choices problem []) (ordered-next problem search []) (λ a b before. before)

  -- each is a tree of the problem, that can be searched
  tree-is : (tree : Tree) → Has tree (straight_trees problem) → (tree.problem ≡ problem) × IsTree tree
  unfolding straight_trees
  tree-is tree h = by (length problem.graph.items) h
    where
      by : (n : ℕ) → Has tree (trees_by problem n (next_choices problem [])) → (tree.problem ≡ problem) × IsTree tree
      by zero h = ⊎_elim
          (λ (e : (record { problem = problem; first = None }) ≡ tree).
          (ap (λ t. t.problem) (sym e), subst IsTree e (record { searchable = search; legal = tt; reduced = tt })))
          (λ (none : ⊥). absurd none)
          h
      by (suc n) h =
          let m = from-map tree_of tree (next_choices problem []) h in
          let parts = from-next problem search [] m.0 m.1 in
          (ap (λ t. t.problem) (sym m.2), subst IsTree m.2 (record { searchable = search; legal = (parts.0, tt); reduced = (parts.1, tt) }))

  -- Each tree of a straight problem can be searched.
  pub straight-tree : (tree : Tree) → Has tree (straight_trees problem) → IsTree tree
  straight-tree tree h = (tree-is tree h).1

  -- a full legal list is as long as the problem
  full-long : (x : List Choice) → IsFullLegal problem x → length x ≡ length problem.graph.items
  full-long x schedule =
      sym (length-reverse x) ∙ full-length problem search (reverse x) (made-list problem x schedule.legal) (reverse-full problem.graph.order x ∙ schedule.full)

  -- Each member of the space stands among the entries of a tree, at each level that its stalls reach.
  pub member-entry : (most level : ℕ) (x : List Choice) → InSpace problem most x → stalls_of problem x ≤ level
      → (tree : Tree) × Has tree (straight_trees problem) × (tree.problem ≡ problem) × Has x (entries tree level)
  unfolding straight_trees
  member-entry most level x member few =
      by x (length problem.graph.items) member.legal.legal member.reduced (full-long x member.legal)
      (let same : bound problem (reverse x) ≡ stalls_of problem x = bound-schedule problem search x member.legal in omega arith)
    where
      by : (x : List Choice) (n : ℕ) → IsLegalFrom problem [] x → IsReducedFrom problem [] x → length x ≡ n → bound problem (reverse x) ≤ level
          → (tree : Tree) × Has tree (trees_by problem n (next_choices problem [])) × (tree.problem ≡ problem) × Has x (entries tree level)
      by [] zero legal reduced long within =
          let tree : Tree = record { problem = problem; first = None } in
          (tree, inl refl, refl, has-entry tree (record { searchable = search; legal = tt; reduced = tt }) level [] tt tt within)
      by [] (suc n) legal reduced long within = absurd (omega arith)
      by (c ∷ rest) zero legal reduced long within = absurd (omega arith)
      by (c ∷ rest) (suc n) legal reduced long within =
          let of : IsTree (tree_of c) = record { searchable = search; legal = (legal.0, tt); reduced = (reduced.0, tt) } in
          (tree_of c, has-map tree_of c (next_choices problem []) (has-next problem search [] c legal.0 reduced.0), refl, has-entry (tree_of c) of level rest legal reduced within)

  module _ (most budget : ℕ) where
    -- where no tree has an outcome at a level, no member has so few stalls
    none-below : (level : ℕ) (x : List Choice) → HaveNothing (outcome budget level) (straight_trees problem) → InSpace problem most x → stalls_of problem x ≤ level → ⊥
    unfolding outcome
    none-below level x nothing member few =
        let e = member-entry most level x member few in
        let solves : is_solution e.0.problem level x ≡ true = subst (λ p. is_solution p level x ≡ true) (sym e.2) (is-solution problem level x member.legal.full few) in
        both_ways (is_solution e.0.problem level x) (nothing-none e.0.problem level budget (entries e.0 level) x (nothing e.0 e.1) e.3) solves

    -- What was found at a level: a solution of a tree, where the trees before it and the lower levels have nothing.
    record IsFoundAt (level : ℕ) (x : List Choice) : Type 0 where
      of : Tree
      before : List Tree
      behind : List Tree
      is : straight_trees problem ≡ before ++ of ∷ behind
      tree : IsTree of
      same : of.problem ≡ problem
      first : IsFirstSolution problem level x (entries of level)
      nothing : HaveNothing (outcome budget level) before

    found-at : (level place : ℕ) (x : List Choice) → IsVerdict (straight_trees problem) most budget level place (Found x) → IsFoundAt level x
    unfolding outcome
    found-at level place x v =
        let f = v.first in
        let stands : Has f.tree (straight_trees problem) = subst (Has f.tree) (sym f.is) (has-right f.tree f.before (f.tree ∷ f.behind) (inl refl)) in
        let of = tree-is f.tree stands in
        record {
          of = f.tree;
          before = f.before;
          behind = f.behind;
          is = f.is;
          tree = of.1;
          same = of.0;
          first = subst (λ p. IsFirstSolution p level x (entries f.tree level)) of.0
              (found-first f.tree.problem level budget (entries f.tree level) x (ordered-entries f.tree of.1 level) f.says);
          nothing = f.nothing;
        }

    -- no member with as few stalls comes before it
    found-least : (level : ℕ) (x other : List Choice) → IsFoundAt level x → InSpace problem most other → stalls_of problem other ≤ level → comes_before other x ≡ false
    unfolding outcome
    found-least level x other f member few =
        let e = member-entry most level other member few in
        let solves : is_solution problem level other ≡ true = is-solution problem level other member.legal.full few in
        ⊎_elim
        (λ (before : Has e.0 f.before).
        let none : is_solution e.0.problem level other ≡ false = nothing-none e.0.problem level budget (entries e.0 level) other (f.nothing e.0 before) e.3 in
        absurd (both_ways (is_solution problem level other) (subst (λ p. is_solution p level other ≡ false) e.2 none) solves))
        (λ (rest : (f.of ≡ e.0) ⊎ Has e.0 f.behind).
        ⊎_elim
        (λ (here : f.of ≡ e.0). f.first.least other (subst (λ t. Has other (entries t level)) (sym here) e.3) solves)
        (λ (behind : Has e.0 f.behind).
        let sooner : Sooner f.of e.0 = ordered-behind Sooner f.before f.of f.behind (subst (Ordered Sooner) f.is ordered-trees) e.0 behind in
        comes-not x other (trees-apart f.of e.0 x other sooner (entry-of_tree f.of f.tree level x f.first.listed) (entry-of_tree e.0 (straight-tree e.0 e.1) level other e.3)))
        rest)
        (has-cases e.0 f.before (f.of ∷ f.behind) (subst (Has e.0) f.is e.1))

    -- The schedule of a verdict is the best of the space.
    pub verdict-best : (level place : ℕ) (x : List Choice) → verdict (straight_trees problem) most budget ≡ First level place (Found x) → IsBest problem most x
    verdict-best level place x is =
        let v = verdict-first (straight_trees problem) most budget level place (Found x) is in
        let f = found-at level place x v in
        let parts = solution-parts problem level x f.first.solves in
        let goes = subst (λ p. GoesBy (next_choices p) [] x) f.same (entry-of_tree f.of f.tree level x f.first.listed).goes in
        let within : level ≤ most = v.within in
        let few : stalls_of problem x ≤ level = parts.1 in
        record {
          member = record { legal = record { legal = goes-legal problem search [] x goes; full = parts.0 }; reduced = goes-reduced problem search [] x goes; stalls = omega arith };
          fewest = λ other member. ⊎_elim
              (λ (less : stalls_of problem other < stalls_of problem x).
              absurd (none-below (stalls_of problem other) other (v.lower (stalls_of problem other) (omega arith)) member (omega arith)))
              (λ (more : stalls_of problem x ≤ stalls_of problem other). more)
              (cases_lt (stalls_of problem other) (stalls_of problem x));
          first = λ other member same. found-least level x other f member (omega arith);
        }

    -- Where the verdict is Infeasible, the space is empty.
    pub verdict-none : verdict (straight_trees problem) most budget ≡ Infeasible → (x : List Choice) → InSpace problem most x → ⊥
    verdict-none is x member = none-below most x (verdict-infeasible (straight_trees problem) most budget is most (omega arith)) member member.stalls

    -- A budget of at least the number of entries of each tree at each level is never spent.
    pub verdict-ample : ((level : ℕ) (tree : Tree) → Has tree (straight_trees problem) → length (entries tree level) ≤ budget)
        → (level place : ℕ) → verdict (straight_trees problem) most budget ≡ First level place Spent → ⊥
    unfolding outcome
    verdict-ample enough level place is =
        let v = (verdict-first (straight_trees problem) most budget level place Spent is).first in
        let stands : Has v.tree (straight_trees problem) = subst (Has v.tree) (sym v.is) (has-right v.tree v.before (v.tree ∷ v.behind) (inl refl)) in
        ample v.tree.problem level budget (entries v.tree level) (enough level v.tree stands) v.says
