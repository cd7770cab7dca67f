-- The entries of a tree at a level are its legal reduced lists within the level, in their order.
use Rattle.std.proofs.Common.{◌≡◌, ℕ, ◌+◌, ◌-◌, ◌≤◌, List, [], ◌∷◌, ◌++◌, reverse, length, Option, Some, None, refl, sym, ap, ◌∙◌, subst, arith}
use Rattle.std.proofs.lemmas.List.{length-reverse}
use Rattle.std.proofs.lemmas.Bool.{leb-true, le-leb}
use Rattle.sl_model.specs.declared.schedule.Choice.{Choice}
use Rattle.sl_model.specs.Legal.{IsLegalFrom}
use Rattle.sl_model.specs.Space.{IsReducedFrom}
use Rattle.sl_laws.proofs.Members.{Has, Ordered, has-filter, from-filter, ordered-filter, passes-filter}
use Rattle.search_space.specs.Next.{next_choices}
use Rattle.search_space.specs.Going.{going_on}
use Rattle.search_space.specs.Bound.{bound}
use Rattle.search_space.specs.Levels.{Tree, IsTree, begun, is_within, entries_from, entries}
use Rattle.search_space.proofs.Keys.{Comes}
use Rattle.search_space.proofs.Next.{ordered-next}
use Rattle.search_space.proofs.Counts.{made-few}
use Rattle.search_space.proofs.Going.{GoesBy, from-going, has-going, ordered-going}
use Rattle.search_space.proofs.Full.{made-list, legal-goes}

-- what a list begins with, turned round
pub begun-reverse : (first : Option Choice) → reverse (begun first) ≡ begun first
begun-reverse None = refl
begun-reverse (Some c) = refl

-- A list of a tree: it goes on by the next choices from the first on, and begins as the tree does.
pub record IsOfTree (tree : Tree) (x : List Choice) : Type 0 where
  pub goes : GoesBy (next_choices tree.problem) [] x
  pub rest : List Choice
  pub is : x ≡ begun tree.first ++ rest

-- a list that goes on from what a tree begins with goes on from the first choice
begun-goes : (next : List Choice → List Choice) (first : Option Choice) (rest : List Choice) → GoesBy next [] (begun first) → GoesBy next (begun first) rest → GoesBy next [] (begun first ++ rest)
begun-goes next None rest start goes = goes
begun-goes next (Some c) rest start goes = (start.0, goes)

-- and the other way
goes-begun : (next : List Choice → List Choice) (first : Option Choice) (rest : List Choice) → GoesBy next [] (begun first ++ rest) → GoesBy next (begun first) rest
goes-begun next None rest goes = goes
goes-begun next (Some c) rest goes = goes.1

module _ (tree : Tree) (is_tree : IsTree tree) (level : ℕ) where
  -- how many more choices the lists of the tree may have
  abbrev more : ℕ
  more = length tree.problem.graph.items - length (begun tree.first)

  -- An entry is a list of the tree,
  pub entry-of_tree : (x : List Choice) → Has x (entries tree level) → IsOfTree tree x
  unfolding entries entries_from
  entry-of_tree x h =
      let next = next_choices tree.problem in
      let g = from-going next more (begun tree.first) x (from-filter (is_within tree.problem level) x (going_on next more (begun tree.first)) h) in
      let same : x ≡ begun tree.first ++ g.rest = g.is ∙ ap (λ front. front ++ g.rest) (begun-reverse tree.first) in
      let start : GoesBy next [] (begun tree.first) = legal-goes tree.problem is_tree.searchable [] (begun tree.first) is_tree.legal is_tree.reduced in
      record {
        goes = subst (GoesBy next []) (sym same) (begun-goes next tree.first g.rest start g.goes);
        rest = g.rest;
        is = same;
      }

  -- and within the level.
  pub entry-within : (x : List Choice) → Has x (entries tree level) → bound tree.problem (reverse x) ≤ level
  unfolding entries entries_from
  entry-within x h =
      leb-true (bound tree.problem (reverse x)) level
      (passes-filter (is_within tree.problem level) x (going_on (next_choices tree.problem) more (begun tree.first)) h)

  -- Each legal reduced list that begins as the tree does and is within the level is an entry.
  pub has-entry : (rest : List Choice) → IsLegalFrom tree.problem [] (begun tree.first ++ rest) → IsReducedFrom tree.problem [] (begun tree.first ++ rest)
      → bound tree.problem (reverse (begun tree.first ++ rest)) ≤ level → Has (begun tree.first ++ rest) (entries tree level)
  unfolding entries entries_from
  has-entry rest legal reduced within =
      let next = next_choices tree.problem in
      let x = begun tree.first ++ rest in
      let short : length (reverse x) ≤ length tree.problem.graph.items = made-few tree.problem is_tree.searchable (reverse x) (made-list tree.problem x legal) in
      let same : length (reverse x) ≡ length x = length-reverse x in
      let parts : length x ≡ length (begun tree.first) + length rest = length-parts (begun tree.first) rest in
      let goes : GoesBy next (begun tree.first) rest = goes-begun next tree.first rest (legal-goes tree.problem is_tree.searchable [] x legal reduced) in
      has-filter (is_within tree.problem level) x (going_on next more (begun tree.first))
      (subst (λ front. Has (front ++ rest) (going_on next more (begun tree.first))) (begun-reverse tree.first) (has-going next more (begun tree.first) rest goes (omega arith)))
      (le-leb (bound tree.problem (reverse x)) level within)
    where
      length-parts : (front rest : List Choice) → length (front ++ rest) ≡ length front + length rest
      length-parts [] rest = omega arith
      length-parts (c ∷ front) rest = let e : length (front ++ rest) ≡ length front + length rest = length-parts front rest in omega arith

  -- Entries stand in their order.
  pub ordered-entries : Ordered Comes (entries tree level)
  unfolding entries entries_from
  ordered-entries =
      ordered-filter Comes (is_within tree.problem level) (going_on (next_choices tree.problem) more (begun tree.first))
      (ordered-going (next_choices tree.problem) (ordered-next tree.problem is_tree.searchable) more (begun tree.first))
