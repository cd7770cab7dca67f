-- The trees of a straight problem by their numbers.
use Rattle.std.proofs.Common.{◌≡◌, ℕ, zero, suc, ◌+◌, ◌<◌, ◌≤◌, List, [], ◌∷◌, ◌++◌, map, length, get_or, Option, Some, None, inl, inr, refl, sym, ap, ◌∙◌, subst, append_assoc, append-nil, arith}
use Rattle.std.proofs.lemmas.List.{length-append, length-map}
use Rattle.sl_model.specs.declared.schedule.Choice.{Choice}
use Rattle.sl_model.specs.Legal.{Problem}
use Rattle.sl_laws.proofs.Members.{Has, has-map}
use Rattle.search_space.specs.Searchable.{IsSearchable}
use Rattle.search_space.specs.Next.{next_choices, next_behind, rest_behind}
use Rattle.search_space.specs.Levels.{Tree, IsTree, straight_trees, trees_by}
use Rattle.search_space.proofs.ForCallers.{straight-tree, rest_behind-more, rest_behind-none, rest_behind-all}
use Rattle.bnb_solver.specs.declared.refusal.TheConstants.{TREES}
use Rattle.bnb_solver.specs.Straight.{tree_of, tree_at, beginnings}

-- an element at a place is one of the list
has-get : {X : Type 0} (xs : List X) (i : ℕ) (d : X) → i < length xs → Has (get_or xs i d) xs
has-get [] i d within = absurd (omega arith)
has-get (x ∷ xs) zero d within = inl refl
has-get (x ∷ xs) (suc i) d within = inr (has-get xs i d (omega arith))

-- it is so whatever stands for none
pub get-default : {X : Type 0} (xs : List X) (i : ℕ) (d e : X) → i < length xs → get_or xs i d ≡ get_or xs i e
get-default [] i d e within = absurd (omega arith)
get-default (x ∷ xs) zero d e within = refl
get-default (x ∷ xs) (suc i) d e within = get-default xs i d e (omega arith)

module _ (problem : Problem) where
  -- the trees that begin with choices, without what they begin with, and with it again
  over-choices : (cs : List Choice) → map (λ tree. tree.first) (map (λ c. tree_of problem (Some c)) cs) ≡ map Some cs
  over-choices [] = refl
  over-choices (c ∷ cs) = ap (λ fs. Some c ∷ fs) (over-choices cs)

  again : (cs : List Choice) → map (λ c. tree_of problem (Some c)) cs ≡ map (tree_of problem) (map Some cs)
  again [] = refl
  again (c ∷ cs) = ap (λ ts. tree_of problem (Some c) ∷ ts) (again cs)

  -- The trees are those that begin so.
  pub straight-are : straight_trees problem ≡ map (tree_of problem) (beginnings problem)
  unfolding straight_trees beginnings
  straight-are = by (length problem.graph.items)
    where
      by : (n : ℕ) → trees_by problem n (next_choices problem []) ≡ map (tree_of problem) (map (λ tree. tree.first) (trees_by problem n (next_choices problem [])))
      by zero = refl
      by (suc n) = again (next_choices problem []) ∙ ap (map (tree_of problem)) (sym (over-choices (next_choices problem [])))

  -- there are as many
  pub count-firsts : length (straight_trees problem) ≡ length (beginnings problem)
  count-firsts = ap length straight-are ∙ length-map (beginnings problem) (tree_of problem)

  -- Without items there is one, which begins with no choice,
  pub firsts-none : length problem.graph.items ≡ 0 → beginnings problem ≡ None ∷ []
  unfolding straight_trees beginnings
  firsts-none none = by (length problem.graph.items) none
    where
      by : (n : ℕ) → n ≡ 0 → map (λ tree. tree.first) (trees_by problem n (next_choices problem [])) ≡ None ∷ []
      by zero e = refl
      by (suc n) e = absurd (omega arith)

  -- and else one for each that may come first.
  pub firsts-some : 0 < length problem.graph.items → beginnings problem ≡ map Some (next_choices problem [])
  unfolding straight_trees beginnings
  firsts-some some = by (length problem.graph.items) some
    where
      by : (n : ℕ) → 0 < n → map (λ tree. tree.first) (trees_by problem n (next_choices problem [])) ≡ map Some (next_choices problem [])
      by zero e = absurd (omega arith)
      by (suc n) e = over-choices (next_choices problem [])

  module _ (search : IsSearchable problem) where
    -- The tree of a number can be searched.
    pub tree-at : (place : ℕ) → place < length (beginnings problem) → IsTree (tree_at problem place)
    tree-at place within =
        straight-tree problem search (tree_at problem place)
        (subst (Has (tree_at problem place)) (sym straight-are)
        (has-map (tree_of problem) (get_or (beginnings problem) place None) (beginnings problem) (has-get (beginnings problem) place None within)))

    -- ---- the choices that may come first, added one after the other

    -- Those that were added, and those behind a choice, are all.
    abbrev pub AreAll : List (Option Choice) → Option Choice → Type 0
    AreAll list after = list ++ map Some (rest_behind problem [] after) ≡ map Some (next_choices problem [])

    pub all-start : (list : List (Option Choice)) → list ≡ [] → AreAll list None
    all-start list none = ap (λ l. l ++ map Some (rest_behind problem [] None)) none ∙ ap (map Some) (rest_behind-all problem search [])

    pub all-more : (list now : List (Option Choice)) (after : Option Choice) (c : Choice) → next_behind problem [] after ≡ Some c → now ≡ list ++ Some c ∷ [] → AreAll list after → AreAll now (Some c)
    all-more list now after c next is all =
        ap (λ l. l ++ map Some (rest_behind problem [] (Some c))) is ∙ append_assoc list (Some c ∷ []) (map Some (rest_behind problem [] (Some c)))
        ∙ ap (λ cs. list ++ map Some cs) (sym (rest_behind-more problem search [] after c next)) ∙ all

    pub all-end : (list : List (Option Choice)) (after : Option Choice) → next_behind problem [] after ≡ None → AreAll list after → list ≡ map Some (next_choices problem [])
    all-end list after next all =
        sym (append-nil list) ∙ ap (λ cs. list ++ map Some cs) (sym (rest_behind-none problem search [] after next)) ∙ all

    -- There are more than were added, where one is left.
    pub all-many : (list : List (Option Choice)) (after : Option Choice) (c : Choice) → 0 < length problem.graph.items → next_behind problem [] after ≡ Some c → length list ≡ TREES → AreAll list after → TREES < length (straight_trees problem)
    all-many list after c some next full all =
        let rest : List Choice = rest_behind problem [] (Some c) in
        let more : AreAll (list ++ Some c ∷ []) (Some c) = all-more list (list ++ Some c ∷ []) after c next refl all in
        let long : length ((list ++ Some c ∷ []) ++ map Some rest) ≡ length (beginnings problem) = ap length more ∙ ap length (sym (firsts-some some)) in
        let parts : length ((list ++ Some c ∷ []) ++ map Some rest) ≡ length (list ++ Some c ∷ []) + length (map Some rest) = length-append (list ++ Some c ∷ []) (map Some rest) in
        let one : length (list ++ Some c ∷ []) ≡ length list + 1 = length-append list (Some c ∷ []) in
        let count : length (straight_trees problem) ≡ length (beginnings problem) = count-firsts in
        omega arith

    -- The choices that are left are fewer behind the next one.
    pub rest-fewer : (after : Option Choice) (c : Choice) → next_behind problem [] after ≡ Some c → length (rest_behind problem [] (Some c)) < length (rest_behind problem [] after)
    rest-fewer after c next =
        let one : length (rest_behind problem [] after) ≡ suc (length (rest_behind problem [] (Some c))) = ap length (rest_behind-more problem search [] after c next) in omega arith
