-- The full legal reduced lists of a problem, and those that go on from choices made so far.
use Rattle.std.proofs.Common.{◌≡◌, ℕ, zero, suc, ◌≤◌, true, false, List, [], ◌∷◌, ◌++◌, filter, reverse, length, sym, ap, ◌∙◌, subst, arith}
use Rattle.std.specs.List.{flat_map}
use Rattle.std.proofs.lemmas.List.{append-nil, length-reverse}
use Rattle.std.proofs.lemmas.Bool.{cond-true, cond-false}
use Rattle.sl_model.specs.declared.schedule.Choice.{Choice}
use Rattle.sl_model.specs.Body.{is_full}
use Rattle.sl_model.specs.Legal.{Problem, IsLegalFrom, IsFullLegal}
use Rattle.sl_model.specs.Space.{IsReducedFrom}
use Rattle.sl_laws.proofs.Members.{Has, Ordered, has-filter, from-filter, ordered-filter, passes-filter}
use Rattle.search_space.specs.Searchable.{IsSearchable, AreMade}
use Rattle.search_space.specs.Next.{next_choices}
use Rattle.search_space.specs.Going.{going_on, full_from, full_lists}
use Rattle.search_space.proofs.Lists.{filter-flat_map, empty-from}
use Rattle.search_space.proofs.Keys.{Comes}
use Rattle.search_space.proofs.Next.{has-next, from-next, ordered-next}
use Rattle.search_space.proofs.Counts.{made-few, full-length}
use Rattle.search_space.proofs.Going.{GoesBy, from-going, has-going, ordered-going, reverse-more, reverse-full}

module _ (problem : Problem) where
  -- choices that were made, and legal ones behind them, are made
  pub made-from : (done rest : List Choice) → AreMade problem done → IsLegalFrom problem done rest → AreMade problem (reverse rest ++ done)
  made-from done [] made legal = made
  made-from done (c ∷ rest) made legal =
      subst (AreMade problem) (sym (reverse-more rest done c)) (made-from (c ∷ done) rest (legal.0, made) legal.1)

  -- a legal list, turned round
  pub made-list : (x : List Choice) → IsLegalFrom problem [] x → AreMade problem (reverse x)
  made-list x legal = subst (AreMade problem) (append-nil (reverse x)) (made-from [] x tt legal)

module _ (problem : Problem) (search : IsSearchable problem) where
  -- A list that goes on by the next choices is legal,
  pub goes-legal : (done rest : List Choice) → GoesBy (next_choices problem) done rest → IsLegalFrom problem done rest
  goes-legal done [] goes = tt
  goes-legal done (c ∷ rest) goes = ((from-next problem search done c goes.0).0, goes-legal (c ∷ done) rest goes.1)

  -- and reduced.
  pub goes-reduced : (done rest : List Choice) → GoesBy (next_choices problem) done rest → IsReducedFrom problem done rest
  goes-reduced done [] goes = tt
  goes-reduced done (c ∷ rest) goes = ((from-next problem search done c goes.0).1, goes-reduced (c ∷ done) rest goes.1)

  -- And a legal reduced list goes on so.
  pub legal-goes : (done rest : List Choice) → IsLegalFrom problem done rest → IsReducedFrom problem done rest → GoesBy (next_choices problem) done rest
  legal-goes done [] legal reduced = tt
  legal-goes done (c ∷ rest) legal reduced = (has-next problem search done c legal.0 reduced.0, legal-goes (c ∷ done) rest legal.1 reduced.1)

  -- where no item is left, no choice may come
  pub full-next : (done : List Choice) → AreMade problem done → is_full problem.graph.order done ≡ true → next_choices problem done ≡ []
  full-next done made full = empty-from (next_choices problem done) (λ c h.
      let all : length done ≡ length problem.graph.items = full-length problem search done made full in
      let few : length (c ∷ done) ≤ length problem.graph.items = made-few problem search (c ∷ done) ((from-next problem search done c h).0, made) in
      omega arith)

  -- ---- the lists that go on from choices made so far

  -- those that go on from some next choices
  abbrev behind : ℕ → List Choice → List Choice → List (List Choice)
  behind more done choices = flat_map (λ c. going_on (next_choices problem) more (c ∷ done)) choices

  -- Where these place all items, there is one.
  pub full_from-full : (more : ℕ) (done : List Choice) → AreMade problem done → is_full problem.graph.order done ≡ true → full_from problem more done ≡ reverse done ∷ []
  unfolding full_from going_on
  full_from-full zero done made full = cond-true (is_full problem.graph.order (reverse done)) (reverse done ∷ []) [] (reverse-full problem.graph.order done ∙ full)
  full_from-full (suc more) done made full =
      cond-true (is_full problem.graph.order (reverse done)) (reverse done ∷ filter (is_full problem.graph.order) (behind more done (next_choices problem done))) _ (reverse-full problem.graph.order done ∙ full)
      ∙ ap (λ choices. reverse done ∷ filter (is_full problem.graph.order) (behind more done choices)) (full-next done made full)

  -- Where they don't, there are those that go on from each next choice.
  pub full_from-more : (more : ℕ) (done : List Choice) → is_full problem.graph.order done ≡ false
      → full_from problem (suc more) done ≡ flat_map (λ c. full_from problem more (c ∷ done)) (next_choices problem done)
  unfolding full_from going_on
  full_from-more more done lacks =
      cond-false (is_full problem.graph.order (reverse done)) _ (filter (is_full problem.graph.order) (flat_map (λ c. going_on (next_choices problem) more (c ∷ done)) (next_choices problem done))) (reverse-full problem.graph.order done ∙ lacks)
      ∙ filter-flat_map (is_full problem.graph.order) (λ c. going_on (next_choices problem) more (c ∷ done)) (next_choices problem done)

  -- Where they don't and no choice is left, there is none.
  pub full_from-none : (done : List Choice) → is_full problem.graph.order done ≡ false → full_from problem 0 done ≡ []
  unfolding full_from going_on
  full_from-none done lacks = cond-false (is_full problem.graph.order (reverse done)) (reverse done ∷ []) [] (reverse-full problem.graph.order done ∙ lacks)

  -- ---- the full lists of a problem

  -- each is legal, reduced and full
  pub full-legal : (x : List Choice) → Has x (full_lists problem) → IsFullLegal problem x × IsReducedFrom problem [] x
  unfolding full_from
  full-legal x h =
      let g = from-going (next_choices problem) (length problem.graph.items) [] x (from-filter (is_full problem.graph.order) x (going_on (next_choices problem) (length problem.graph.items) []) h) in (
        record {
          legal = subst (IsLegalFrom problem []) (sym g.is) (goes-legal [] g.rest g.goes);
          full = passes-filter (is_full problem.graph.order) x (going_on (next_choices problem) (length problem.graph.items) []) h;
        },
        subst (IsReducedFrom problem []) (sym g.is) (goes-reduced [] g.rest g.goes),
      )

  -- each that is, is listed
  pub has-full : (x : List Choice) → IsFullLegal problem x → IsReducedFrom problem [] x → Has x (full_lists problem)
  unfolding full_from
  has-full x schedule reduced =
      let few : length (reverse x) ≤ length problem.graph.items = made-few problem search (reverse x) (made-list problem x schedule.legal) in
      let same : length (reverse x) ≡ length x = length-reverse x in
      has-filter (is_full problem.graph.order) x (going_on (next_choices problem) (length problem.graph.items) [])
      (has-going (next_choices problem) (length problem.graph.items) [] x (legal-goes [] x schedule.legal reduced) (omega arith)) schedule.full

  -- they stand in their order
  pub ordered-full : (more : ℕ) (done : List Choice) → Ordered Comes (full_from problem more done)
  unfolding full_from
  ordered-full more done =
      ordered-filter Comes (is_full problem.graph.order) (going_on (next_choices problem) more done) (ordered-going (next_choices problem) (ordered-next problem search) more done)
