-- The bound along legal lists: it never falls, and that of a full list is its stalls.
use Rattle.std.proofs.Common.{◌≡◌, ℕ, suc, ◌+◌, ◌-◌, ◌<◌, ◌≤◌, Bool, true, false, ◌&&◌, ◌||◌, eqb, List, [], ◌∷◌, ◌++◌, reverse, map, length, if◌then◌else◌, slice_get, ⊎_elim, refl, sym, ap, ◌∙◌, subst, true≢false, max, arith}
use Rattle.std.specs.List.{list_all, zip}
use Rattle.std.proofs.lemmas.List.{append-nil, reverse-append}
use Rattle.std.proofs.lemmas.Bool.{and_parts, not-true, cond-true}
use Rattle.sl_model.specs.declared.register.RegSet.{RegSet}
use Rattle.sl_model.specs.declared.schedule.Choice.{Choice}
use Rattle.sl_model.specs.declared.schedule.Source.{Source}
use Rattle.sl_model.specs.declared.schedule.Source.TheVariants.{Entry, Item}
use Rattle.sl_model.specs.Source.{operands, item_at}
use Rattle.sl_model.specs.Body.{chosen, is_placed, is_full, placed_in, holds_in, is_still_held, given}
use Rattle.sl_model.specs.Cycles.{Issued, timed, timed_from, cycle_count, stalls, ceil_div}
use Rattle.sl_model.specs.Legal.{Problem, IsLegalNext, IsLegalFrom, IsFullLegal, sources_in, info_in, is_held_in, is_in_set}
use Rattle.sl_model.specs.Space.{stalls_of}
use Rattle.sl_laws.proofs.Rules.{keeps_rules}
use Rattle.sl_laws.proofs.Members.{Has}
use Rattle.search_space.specs.Searchable.{IsSearchable, AreMade}
use Rattle.search_space.specs.Bound.{issued_for, greatest, filled, needs, needed, bound}
use Rattle.search_space.proofs.Numbers.{ceil-zero, greatest-within}
use Rattle.search_space.proofs.BoundLemmas.{is_known_in, ComesInOrder, InOrder, bound-more}
use Rattle.search_space.proofs.Going.{reverse-more, reverse-full}
use Rattle.search_space.proofs.Counts.{full-length}
use Rattle.search_space.proofs.Full.{made-list}
use Rattle.search_space.proofs.Outputs.{known-item}

module _ (problem : Problem) where
  -- what is issued, counted from the first choice on or from the last
  timed_from-is : (done rest : List Choice) → timed_from problem.costs (sources_in problem) done (issued_for problem done) rest ≡ issued_for problem (reverse rest ++ done)
  unfolding timed_from issued_for
  timed_from-is done [] = refl
  timed_from-is done (c ∷ rest) = timed_from-is (c ∷ done) rest ∙ ap (issued_for problem) (sym (reverse-more rest done c))

  -- so it is of a schedule
  pub timed-is : (x : List Choice) → timed problem.costs (sources_in problem) x ≡ issued_for problem (reverse x)
  timed-is x = ap (λ xs. timed_from problem.costs (sources_in problem) [] xs x) none ∙ timed_from-is [] x ∙ ap (issued_for problem) (append-nil (reverse x))
    where
      none : [] ≡ issued_for problem []
      none = unfold issued_for in refl

  -- each choice is issued
  length-issued : (done : List Choice) → length (issued_for problem done) ≡ length done
  unfolding issued_for
  length-issued [] = refl
  length-issued (c ∷ done) = ap suc (length-issued done)

-- ---- a legal choice comes in order

-- an output that is held was placed
placed-held : (s : Source) (from place : ℕ) (done all : List Choice) → holds_in all s (placed_in done from place) ≡ true → is_placed done from ≡ true
unfolding placed_in is_placed
placed-held s from place [] all held = absurd (true≢false (sym held))
placed-held s from place (c ∷ done) all held = by (eqb c.item from) held (placed-held s from place done all)
  where
    by : (b : Bool) → holds_in all s (if b then slice_get (chosen c) place else placed_in done from place) ≡ true
        → (holds_in all s (placed_in done from place) ≡ true → is_placed done from ≡ true) → (b || is_placed done from) ≡ true
    by true held rest = refl
    by false held rest = rest held

-- a source that is held is an entry or was placed
known-held : (done : List Choice) (s : Source) → is_still_held done s ≡ true → is_known_in done s ≡ true
unfolding is_still_held
known-held done (Entry r) held = refl
known-held done (Item from place) held = placed-held (Item from place) from place done done held

-- so are those of the operands of a choice
known-classes : (done : List Choice) (sources : List Source) (sets : List RegSet) → length sources ≤ length sets
    → list_all (is_held_in done) (zip sources sets) ≡ true → list_all (is_known_in done) sources ≡ true
known-classes done [] sets room all = refl
known-classes done (s ∷ sources) [] room all = absurd (omega arith)
known-classes done (s ∷ sources) (set ∷ sets) room all =
    let parts = and_parts (is_held_in done (s, set)) (list_all (is_held_in done) (zip sources sets)) all in
    let held = and_parts (is_still_held done s) (is_in_set set (given done s)) parts.0 in
    ap (λ b. b && list_all (is_known_in done) sources) (known-held done s held.0) ∙ known-classes done sources sets (omega arith) parts.1

module _ (problem : Problem) (search : IsSearchable problem) where
  -- there is a class for each source of an item
  room-sources : (p : ℕ) → p < length problem.graph.items → length (sources_in problem p) ≤ length (info_in problem p).in_sets
  room-sources p within =
      let count : length (sources_in problem p) ≡ length (operands (item_at problem.graph.items p)) = search.sources.operands_have p within in
      let room : length (operands (item_at problem.graph.items p)) ≤ length (info_in problem p).in_sets = search.operand_classes p within in
      omega arith

  -- the item of a legal choice wasn't placed, and its sources were
  legal-in_order : (done : List Choice) (c : Choice) → IsLegalNext problem done c → ComesInOrder problem done c
  legal-in_order done c legal =
      let rules = keeps_rules problem done c legal.rules in
      record {
        fresh = not-true (is_placed done c.item) rules.l1;
        sources = known-classes done (sources_in problem c.item) (info_in problem c.item).in_sets (room-sources c.item (known-item problem search c legal.of)) rules.l2;
      }

  -- so of choices that were made
  made-in_order : (done : List Choice) → AreMade problem done → InOrder problem done
  made-in_order [] made = tt
  made-in_order (c ∷ done) made = (legal-in_order done c made.0, made-in_order done made.1)

  -- The bound never falls with a legal choice,
  pub bound-legal : (done : List Choice) (c : Choice) → AreMade problem done → IsLegalNext problem done c → bound problem done ≤ bound problem (c ∷ done)
  bound-legal done c made legal = bound-more problem done c (made-in_order done made) (legal-in_order done c legal) search.width

  -- nor along a legal list.
  pub bound-along : (done rest : List Choice) → AreMade problem done → IsLegalFrom problem done rest → bound problem done ≤ bound problem (reverse rest ++ done)
  bound-along done [] made legal = omega arith
  bound-along done (c ∷ rest) made legal =
      let here : bound problem done ≤ bound problem (c ∷ done) = bound-legal done c made legal.0 in
      let there : bound problem (c ∷ done) ≤ bound problem (reverse rest ++ c ∷ done) = bound-along (c ∷ done) rest (legal.0, made) legal.1 in
      let same : bound problem (reverse (c ∷ rest) ++ done) ≡ bound problem (reverse rest ++ c ∷ done) = ap (bound problem) (reverse-more rest done c) in
      omega arith

  -- where all items are placed, none needs more
  none-needed : (done : List Choice) → is_full problem.graph.order done ≡ true → needed problem done ≡ 0
  unfolding needed
  none-needed done full =
      let none : greatest (map (needs problem done) problem.graph.order) + 0 ≤ 0 = greatest-within (needs problem done) problem.graph.order 0 0 (omega arith)
      (λ q standing. (let is : needs problem done q ≡ 0 = placed q problem.graph.order full standing in omega arith)) in
      omega arith
    where
      placed : (q : ℕ) (order : List ℕ) → is_full order done ≡ true → Has q order → needs problem done q ≡ 0
      placed q [] full h = absurd h
      placed q (p ∷ order) full h =
          let parts = and_parts (is_placed done p) (is_full order done) full in
          ⊎_elim
          (λ (here : p ≡ q). cond-true (is_placed done q) 0 _ (ap (is_placed done) (sym here) ∙ parts.0))
          (λ (there : Has q order). placed q order parts.1 there)
          h

  -- where as many were issued as there are items, no slot is left to fill
  filled-full : (items : ℕ) (issued : List Issued) → length issued ≡ items
      → max (ceil_div items problem.costs.width) (filled problem.costs.width items issued) ≡ max (ceil_div items problem.costs.width) (cycle_count issued)
  unfolding filled
  filled-full items [] same = omega arith
  filled-full items (i ∷ issued) same =
      ap (λ m. max (ceil_div items problem.costs.width) (i.cycle + 1 + m)) (none-left items _ same)
      ∙ (let more : max (ceil_div items problem.costs.width) (i.cycle + 1 + 0) ≡ max (ceil_div items problem.costs.width) (i.cycle + 1) = omega arith in more)
    where
      none-left : (n room : ℕ) → suc (length issued) ≡ n → ceil_div (n - suc (length issued) - room) problem.costs.width ≡ 0
      none-left n room e =
          let none : n - suc (length issued) - room ≡ 0 = omega arith in
          ap (λ m. ceil_div m problem.costs.width) none ∙ ceil-zero problem.costs.width search.width

  -- The bound of a full legal list is its stalls.
  bound-full : (done : List Choice) → AreMade problem done → is_full problem.graph.order done ≡ true → bound problem done ≡ stalls problem.costs.width (issued_for problem done)
  unfolding bound
  bound-full done made full =
      let items = length problem.graph.items in
      let width = problem.costs.width in
      let same : length (issued_for problem done) ≡ items = length-issued problem done ∙ full-length problem search done made full in
      let none : needed problem done ≡ 0 = none-needed done full in
      let slots : max (ceil_div items width) (filled width items (issued_for problem done)) ≡ max (ceil_div items width) (cycle_count (issued_for problem done)) = filled-full items (issued_for problem done) same in
      let counted : ceil_div (length (issued_for problem done)) width ≡ ceil_div items width = ap (λ n. ceil_div n width) same in
      omega arith

  -- So it is of a schedule.
  pub bound-schedule : (x : List Choice) → IsFullLegal problem x → bound problem (reverse x) ≡ stalls_of problem x
  bound-schedule x schedule =
      bound-full (reverse x) (made-list problem x schedule.legal) (reverse-full problem.graph.order x ∙ schedule.full)
      ∙ ap (stalls problem.costs.width) (sym (timed-is problem x))

  -- ---- in the order of the choices

  -- a list that goes on in two parts is legal in both
  pub legal-parts : (done front rest : List Choice) → IsLegalFrom problem done (front ++ rest) → IsLegalFrom problem done front × IsLegalFrom problem (reverse front ++ done) rest
  legal-parts done [] rest legal = (tt, legal)
  legal-parts done (c ∷ front) rest legal =
      let parts = legal-parts (c ∷ done) front rest legal.1 in
      ((legal.0, parts.0), subst (λ d. IsLegalFrom problem d rest) (sym (reverse-more front done c)) parts.1)

  -- The bound never falls as a legal list goes on.
  pub bound-never-falls : (front rest : List Choice) → IsLegalFrom problem [] (front ++ rest) → bound problem (reverse front) ≤ bound problem (reverse (front ++ rest))
  bound-never-falls front rest legal =
      let parts = legal-parts [] front rest legal in
      let below : bound problem (reverse front) ≤ bound problem (reverse rest ++ reverse front) =
      bound-along (reverse front) rest (made-list problem front parts.0) (subst (λ d. IsLegalFrom problem d rest) (append-nil (reverse front)) parts.1) in
      let same : bound problem (reverse (front ++ rest)) ≡ bound problem (reverse rest ++ reverse front) = ap (bound problem) (reverse-append front rest) in
      omega arith

  -- No full legal schedule has fewer stalls than the bound of any list that it begins with.
  pub bound-below-stalls : (front rest : List Choice) → IsFullLegal problem (front ++ rest) → bound problem (reverse front) ≤ stalls_of problem (front ++ rest)
  bound-below-stalls front rest schedule =
      let below : bound problem (reverse front) ≤ bound problem (reverse (front ++ rest)) = bound-never-falls front rest schedule.legal in
      let same : bound problem (reverse (front ++ rest)) ≡ stalls_of problem (front ++ rest) = bound-schedule (front ++ rest) schedule in
      omega arith
