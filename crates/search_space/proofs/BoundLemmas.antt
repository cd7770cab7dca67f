-- The bound of a list of choices never falls.
use Rattle.std.proofs.Common.{◌≡◌, ℕ, zero, suc, ◌+◌, ◌||◌, ◌≤◌, Bool, true, false, eqb, List, [], ◌∷◌, map, length, max, if◌then◌else◌, inl, inr, ⊎_elim, refl, sym, ap, ◌∙◌, subst, true≢false, arith}
use Rattle.std.specs.List.{list_all, enumerate_from}
use Rattle.std.proofs.lemmas.Bool.{or_parts, cases_Bool, eqb-true, ne_eqb, and_parts, cond-true, cond-false, both_ways}
use Rattle.sl_model.specs.declared.schedule.Source.{Source}
use Rattle.sl_model.specs.declared.schedule.Source.TheVariants.{Entry, Item}
use Rattle.sl_model.specs.declared.schedule.Choice.{Choice}
use Rattle.sl_model.specs.Cycles.{ready_after, cycle_of}
use Rattle.sl_model.specs.Body.{is_placed}
use Rattle.sl_model.specs.Legal.{Problem, sources_in}
use Rattle.search_space.specs.Bound.{issued_for, greatest, filled, known_at, known_from, earliest, way, way_by, height_within, height, needs, needed, bound}
use Rattle.sl_laws.proofs.Members.{Has}
use Rattle.search_space.proofs.Numbers.{greatest-within, greatest-has, greatest-mono}
use Rattle.search_space.proofs.Slots.{filled-more, filled-last}
use Rattle.search_space.proofs.Earliest.{cycle_next, issued_for-more, cycle_of-here, is_placed-more, placed-here, cycle_next-from, earliest-more, earliest-next}

-- Is a source an entry, or placed?
abbrev pub is_known_in : List Choice → Source → Bool
is_known_in done (Entry r) = true
is_known_in done (Item from place) = is_placed done from

-- a choice comes in order: its item wasn't placed, and each of its sources was
pub record ComesInOrder (problem : Problem) (done : List Choice) (c : Choice) : Type 0 where
  pub fresh : is_placed done c.item ≡ false
  pub sources : list_all (is_known_in done) (sources_in problem c.item) ≡ true

-- Each choice came in order.
abbrev pub InOrder : Problem → List Choice → Type 0
InOrder problem [] = Unit {0}
InOrder problem (c ∷ done) = ComesInOrder problem done c × InOrder problem done

-- greater heights give greater ways
way-mono : (problem : Problem) (g h : ℕ → ℕ) (item reader : ℕ) (x : ℕ × Source) → ((p : ℕ) → g p ≤ h p) → way problem g item reader x ≤ way problem h item reader x
way-mono problem g h item reader (operand, Entry r) each = omega arith
way-mono problem g h item reader (operand, Item from place) each = by (eqb from item)
  where
    by : (b : Bool) → (if b then ready_after problem.costs item place reader operand + g reader else 0) ≤ (if b then ready_after problem.costs item place reader operand + h reader else 0)
    by true = let le : g reader ≤ h reader = each reader in omega arith
    by false = omega arith

-- a round more gives no lesser height
height-more : (problem : Problem) (readers item : ℕ) → height_within readers problem item ≤ height_within (suc readers) problem item
unfolding height_within way_by
height-more problem zero item = omega arith
height-more problem (suc readers) item =
    let rest : greatest (map (way_by problem (height_within readers problem) item) problem.graph.order) ≤ greatest (map (way_by problem (height_within (suc readers) problem) item) problem.graph.order)
    = greatest-mono _ _ problem.graph.order (λ q. greatest-mono _ _ (enumerate_from 0 (sources_in problem q)) (λ x. way-mono problem (height_within readers problem) (height_within (suc readers) problem) item q x (height-more problem readers))) in
    omega arith

-- What items need.

-- an item is still unplaced where it reads an output of one that comes now
reader-placed : (problem : Problem) (done : List Choice) (from place q : ℕ) → InOrder problem done → is_placed done from ≡ false → Has (Item from place) (sources_in problem q) → is_placed done q ≡ false
unfolding is_placed
reader-placed problem [] from place q in_order fresh reads = refl
reader-placed problem (c ∷ done) from place q in_order fresh reads =
    let parts = or_parts (eqb c.item from) (is_placed done from) fresh in
    let rest : is_placed done q ≡ false = reader-placed problem done from place q in_order.1 parts.1 reads in
    ⊎_elim
    (λ (same : eqb c.item q ≡ true).
    let e : c.item ≡ q = eqb-true c.item q same in
    let placed : is_placed done from ≡ true = all-known done (sources_in problem q) from place (subst (λ p. list_all (is_known_in done) (sources_in problem p) ≡ true) e in_order.0.sources) reads in
    absurd (both_ways (is_placed done from) parts.1 placed))
    (λ (other : eqb c.item q ≡ false). ap (λ b. b || is_placed done q) other ∙ rest)
    (cases_Bool (eqb c.item q))
  where
    all-known : (done : List Choice) (sources : List Source) (from place : ℕ) → list_all (is_known_in done) sources ≡ true → Has (Item from place) sources → is_placed done from ≡ true
    all-known done [] from place all h = absurd h
    all-known done (s ∷ sources) from place all h =
        let parts = and_parts (is_known_in done s) (list_all (is_known_in done) sources) all in
        ⊎_elim
        (λ (here : s ≡ Item from place). subst (λ x. is_known_in done x ≡ true) here parts.0)
        (λ (there : Has (Item from place) sources). all-known done sources from place parts.1 there)
        h

-- an operand that is known is no later than all are
known_from-has : (problem : Problem) (done : List Choice) (to k operand : ℕ) (s : Source) (sources : List Source) → Has (operand, s) (enumerate_from k sources)
    → known_at problem done to operand s ≤ known_from problem done to k sources
unfolding known_from
known_from-has problem done to k operand s [] h = absurd h
known_from-has problem done to k operand s (t ∷ sources) h = ⊎_elim
    (λ (here : (k, t) ≡ (operand, s)).
    let same : known_at problem done to k t ≡ known_at problem done to operand s = ap (λ x. known_at problem done to x.0 x.1) here in
    omega arith)
    (λ (there : Has (operand, s) (enumerate_from (k + 1) sources)).
    let rest : known_at problem done to operand s ≤ known_from problem done to (k + 1) sources = known_from-has problem done to (k + 1) operand s sources there in
    omega arith)
    h

-- a source that is listed with its operand's number is one of the sources
pub numbered-has : (k operand : ℕ) (s : Source) (sources : List Source) → Has (operand, s) (enumerate_from k sources) → Has s sources
numbered-has k operand s [] h = absurd h
numbered-has k operand s (t ∷ sources) h = ⊎_elim
    (λ (here : (k, t) ≡ (operand, s)). inl (ap (λ x. x.1) here))
    (λ (there : Has (operand, s) (enumerate_from (k + 1) sources)). inr (numbered-has (k + 1) operand s sources there))
    h

-- an item that was placed needs nothing
needs-placed : (problem : Problem) (done : List Choice) (q : ℕ) → is_placed done q ≡ true → needs problem done q ≡ 0
needs-placed problem done q placed = cond-true (is_placed done q) 0 (earliest problem done q + height problem q) placed

-- one that wasn't needs its earliest cycle and its height
needs-unplaced : (problem : Problem) (done : List Choice) (q : ℕ) → is_placed done q ≡ false → needs problem done q ≡ earliest problem done q + height problem q
needs-unplaced problem done q unplaced = cond-false (is_placed done q) 0 (earliest problem done q + height problem q) unplaced

-- the earliest cycle isn't before the operands that are known
earliest-known : (problem : Problem) (done : List Choice) (item : ℕ) → known_from problem done item 0 (sources_in problem item) ≤ earliest problem done item
unfolding earliest
earliest-known problem done item = omega arith

module _ (problem : Problem) (done : List Choice) (c : Choice) (in_order : InOrder problem done) (next : ComesInOrder problem done c) where
  -- the cycles that a reader needs behind the item that comes
  reader-needs : (q operand place : ℕ) → Has q problem.graph.order → Has (operand, Item c.item place) (enumerate_from 0 (sources_in problem q))
      → cycle_next problem done c + ready_after problem.costs c.item place q operand + height problem q ≤ needed problem (c ∷ done)
  unfolding needed
  reader-needs q operand place standing reads =
      let source = numbered-has 0 operand (Item c.item place) (sources_in problem q) reads in
      let before : is_placed done q ≡ false = reader-placed problem done c.item place q in_order next.fresh source in
      let other : c.item ≡ q → ⊥ = λ (e : c.item ≡ q).
      true≢false (sym (own-known (sources_in problem c.item) place (subst (λ p. Has (Item c.item place) (sources_in problem p)) (sym e) source) next.sources) ∙ next.fresh) in
      let unplaced : is_placed (c ∷ done) q ≡ false = is_placed-more c done q ∙ ap (λ b. b || is_placed done q) (ne_eqb c.item q other) ∙ before in
      let after = ready_after problem.costs c.item place q operand in
      let at : known_at problem (c ∷ done) q operand (Item c.item place) ≡ cycle_of c.item (c ∷ done) (issued_for problem (c ∷ done)) + after = cond-true (is_placed (c ∷ done) c.item) _ 0 (placed-here c done) in
      let cycle : cycle_of c.item (c ∷ done) (issued_for problem (c ∷ done)) ≡ cycle_next problem done c = ap (cycle_of c.item (c ∷ done)) (issued_for-more problem done c) ∙ cycle_of-here c done _ (issued_for problem done) in
      let known : known_at problem (c ∷ done) q operand (Item c.item place) ≤ known_from problem (c ∷ done) q 0 (sources_in problem q) = known_from-has problem (c ∷ done) q 0 operand (Item c.item place) (sources_in problem q) reads in
      let early : known_from problem (c ∷ done) q 0 (sources_in problem q) ≤ earliest problem (c ∷ done) q = earliest-known problem (c ∷ done) q in
      let need : needs problem (c ∷ done) q ≡ earliest problem (c ∷ done) q + height problem q = needs-unplaced problem (c ∷ done) q unplaced in
      let most : needs problem (c ∷ done) q ≤ greatest (map (needs problem (c ∷ done)) problem.graph.order) = greatest-has (needs problem (c ∷ done)) q problem.graph.order standing in
      omega arith
    where
      own-known : (sources : List Source) (place : ℕ) → Has (Item c.item place) sources → list_all (is_known_in done) sources ≡ true → is_placed done c.item ≡ true
      own-known [] place h all = absurd h
      own-known (s ∷ sources) place h all =
          let parts = and_parts (is_known_in done s) (list_all (is_known_in done) sources) all in
          ⊎_elim
          (λ (here : s ≡ Item c.item place). subst (λ x. is_known_in done x ≡ true) here parts.0)
          (λ (there : Has (Item c.item place) sources). own-known sources place there parts.1)
          h

  -- the longest path from the item that comes ends no later than what is needed behind it
  path-needs : (most : ℕ) → cycle_next problem done c + 1 ≤ most → needed problem (c ∷ done) ≤ most → height problem c.item + cycle_next problem done c ≤ most
  unfolding height_within way_by
  path-needs most last rest = by (length problem.graph.items) refl
    where
      way-needs : (readers q : ℕ) (x : ℕ × Source) → (height_within readers problem q ≤ height problem q) → Has q problem.graph.order → Has x (enumerate_from 0 (sources_in problem q))
          → way problem (height_within readers problem) c.item q x + cycle_next problem done c ≤ most
      way-needs readers q (operand, Entry r) less standing h = omega arith
      way-needs readers q (operand, Item from place) less standing h = ⊎_elim
          (λ (same : eqb from c.item ≡ true).
          let e : from ≡ c.item = eqb-true from c.item same in
          let is : way problem (height_within readers problem) c.item q (operand, Item from place) ≡ ready_after problem.costs c.item place q operand + height_within readers problem q = cond-true (eqb from c.item) _ 0 same in
          let need : cycle_next problem done c + ready_after problem.costs c.item place q operand + height problem q ≤ needed problem (c ∷ done) =
          reader-needs q operand place standing (subst (λ p. Has (operand, Item p place) (enumerate_from 0 (sources_in problem q))) e h) in
          omega arith)
          (λ (other : eqb from c.item ≡ false).
          let is : way problem (height_within readers problem) c.item q (operand, Item from place) ≡ 0 = cond-false (eqb from c.item) (ready_after problem.costs c.item place q operand + height_within readers problem q) 0 other in
          omega arith)
          (cases_Bool (eqb from c.item))

      by : (readers : ℕ) → length problem.graph.items ≡ readers → height_within readers problem c.item + cycle_next problem done c ≤ most
      by zero is = omega arith
      by (suc readers) is =
          let all : greatest (map (way_by problem (height_within readers problem) c.item) problem.graph.order) + cycle_next problem done c ≤ most =
          greatest-within (way_by problem (height_within readers problem) c.item) problem.graph.order (cycle_next problem done c) most (omega arith)
          (λ q standing. greatest-within (way problem (height_within readers problem) c.item q) (enumerate_from 0 (sources_in problem q)) (cycle_next problem done c) most (omega arith)
          (λ x h. way-needs readers q x (subst (λ n. height_within readers problem q ≤ height_within n problem q) (sym is) (height-more problem readers q)) standing h)) in
          omega arith

  -- What was needed is filled or needed behind the item that comes.
  needed-more : (most : ℕ) → cycle_next problem done c + 1 ≤ most → needed problem (c ∷ done) ≤ most → needed problem done ≤ most
  unfolding needed
  needed-more most last rest =
      let all : greatest (map (needs problem done) problem.graph.order) + 0 ≤ most = greatest-within (needs problem done) problem.graph.order 0 most (omega arith) each in
      omega arith
    where
      each : (q : ℕ) → Has q problem.graph.order → needs problem done q + 0 ≤ most
      each q standing = ⊎_elim
          (λ (placed : is_placed done q ≡ true). let none : needs problem done q ≡ 0 = needs-placed problem done q placed in omega arith)
          (λ (unplaced : is_placed done q ≡ false).
          let need : needs problem done q ≡ earliest problem done q + height problem q = needs-unplaced problem done q unplaced in
          ⊎_elim
          (λ (same : eqb c.item q ≡ true).
          let e : c.item ≡ q = eqb-true c.item q same in
          let path : height problem c.item + cycle_next problem done c ≤ most = path-needs most last rest in
          let early : earliest problem done c.item ≤ cycle_next problem done c = earliest-next problem done c in
          let here : earliest problem done q + height problem q ≤ most = subst (λ p. earliest problem done p + height problem p ≤ most) e (omega arith) in
          omega arith)
          (λ (other : eqb c.item q ≡ false).
          let still : is_placed (c ∷ done) q ≡ false = is_placed-more c done q ∙ ap (λ b. b || is_placed done q) other ∙ unplaced in
          let later : needs problem (c ∷ done) q ≡ earliest problem (c ∷ done) q + height problem q = needs-unplaced problem (c ∷ done) q still in
          let more : earliest problem done q ≤ earliest problem (c ∷ done) q = earliest-more problem done c q next.fresh in
          let has : needs problem (c ∷ done) q ≤ greatest (map (needs problem (c ∷ done)) problem.graph.order) = greatest-has (needs problem (c ∷ done)) q problem.graph.order standing in
          omega arith)
          (cases_Bool (eqb c.item q)))
          (cases_Bool (is_placed done q))

  -- The bound never falls.
  pub bound-more : 1 ≤ problem.costs.width → bound problem done ≤ bound problem (c ∷ done)
  unfolding bound
  bound-more some =
      let width = problem.costs.width in
      let items = length problem.graph.items in
      let slot = (cycle_next-from problem done c).0 in
      let more : filled width items (issued_for problem done) ≤ filled width items (issued_for problem (c ∷ done)) =
      subst (λ xs. filled width items (issued_for problem done) ≤ filled width items xs) (sym (issued_for-more problem done c)) (filled-more width items _ (issued_for problem done) some slot) in
      let last : cycle_next problem done c + 1 ≤ filled width items (issued_for problem (c ∷ done)) =
      subst (λ xs. cycle_next problem done c + 1 ≤ filled width items xs) (sym (issued_for-more problem done c)) (filled-last width items _ (issued_for problem done)) in
      let most = max (filled width items (issued_for problem (c ∷ done))) (needed problem (c ∷ done)) in
      let need : needed problem done ≤ most = needed-more most (omega arith) (omega arith) in
      omega arith
