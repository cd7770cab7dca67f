-- The height of an item is told by those of its readers, for they all stand below it.
use Rattle.std.proofs.Common.{◌≡◌, ℕ, zero, suc, ◌+◌, ◌<◌, ◌≤◌, Bool, true, false, ◌||◌, eqb, max, if◌then◌else◌, List, [], ◌∷◌, ◌++◌, map, length, inl, inr, ⊎_elim, refl, sym, ap, ◌∙◌, subst, append_assoc, true≢false, arith}
use Rattle.std.specs.List.{enumerate_from}
use Rattle.std.proofs.lemmas.Bool.{cases_Bool, eqb-true, eq-eqb, both_ways, cond-false}
use Rattle.sl_model.specs.declared.schedule.Source.{Source}
use Rattle.sl_model.specs.declared.schedule.Source.TheVariants.{Entry, Item}
use Rattle.sl_model.specs.Cycles.{ready_after}
use Rattle.sl_model.specs.Body.{above, stands_in}
use Rattle.sl_model.specs.Graph.{comes_from, IsOnce, AreSources}
use Rattle.sl_model.specs.Legal.{Problem, sources_in}
use Rattle.sl_laws.proofs.Members.{Has, has-left, passes}
use Rattle.sl_laws.proofs.Orders.{has-standing, stands_first, stands_behind, differs}
use Rattle.search_space.specs.Bound.{greatest, way, way_by, height_within, height}
use Rattle.search_space.proofs.Numbers.{greatest-within}
use Rattle.search_space.proofs.BoundLemmas.{numbered-has}
use Rattle.search_space.proofs.Counts.{length-standing}

-- how many items stand below one
rank : ℕ → List ℕ → ℕ
rank item [] = 0
rank item (p ∷ order) = if eqb p item then length order else rank item order

-- no more than there are
rank-most : (q : ℕ) (order : List ℕ) → rank q order ≤ length order
unfolding rank
rank-most q [] = omega arith
rank-most q (p ∷ order) = by (eqb p q) (rank-most q order)
  where
    by : (b : Bool) → rank q order ≤ length order → (if b then length order else rank q order) ≤ suc (length order)
    by true rest = omega arith
    by false rest = omega arith

-- and fewer, below one that stands there
rank-few : (q : ℕ) (order : List ℕ) → stands_in q order ≡ true → rank q order < length order
unfolding rank stands_in
rank-few q [] stands = absurd (true≢false (sym stands))
rank-few q (p ∷ order) stands = by (eqb p q) stands (rank-few q order)
  where
    by : (b : Bool) → (b || stands_in q order) ≡ true → (stands_in q order ≡ true → rank q order < length order) → (if b then length order else rank q order) < suc (length order)
    by true e rest = omega arith
    by false e rest = let less : rank q order < length order = rest e in omega arith

-- Below an item that stands above another there are more.
rank-above : (item q : ℕ) (order : List ℕ) → stands_in q order ≡ true → stands_in item (above q order) ≡ true → rank q order < rank item order
unfolding rank above stands_in
rank-above item q [] stands over = absurd (true≢false (sym stands))
rank-above item q (p ∷ order) stands over =
    by (eqb p q) (eqb p item) stands (sym (pushed (eqb p q) (above q order)) ∙ over) (rank-few q order) (rank-above item q order)
  where
    pushed : (b : Bool) (rest : List ℕ) → stands_in item (if b then [] else p ∷ rest) ≡ (if b then false else (eqb p item || stands_in item rest))
    pushed true rest = refl
    pushed false rest = refl

    by : (here over : Bool) → (here || stands_in q order) ≡ true → (if here then false else (over || stands_in item (above q order))) ≡ true
        → (stands_in q order ≡ true → rank q order < length order)
        → (stands_in q order ≡ true → stands_in item (above q order) ≡ true → rank q order < rank item order)
        → (if here then length order else rank q order) < (if over then length order else rank item order)
    by true over e f few rest = absurd (true≢false (sym f))
    by false true e f few rest = few e
    by false false e f few rest = rest e f

-- Where each of some numbers is as great by two functions, so is the greatest.
greatest-agree : {X : Type 0} (f g : X → ℕ) (xs : List X) → ((x : X) → Has x xs → f x ≡ g x) → greatest (map f xs) ≡ greatest (map g xs)
unfolding greatest
greatest-agree f g [] each = refl
greatest-agree f g (x ∷ xs) each = λ i. max (each x (inl refl) i) (greatest-agree f g xs (λ y h. each y (inr h)) i)

-- Where the first of some numbers are 0, the greatest stands behind them.
greatest-behind : {X : Type 0} (f : X → ℕ) (front rest : List X) → ((x : X) → Has x front → f x ≡ 0) → greatest (map f (front ++ rest)) ≡ greatest (map f rest)
unfolding greatest
greatest-behind f [] rest none = refl
greatest-behind f (x ∷ front) rest none =
    let here : f x ≡ 0 = none x (inl refl) in
    let behind : greatest (map f (front ++ rest)) ≡ greatest (map f rest) = greatest-behind f front rest (λ y h. none y (inr h)) in
    omega arith

-- an item that stands in an order, behind a front
stands-behind : (q : ℕ) (front below : List ℕ) → stands_in q (front ++ q ∷ below) ≡ true
stands-behind q [] below = stands_first q below
stands-behind q (p ∷ front) below = stands_behind p q (front ++ q ∷ below) (stands-behind q front below)

-- An item that stands once stands neither above those before it nor above itself.
above-none : (q x : ℕ) (front below : List ℕ) → IsOnce (front ++ q ∷ below) → Has x (front ++ q ∷ []) → stands_in q (above x (front ++ q ∷ below)) ≡ false
unfolding above stands_in
above-none q x [] below once h = ⊎_elim
    (λ (here : q ≡ x). ap (λ b. stands_in q (if b then [] else q ∷ above x below)) (eq-eqb q x here))
    (λ (none : ⊥). absurd none)
    h
above-none q x (p ∷ front) below once h =
    let other : eqb p q ≡ false = differs p q (front ++ q ∷ below) once.0 (stands-behind q front below) in
    ⊎_elim
    (λ (here : eqb p x ≡ true). ap (λ b. stands_in q (if b then [] else p ∷ above x (front ++ q ∷ below))) here)
    (λ (there : eqb p x ≡ false).
    let behind : Has x (front ++ q ∷ []) = ⊎_elim (λ (e : p ≡ x). absurd (both_ways (eqb p x) there (eq-eqb p x e))) (λ (rest : Has x (front ++ q ∷ [])). rest) h in
    ap (λ b. stands_in q (if b then [] else p ∷ above x (front ++ q ∷ below))) there
    ∙ ap (λ b. b || stands_in q (above x (front ++ q ∷ below))) other
    ∙ above-none q x front below once.1 behind)
    (cases_Bool (eqb p x))

module _ (problem : Problem) (are : AreSources problem.graph.items problem.graph.order problem.graph.sources) where
  -- a reader stands below what it reads
  reader-below : (item place q operand : ℕ) → stands_in q problem.graph.order ≡ true → Has (operand, Item item place) (enumerate_from 0 (sources_in problem q))
      → rank q problem.graph.order < rank item problem.graph.order
  reader-below item place q operand stands reads =
      rank-above item q problem.graph.order stands
      (passes (comes_from (above q problem.graph.order)) (Item item place) (sources_in problem q) (numbered-has 0 operand (Item item place) (sources_in problem q) reads) (are.sources_above q (are.known q stands)))

  -- what comes behind an item by way of a reader is the same by heights that agree on the reader
  way-agree : (g h : ℕ → ℕ) (item q : ℕ) → stands_in q problem.graph.order ≡ true → (rank q problem.graph.order < rank item problem.graph.order → g q ≡ h q)
      → way_by problem g item q ≡ way_by problem h item q
  unfolding way_by
  way-agree g h item q stands same = greatest-agree (way problem g item q) (way problem h item q) (enumerate_from 0 (sources_in problem q)) each
    where
      each : (x : ℕ × Source) → Has x (enumerate_from 0 (sources_in problem q)) → way problem g item q x ≡ way problem h item q x
      each (operand, Entry r) h = refl
      each (operand, Item from place) reads = ⊎_elim
          (λ (here : eqb from item ≡ true).
          let e : from ≡ item = eqb-true from item here in
          let below = reader-below item place q operand stands (subst (λ p. Has (operand, Item p place) (enumerate_from 0 (sources_in problem q))) e reads) in
          ap (λ n. if eqb from item then ready_after problem.costs item place q operand + n else 0) (same below))
          (λ (other : eqb from item ≡ false).
          cond-false (eqb from item) (ready_after problem.costs item place q operand + g q) 0 other
          ∙ sym (cond-false (eqb from item) (ready_after problem.costs item place q operand + h q) 0 other))
          (cases_Bool (eqb from item))

  -- where no item stands below one, no way goes from it
  way-none : (g : ℕ → ℕ) (item q : ℕ) → stands_in q problem.graph.order ≡ true → rank item problem.graph.order ≤ 0 → way_by problem g item q + 0 ≤ 0
  unfolding way_by
  way-none g item q stands last = greatest-within (way problem g item q) (enumerate_from 0 (sources_in problem q)) 0 0 (omega arith) each
    where
      each : (x : ℕ × Source) → Has x (enumerate_from 0 (sources_in problem q)) → way problem g item q x + 0 ≤ 0
      each (operand, Entry r) reads = omega arith
      each (operand, Item from place) reads = ⊎_elim
          (λ (here : eqb from item ≡ true).
          let e : from ≡ item = eqb-true from item here in
          let below : rank q problem.graph.order < rank item problem.graph.order =
          reader-below item place q operand stands (subst (λ p. Has (operand, Item p place) (enumerate_from 0 (sources_in problem q))) e reads) in
          absurd (omega arith))
          (λ (other : eqb from item ≡ false).
          let none : way problem g item q (operand, Item from place) ≡ 0 = cond-false (eqb from item) (ready_after problem.costs item place q operand + g q) 0 other in
          omega arith)
          (cases_Bool (eqb from item))

  -- A round more than there are items below one changes nothing.
  height-steady : (rounds item : ℕ) → rank item problem.graph.order ≤ rounds → height_within rounds problem item ≡ height_within (suc rounds) problem item
  unfolding height_within
  height-steady zero item last =
      let none : greatest (map (way_by problem (height_within 0 problem) item) problem.graph.order) + 0 ≤ 0 =
      greatest-within (way_by problem (height_within 0 problem) item) problem.graph.order 0 0 (omega arith)
      (λ q h. way-none (height_within 0 problem) item q (has-standing q problem.graph.order h) last) in
      omega arith
  height-steady (suc rounds) item few =
      ap (max 1) (greatest-agree (way_by problem (height_within rounds problem) item) (way_by problem (height_within (suc rounds) problem) item) problem.graph.order
      (λ q h. way-agree (height_within rounds problem) (height_within (suc rounds) problem) item q (has-standing q problem.graph.order h)
      (λ less. height-steady rounds q (omega arith))))

  -- The height of an item: 1 where no item reads it, else the greatest sum of a latency to a reader and the reader's height.
  pub height-is : (item : ℕ) → height problem item ≡ max 1 (greatest (map (way_by problem (height problem) item) problem.graph.order))
  unfolding height_within
  height-is item =
      let most : rank item problem.graph.order ≤ length problem.graph.order = rank-most item problem.graph.order in
      let count : length problem.graph.order ≡ length problem.graph.items = length-standing problem.graph.items problem.graph.order problem.graph.sources are in
      height-steady (length problem.graph.items) item (omega arith)

  -- where an item doesn't stand above another, no way goes from it by way of the other
  way-nowhere : (g : ℕ → ℕ) (item q : ℕ) → stands_in q problem.graph.order ≡ true → stands_in item (above q problem.graph.order) ≡ false → way_by problem g item q ≡ 0
  unfolding way_by
  way-nowhere g item q stands lacks =
      let none : greatest (map (way problem g item q) (enumerate_from 0 (sources_in problem q))) + 0 ≤ 0 =
      greatest-within (way problem g item q) (enumerate_from 0 (sources_in problem q)) 0 0 (omega arith) each in
      omega arith
    where
      each : (x : ℕ × Source) → Has x (enumerate_from 0 (sources_in problem q)) → way problem g item q x + 0 ≤ 0
      each (operand, Entry r) reads = omega arith
      each (operand, Item from place) reads = ⊎_elim
          (λ (here : eqb from item ≡ true).
          let source : Has (Item from place) (sources_in problem q) = numbered-has 0 operand (Item from place) (sources_in problem q) reads in
          let over : stands_in from (above q problem.graph.order) ≡ true =
          passes (comes_from (above q problem.graph.order)) (Item from place) (sources_in problem q) source (are.sources_above q (are.known q stands)) in
          absurd (both_ways (stands_in item (above q problem.graph.order)) lacks (subst (λ p. stands_in p (above q problem.graph.order) ≡ true) (eqb-true from item here) over)))
          (λ (other : eqb from item ≡ false).
          let none : way problem g item q (operand, Item from place) ≡ 0 = cond-false (eqb from item) (ready_after problem.costs item place q operand + g q) 0 other in
          omega arith)
          (cases_Bool (eqb from item))

  -- The height of an item is told by those of the items below it in their order.
  pub height-below : (item : ℕ) (front below : List ℕ) → problem.graph.order ≡ front ++ item ∷ below
      → height problem item ≡ max 1 (greatest (map (way_by problem (height problem) item) below))
  height-below item front below order =
      height-is item ∙ ap (max 1)
      (ap (λ ps. greatest (map (way_by problem (height problem) item) ps)) (order ∙ sym (append_assoc front (item ∷ []) below))
      ∙ greatest-behind (way_by problem (height problem) item) (front ++ item ∷ []) below none)
    where
      none : (q : ℕ) → Has q (front ++ item ∷ []) → way_by problem (height problem) item q ≡ 0
      none q h = way-nowhere (height problem) item q
          (subst (λ ps. stands_in q ps ≡ true) (append_assoc front (item ∷ []) below ∙ sym order) (has-standing q ((front ++ item ∷ []) ++ below) (has-left q (front ++ item ∷ []) below h)))
          (subst (λ ps. stands_in item (above q ps) ≡ false) (sym order) (above-none item q front below (subst IsOnce order are.once) h))
