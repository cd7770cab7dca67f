-- Heights, raised by way of one reader after the other, from the last reader on.
use Rattle.std.proofs.Common.{◌≡◌, ◌≢◌, ℕ, ◌+◌, ◌*◌, ◌<◌, ◌≤◌, true, false, eqb, max, List, [], ◌∷◌, ◌++◌, map, length, take, drop, reverse, set, get_or, replicate, EachIndex, nat_lt, IsTrue, refl, sym, ap, ap₂, ◌∙◌, subst, ⊎_elim, inl, append_assoc, arith}
use Rattle.std.specs.List.{enumerate_from, list_all}
use Rattle.std.proofs.lemmas.List.Folds.{list_all_at}
use Rattle.std.proofs.lemmas.Bool.{cases_Bool, eqb-true, eqb-false, ltb-true, both_ways, cond-true, cond-false}
use Rattle.std.proofs.lemmas.List.{ext_get_or, length-map, length-set, length-replicate, get_or-replicate, get_or-set_same, get_or-set_other, get_or-map, drop_more, take-append-drop, reverse-append, reverse-reverse}
use Rattle.std.proofs.lemmas.Option.{get_or_from_slice_get}
use Rattle.sl_model.specs.declared.schedule.Source.{Source}
use Rattle.sl_model.specs.declared.schedule.Source.TheVariants.{Item}
use Rattle.sl_model.specs.declared.limits.TheConstants.{ITEMS}
use Rattle.sl_model.specs.Source.{numbers_below}
use Rattle.sl_model.specs.Cycles.{ready_after}
use Rattle.sl_model.specs.Graph.{AreSources}
use Rattle.sl_model.specs.Legal.{Problem, sources_in}
use Rattle.legal_space.specs.Timed.{is_known_source}
use Rattle.search_space.specs.Bound.{greatest, way, way_by, height}
use Rattle.search_space.proofs.ForCallers.{length-standing, height-is, height-below}
use Rattle.sl_laws.proofs.Members.{Has, has-right}
use Rattle.sl_laws.proofs.Orders.{has-standing}
use Rattle.sl_laws.proofs.Numbers.{length-numbers, at-below}
use Rattle.stall_bound.specs.Prepared.{heights_of}

-- ---- the height of each item

-- a function of each number below a number
get_or-numbers : (f : ℕ → ℕ) (n k : ℕ) → k < n → get_or (map f (numbers_below n)) k 0 ≡ f k
get_or-numbers f n k below = get_or-map f (numbers_below n) k 0 0 (omega (arith, length-numbers n)) ∙ ap f (get_or_from_slice_get (numbers_below n) k k 0 (at-below n k below))

pub length-heights : (problem : Problem) → length (heights_of problem) ≡ length problem.graph.items
length-heights problem =
    length-map (numbers_below (length problem.graph.items)) (height problem) ∙ length-numbers (length problem.graph.items)

pub height_at : (problem : Problem) (p : ℕ) → p < length problem.graph.items → get_or (heights_of problem) p 0 ≡ height problem p
height_at problem p known = get_or-numbers (height problem) (length problem.graph.items) p known

-- numbers that are the heights of all items
pub heights-are : (problem : Problem) (heights : List ℕ) → length heights ≡ length problem.graph.items
    → ((p : ℕ) → p < length problem.graph.items → get_or heights p 0 ≡ height problem p) → heights ≡ heights_of problem
heights-are problem heights count each =
    ext_get_or 0 heights (heights_of problem) (count ∙ sym (length-heights problem))
    (λ p within.
    let known : p < length problem.graph.items = omega arith in
    each p known ∙ sym (height_at problem p known))

-- ---- one reader

-- the ways by the operands of a reader from a number on
abbrev pub ways_from : Problem → (ℕ → ℕ) → ℕ → ℕ → ℕ → List Source → ℕ
ways_from problem height item reader operand sources = greatest (map (way problem height item reader) (enumerate_from operand sources))

pub ways-step : (problem : Problem) (height : ℕ → ℕ) (item reader : ℕ) (k : ℕ) (s : Source) (sources : List Source)
    → ways_from problem height item reader k (s ∷ sources) ≡ max (way problem height item reader (k, s)) (ways_from problem height item reader (k + 1) sources)
unfolding greatest
ways-step problem height item reader k s sources = refl

pub ways-none : (problem : Problem) (height : ℕ → ℕ) (item reader : ℕ) (k : ℕ) → ways_from problem height item reader k [] ≡ 0
unfolding greatest
ways-none problem height item reader k = refl

pub ways-all : (problem : Problem) (height : ℕ → ℕ) (item reader : ℕ) → ways_from problem height item reader 0 (sources_in problem reader) ≡ way_by problem height item reader
unfolding way_by
ways-all problem height item reader = refl

-- the height of an item, where that of a source of a reader was raised
pub raised-one : (problem : Problem) (height : ℕ → ℕ) (item reader operand index place least : ℕ) (heights next : List ℕ) → index < length heights
    → least ≡ ready_after problem.costs index place reader operand + height reader → next ≡ set heights index (max least (get_or heights index 0))
    → get_or next item 0 ≡ max (way problem height item reader (operand, Item index place)) (get_or heights item 0)
raised-one problem height item reader operand index place least heights next within is raised = ⊎_elim
    (λ (here : eqb index item ≡ true).
    let same : index ≡ item = eqb-true index item here in
    let there : get_or next item 0 ≡ max least (get_or heights item 0) =
    ap (λ xs. get_or xs item 0) raised
    ∙ subst (λ p. get_or (set heights index (max least (get_or heights index 0))) p 0 ≡ max least (get_or heights p 0)) same
    (get_or-set_same heights index (max least (get_or heights index 0)) 0 within) in
    let its : way problem height item reader (operand, Item index place) ≡ ready_after problem.costs item place reader operand + height reader =
    cond-true (eqb index item) (ready_after problem.costs item place reader operand + height reader) 0 here in
    let from : ready_after problem.costs index place reader operand ≡ ready_after problem.costs item place reader operand =
    ap (λ p. ready_after problem.costs p place reader operand) same in
    omega arith)
    (λ (other : eqb index item ≡ false).
    let apart : item ≢ index = λ (same : item ≡ index). eqb-false index item other (sym same) in
    let there : get_or next item 0 ≡ get_or heights item 0 =
    ap (λ xs. get_or xs item 0) raised ∙ get_or-set_other heights index item (max least (get_or heights index 0)) 0 apart in
    let its : way problem height item reader (operand, Item index place) ≡ 0 =
    cond-false (eqb index item) (ready_after problem.costs item place reader operand + height reader) 0 other in
    omega arith)
    (cases_Bool (eqb index item))

-- the way by an operand, by what its source is
pub way-by : (problem : Problem) (height : ℕ → ℕ) (item reader operand next now : ℕ) (source other : Source) → source ≡ other
    → next ≡ max (way problem height item reader (operand, other)) now → next ≡ max (way problem height item reader (operand, source)) now
way-by problem height item reader operand next now source other same greatest =
    greatest ∙ ap (λ s. max (way problem height item reader (operand, s)) now) (sym same)

-- an item that is a source is one of the items
pub source-known : (count k index place : ℕ) (sources : List Source) (d : Source) → IsTrue (list_all (is_known_source count) sources) → k < length sources
    → get_or sources k d ≡ Item index place → index < count
source-known count k index place sources d known within is = ⊎_elim
    (λ (test : nat_lt index count ≡ true). ltb-true index count test)
    (λ (test : nat_lt index count ≡ false).
    let unknown : list_all (is_known_source count) sources ≡ false = list_all_at (is_known_source count) sources k d within (ap (is_known_source count) is ∙ test) in
    absurd (both_ways (list_all (is_known_source count) sources) unknown known))
    (cases_Bool (nat_lt index count))

-- heights stay low where one is raised to a low number
pub low-raised : (limit index least : ℕ) (heights next : List ℕ) → index < length heights → EachIndex heights (λ p. get_or heights p 0 ≤ limit) → least ≤ limit
    → next ≡ set heights index (max least (get_or heights index 0)) → EachIndex next (λ p. get_or next p 0 ≤ limit)
low-raised limit index least heights next within low few raised = λ p inside.
    let before : p < length heights = omega (arith, ap length raised, length-set heights index (max least (get_or heights index 0))) in
    let old : get_or heights p 0 ≤ limit = low p before in
    ⊎_elim
    (λ (here : eqb index p ≡ true).
    let same : index ≡ p = eqb-true index p here in
    let there : get_or next p 0 ≡ max least (get_or heights p 0) =
    ap (λ xs. get_or xs p 0) raised
    ∙ subst (λ q. get_or (set heights index (max least (get_or heights index 0))) q 0 ≡ max least (get_or heights q 0)) same
    (get_or-set_same heights index (max least (get_or heights index 0)) 0 within) in
    omega arith)
    (λ (other : eqb index p ≡ false).
    let apart : p ≢ index = λ (same : p ≡ index). eqb-false index p other (sym same) in
    let there : get_or next p 0 ≡ get_or heights p 0 =
    ap (λ xs. get_or xs p 0) raised ∙ get_or-set_other heights index p (max least (get_or heights index 0)) 0 apart in
    omega arith)
    (cases_Bool (eqb index p))

-- ---- all readers

-- The heights of items by the readers that stand behind a front of the order.
pub record AreRaised (problem : Problem) (below heights : List ℕ) : Type 0 where
  pub count : length heights ≡ length problem.graph.items
  pub each : (p : ℕ) → p < length problem.graph.items → get_or heights p 0 ≡ max 1 (greatest (map (way_by problem (height problem) p) below))
  pub low : EachIndex heights (λ p. get_or heights p 0 ≤ 1 + 255 * length below)

-- at first each is 1
pub raised-none : (problem : Problem) (heights : List ℕ) → heights ≡ replicate (length problem.graph.items) 1 → AreRaised problem [] heights
unfolding greatest
raised-none problem heights are = record {
  count = ap length are ∙ length-replicate {A = ℕ} (length problem.graph.items) 1;
  each = λ p known. ap (λ xs. get_or xs p 0) are ∙ get_or-replicate (length problem.graph.items) p 1 0 known;
  low = λ p within.
      let known : p < length problem.graph.items = omega (arith, ap length are, length-replicate {A = ℕ} (length problem.graph.items) 1) in
      let one : get_or heights p 0 ≡ 1 = ap (λ xs. get_or xs p 0) are ∙ get_or-replicate (length problem.graph.items) p 1 0 known in
      omega arith;
}

-- The elements of an order that were seen from its end on, and the next one, stand behind a front.
pub front-of : (order seen : List ℕ) (x n : ℕ) → n < length (reverse order) → seen ≡ take n (reverse order) → x ≡ get_or (reverse order) n x
    → (front : List ℕ) × (order ≡ front ++ x ∷ reverse seen)
front-of order seen x n within are is =
    let rest : List ℕ = drop (n + 1) (reverse order) in
    let behind : drop n (reverse order) ≡ x ∷ rest = drop_more (reverse order) n x within ∙ ap (λ y. y ∷ rest) (sym is) in
    let whole : reverse order ≡ seen ++ x ∷ rest = sym (take-append-drop n (reverse order)) ∙ ap₂ (λ xs ys. xs ++ ys) (sym are) behind in (
      reverse rest,
      sym (reverse-reverse order) ∙ ap reverse whole ∙ reverse-append seen (x ∷ rest)
          ∙ ap (λ xs. xs ++ reverse seen) (reverse-append (x ∷ []) rest) ∙ append_assoc (reverse rest) (x ∷ []) (reverse seen),
    )

module _ (problem : Problem) (are : AreSources problem.graph.items problem.graph.order problem.graph.sources) where
  -- the next reader has its own height
  pub reader-raised : (front below heights : List ℕ) (reader : ℕ) → problem.graph.order ≡ front ++ reader ∷ below → AreRaised problem below heights
      → height problem reader ≡ get_or heights reader 0
  reader-raised front below heights reader order raised =
      let has : Has reader problem.graph.order = subst (Has reader) (sym order) (has-right reader front (reader ∷ below) (inl refl)) in
      let known : reader < length problem.graph.items = are.known reader (has-standing reader problem.graph.order has) in
      height-below problem are reader front below order ∙ sym (raised.each reader known)

  -- with it, the heights are those by one reader more
  pub raised-more : (below heights next : List ℕ) (reader : ℕ) → AreRaised problem below heights → length next ≡ length heights
      → EachIndex next (λ p. get_or next p 0 ≡ max (get_or heights p 0) (way_by problem (height problem) p reader))
      → EachIndex next (λ p. get_or next p 0 ≤ 1 + 255 * length below + 255) → AreRaised problem (reader ∷ below) next
  unfolding greatest
  raised-more below heights next reader raised count each low = record {
    count = count ∙ raised.count;
    each = λ p known.
        let within : p < length next = omega (arith, count, raised.count) in
        let before : get_or heights p 0 ≡ max 1 (greatest (map (way_by problem (height problem) p) below)) = raised.each p known in
        let now : get_or next p 0 ≡ max (get_or heights p 0) (way_by problem (height problem) p reader) = each p within in
        omega arith;
    low = λ p within.
        let few : get_or next p 0 ≤ 1 + 255 * length below + 255 = low p within in
        omega arith;
  }

  -- at the end they are the heights
  pub raised-all : (heights : List ℕ) → AreRaised problem problem.graph.order heights → heights ≡ heights_of problem
  raised-all heights raised = heights-are problem heights raised.count (λ p known. raised.each p known ∙ sym (height-is problem are p))

  -- they are low, at the end and before
  pub low-before : (below heights : List ℕ) → length problem.graph.items ≤ ITEMS → length below ≤ length problem.graph.order → AreRaised problem below heights
      → EachIndex heights (λ p. get_or heights p 0 ≤ 1 + 255 * ITEMS)
  low-before below heights few fewer raised = λ p within.
      let low : get_or heights p 0 ≤ 1 + 255 * length below = raised.low p within in
      let count : length problem.graph.order ≡ length problem.graph.items = length-standing problem.graph.items problem.graph.order problem.graph.sources are in
      omega arith
