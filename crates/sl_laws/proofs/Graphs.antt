-- The graph of items: where its sources stand, and what has to come before an item.
use Rattle.std.proofs.Common.{◌≡◌, ℕ, ◌<◌, ◌≤◌, Bool, true, false, ◌||◌, not, List, [], map, reverse, length, take, length-take-le, le_of_lt, le_refl, zero, suc, ◌∷◌, take-suc, take_all, ⊎_elim, sym, refl, ap, ap₂, subst, ◌∙◌, option_map, arith}
use Rattle.std.specs.List.{list_all}
use Rattle.std.proofs.Math.ListN.{length-reverse}
use Rattle.std.proofs.lemmas.Bool.{and_from, or_right, cases_Bool, cases_lt}
use Rattle.std.proofs.lemmas.List.{length-map, get_or_past, reverse-append}
use Rattle.std.proofs.lemmas.List.Folds.{list_all-map}
use Rattle.std.proofs.lemmas.Option.{slice_get-map, get_or_from_slice_get}
use Rattle.sl_model.specs.declared.register.Reg.{Reg}
use Rattle.sl_model.specs.declared.instruction.Instr.{Instr}
use Rattle.sl_model.specs.declared.schedule.Source.{Source}
use Rattle.sl_model.specs.declared.schedule.Source.TheVariants.{Entry, Item}
use Rattle.sl_model.specs.Source.{operands, outputs, place_from, output_or, last_source, item_at, no_instr, source_of, list_sources, numbers_below}
use Rattle.sl_model.specs.Isa.{Isa}
use Rattle.sl_model.specs.Body.{Body, conflict, above, stands_in}
use Rattle.sl_model.specs.Graph.{sources_at, last_of, last_at, list_graph, must_precede, preceding, comes_from, AreSources}
use Rattle.sl_laws.proofs.Elements.{list_all-from_each}
use Rattle.sl_laws.proofs.Members.{Has, passes, has-all, has-filter, has-numbers}
use Rattle.sl_laws.proofs.Numbers.{length-numbers, above-below, at-below, below-lt, lt-below, once-below}
use Rattle.sl_laws.proofs.Orders.{above-stands, has-standing}
use Rattle.sl_laws.proofs.Sources.{length-list_sources, IsBefore, IsBefore-source_of}

-- the sources of an item in a straight list's graph are those in the list
pub list_graph-sources : (isa : Isa) (items : List Instr) (p : ℕ) → sources_at (list_graph isa items) p ≡ list_sources items p
unfolding list_sources
list_graph-sources isa items p = ⊎_elim
    (λ (within : p < length items).
    get_or_from_slice_get (map (list_sources items) (numbers_below (length items))) p (list_sources items p) []
    (slice_get-map (list_sources items) (numbers_below (length items)) p ∙ ap (option_map (list_sources items)) (at-below (length items) p within)))
    (λ (past : length items ≤ p).
    let count : length (map (list_sources items) (numbers_below (length items))) ≡ length items = length-map (numbers_below (length items)) (list_sources items) ∙ length-numbers (length items) in
    get_or_past (map (list_sources items) (numbers_below (length items))) p [] (omega arith)
    ∙ ap (λ i. map (λ r. source_of r (reverse (take p items))) (operands i)) (sym (get_or_past items p no_instr past)))
    (cases_lt p (length items))

-- a source before a number comes from the numbers below it
comes_from_before : (p : ℕ) (value : Source) → IsBefore p value → comes_from (numbers_below p) value ≡ true
comes_from_before p (Entry r) before = refl
comes_from_before p (Item item place) before = lt-below p item before

-- so many items, turned round
pub length-above : (items : List Instr) (n : ℕ) → n ≤ length items → length (reverse (take n items)) ≡ n
length-above items n le = length-reverse (take n items) ∙ length-take-le n items le

-- What stands in a register at the end of a straight list's graph is what does at the end of the list.
last-front : (items : List Instr) (r : Reg) (n : ℕ) → n ≤ length items → last_of items (reverse (numbers_below n)) r ≡ source_of r (reverse (take n items))
unfolding last_of source_of numbers_below
last-front items r zero le = refl
last-front items r (suc n) le =
    let within : n < length items = omega arith in
    let i : Instr = item_at items n in
    let turned : reverse (take (suc n) items) ≡ i ∷ reverse (take n items) = ap reverse (take-suc items n no_instr within) ∙ reverse-append (take n items) (i ∷ []) in
    ap (λ order. last_of items order r) (reverse-append (numbers_below n) (n ∷ []))
    ∙ ap₂ (λ m earlier. output_or m (place_from 0 r (outputs i)) earlier) (sym (length-above items n (le_of_lt within))) (last-front items r n (le_of_lt within))
    ∙ sym (ap (source_of r) turned)

pub list_graph-last : (isa : Isa) (items : List Instr) (r : Reg) → last_at (list_graph isa items) r ≡ last_source items r
list_graph-last isa items r =
    last-front items r (length items) (le_refl (length items)) ∙ ap (λ l. source_of r (reverse l)) (take_all (length items) items (le_refl (length items)))

-- the sources of an item of a list stand above it
list_sources-before : (items : List Instr) (p : ℕ) → p < length items → list_all (comes_from (numbers_below p)) (list_sources items p) ≡ true
unfolding list_sources
list_sources-before items p within =
    list_all-map (comes_from (numbers_below p)) (λ r. source_of r (reverse (take p items))) (operands (item_at items p))
    ∙ list_all-from_each (λ r. comes_from (numbers_below p) (source_of r (reverse (take p items)))) (operands (item_at items p)) (λ k r at.
    comes_from_before p (source_of r (reverse (take p items))) (subst (λ n. IsBefore n (source_of r (reverse (take p items)))) (length-above items p (le_of_lt within)) (IsBefore-source_of r (reverse (take p items)))))

-- A list's own order and sources are an order and sources of it.
pub list-are_sources : (isa : Isa) (items : List Instr) → AreSources items (list_graph isa items).order (list_graph isa items).sources
list-are_sources isa items = record {
  known = below-lt (length items);
  each = lt-below (length items);
  once = once-below (length items);
  count = length-map (numbers_below (length items)) (list_sources items) ∙ length-numbers (length items);
  operands_have = λ p within. ap length (list_graph-sources isa items p) ∙ length-list_sources items p;
  sources_above = λ p within.
      ap (λ l. list_all (comes_from (above p (numbers_below (length items)))) l) (list_graph-sources isa items p)
      ∙ ap (λ o. list_all (comes_from o) (list_sources items p)) (above-below (length items) p within)
      ∙ list_sources-before items p within;
}

-- Where all that have to come before an item pass a test, each that stands above it and conflicts with it does.
pub preceding-conflicts : (isa : Isa) (body : Body) (count item : ℕ) (test : ℕ → Bool) → ((p : ℕ) → stands_in p body.order ≡ true → p < count)
    → list_all test (preceding isa body count item) ≡ true → list_all (λ p. not (conflict isa body p item) || test p) (above item body.order) ≡ true
preceding-conflicts isa body count item test known all = has-all (λ p. not (conflict isa body p item) || test p) (above item body.order) each
  where
    each : (p : ℕ) → Has p (above item body.order) → (not (conflict isa body p item) || test p) ≡ true
    each p h = ⊎_elim
        (λ (is : conflict isa body p item ≡ true).
        let stands : stands_in p (above item body.order) ≡ true = has-standing p (above item body.order) h in
        let must : must_precede isa body item p ≡ true = and_from (stands_in p (above item body.order)) (conflict isa body p item) stands is in
        or_right (not (conflict isa body p item)) (test p)
        (passes test p (preceding isa body count item)
        (has-filter (must_precede isa body item) p (numbers_below count) (has-numbers count p (known p (above-stands item p body.order stands))) must) all))
        (λ (no : conflict isa body p item ≡ false). ap (λ b. not b || test p) no)
        (cases_Bool (conflict isa body p item))
