-- The items of a problem stand in its order, and their sources are known.
use Rattle.std.proofs.Common.{◌≡◌, ℕ, ◌<◌, ◌≤◌, zero, suc, inl, inr, true, List, [], ◌∷◌, length, get_or, ⊎_elim, refl, ap, arith, lt-ltb}
use Rattle.std.specs.List.{list_all}
use Rattle.std.proofs.lemmas.Bool.{cases_lt}
use Rattle.std.proofs.lemmas.List.{get_or_past}
use Rattle.sl_model.specs.declared.schedule.Source.{Source}
use Rattle.sl_model.specs.declared.schedule.Source.TheVariants.{Entry, Item}
use Rattle.sl_model.specs.Body.{above, stands_in}
use Rattle.sl_model.specs.Graph.{Graph, sources_at, comes_from, AreSources}
use Rattle.legal_space.specs.Timed.{is_known_source}
use Rattle.sl_laws.proofs.Members.{Has, passes, has-all}
use Rattle.sl_laws.proofs.Orders.{above-stands, has-standing}

-- a source above an item is known
known-source : (count item : ℕ) (order : List ℕ) (value : Source) → ((p : ℕ) → stands_in p order ≡ true → p < count)
    → comes_from (above item order) value ≡ true → is_known_source count value ≡ true
known-source count item order (Entry r) known comes = refl
known-source count item order (Item from place) known comes = lt-ltb from count (known from (above-stands item from order comes))

-- the sources of each item are known
pub sources-known : (graph : Graph) (item : ℕ) → AreSources graph.items graph.order graph.sources → list_all (is_known_source (length graph.items)) (sources_at graph item) ≡ true
sources-known graph item are = ⊎_elim
    (λ (within : item < length graph.items).
    has-all (is_known_source (length graph.items)) (sources_at graph item) (λ value h.
    known-source (length graph.items) item graph.order value are.known (passes (comes_from (above item graph.order)) value (sources_at graph item) h (are.sources_above item within))))
    (λ (past : length graph.items ≤ item).
    let count : length graph.sources ≡ length graph.items = are.count in
    ap (list_all (is_known_source (length graph.items))) (get_or_past graph.sources item [] (omega arith)))
    (cases_lt item (length graph.items))

-- each number of the order is an item
pub order-known : (graph : Graph) → AreSources graph.items graph.order graph.sources → (k : ℕ) → k < length graph.order → get_or graph.order k 0 < length graph.items
order-known graph are k within = are.known (get_or graph.order k 0) (has-standing (get_or graph.order k 0) graph.order (has-at graph.order k within))
  where
    has-at : (order : List ℕ) (k : ℕ) → k < length order → Has (get_or order k 0) order
    has-at [] k within = absurd (omega arith)
    has-at (p ∷ order) zero within = inl refl
    has-at (p ∷ order) (suc k) within = inr (has-at order k (omega arith))
