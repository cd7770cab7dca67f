-- What items read of one another, and which of them have to stay in their order. Source: the
-- data-flow graph of SLOTHY (TCHES 2024), with an edge for two accesses that conflict.
use Rattle.std.specs.Prelude.{ℕ, Bool, true, false, ◌≡◌, ◌<◌, ◌==◌, ◌&&◌, map, filter, List, [], ◌∷◌, length, reverse, slice_index_or, None}
use Rattle.std.specs.List.{list_all, list_any}
use Rattle.sl_model.specs.declared.register.Reg.{Reg}
use Rattle.sl_model.specs.declared.instruction.Instr.{Instr}
use Rattle.sl_model.specs.declared.instruction.FormInfo.{FormInfo}
use Rattle.sl_model.specs.declared.schedule.Source.{Source}
use Rattle.sl_model.specs.declared.schedule.Source.TheVariants.{Entry, Item}
use Rattle.sl_model.specs.Source.{operands, outputs, place_from, output_or, item_at, numbers_below, list_sources}
use Rattle.sl_model.specs.Isa.{Isa}
use Rattle.sl_model.specs.Body.{Body, conflict, above, stands_in}

-- Items by number, what the table says of the form of each, the order in which they stand, the
-- sources of each item's operands, and the items that have to come before each.
pub record Graph : Type 0 where
  pub items : List Instr
  pub infos : List FormInfo
  pub order : List ℕ
  pub sources : List (List Source)
  pub precedes : List (List ℕ)

-- what the table says of no form
abbrev pub no_info : FormInfo
no_info = record {
  class = 0;
  in_sets = [];
  out_sets = [];
  tied = [];
  back = None;
  base = None;
  store = false;
  size = 0;
}

-- what the table says of the form of an item
abbrev pub info_at : Graph → ℕ → FormInfo
info_at graph p = slice_index_or graph.infos p no_info

-- the sources of the operands of an item
abbrev pub sources_at : Graph → ℕ → List Source
sources_at graph p = slice_index_or graph.sources p []

-- the items that have to come before an item
abbrev pub precedes_at : Graph → ℕ → List ℕ
precedes_at graph p = slice_index_or graph.precedes p []

-- what stands in a register below items, which are listed from the last to the first
unfoldable pub last_of : List Instr → List ℕ → Reg → Source
last_of items [] r = Entry r
last_of items (p ∷ before) r =
    output_or p (place_from 0 r (outputs (item_at items p))) (last_of items before r)

-- what stands in a register at the end of a graph's items
abbrev pub last_at : Graph → Reg → Source
last_at graph r = last_of graph.items (reverse graph.order) r

-- Is a source an output of an item?
abbrev pub is_output_of : ℕ → Source → Bool
is_output_of item (Entry r) = false
is_output_of item (Item from place) = from == item

-- the items that read an output of an item, ascending
abbrev pub readers_of : Graph → ℕ → List ℕ
readers_of graph item =
    filter (λ reader. list_any (is_output_of item) (sources_at graph reader))
    (numbers_below (length graph.items))

-- ---- the graph of items

-- items, the order in which they stand and the sources of each item's operands, as a body
abbrev pub body_from : List Instr → List ℕ → List (List Source) → Body
body_from items order sources = record {
  instr = item_at items;
  sources = λ p. slice_index_or sources p [];
  order = order;
}

-- the items of a graph as a body
abbrev pub body_of : Graph → Body
body_of graph = body_from graph.items graph.order graph.sources

-- Does an item have to come before another: does it stand above it, and conflict with it?
abbrev pub must_precede : Isa → Body → ℕ → ℕ → Bool
must_precede isa body item other =
    stands_in other (above item body.order) && conflict isa body other item

-- those of so many items that have to come before one, ascending
abbrev pub preceding : Isa → Body → ℕ → ℕ → List ℕ
preceding isa body count item = filter (must_precede isa body item) (numbers_below count)

-- the graph of items in an order, whose operands have these sources
abbrev pub graph_of : Isa → List Instr → List ℕ → List (List Source) → Graph
graph_of isa items order sources = record {
  items = items;
  infos = map (λ i. isa.info i.form) items;
  order = order;
  sources = sources;
  precedes = map (preceding isa (body_from items order sources) (length items))
      (numbers_below (length items));
}

-- the graph of a straight list, in its own order with its own sources
abbrev pub list_graph : Isa → List Instr → Graph
list_graph isa items = graph_of isa items (numbers_below (length items))
    (map (list_sources items) (numbers_below (length items)))

-- ---- what is asked of an order and of sources

-- Is a source what a register held before the first item, or an output of one of these items?
abbrev pub comes_from : List ℕ → Source → Bool
comes_from order (Entry r) = true
comes_from order (Item item place) = stands_in item order

-- No number stands twice.
abbrev pub IsOnce : List ℕ → Type 0
IsOnce [] = Unit {0}
IsOnce (p ∷ order) = (stands_in p order ≡ false) × IsOnce order

-- Each item stands once in an order; and there is a source for each operand of each item, which is
-- an entry or an output of an item above it.
pub record AreSources (items : List Instr) (order : List ℕ)
    (sources : List (List Source)) : Type 0 where
  pub known : (p : ℕ) → stands_in p order ≡ true → p < length items
  pub each : (p : ℕ) → p < length items → stands_in p order ≡ true
  pub once : IsOnce order
  pub count : length sources ≡ length items
  pub operands_have : (p : ℕ) → p < length items
      → length (slice_index_or sources p []) ≡ length (operands (item_at items p))
  pub sources_above : (p : ℕ) → p < length items
      → list_all (comes_from (above p order)) (slice_index_or sources p []) ≡ true
