-- Items in an order with the sources of their operands, before it is known which of them conflict;
-- and what is asked of a graph.
use Rattle.std.specs.Prelude.{ℕ, ◌≡◌, ◌≤◌, List, [], length, slice_index_or}
use Rattle.sl_model.specs.declared.instruction.Instr.{Instr}
use Rattle.sl_model.specs.declared.schedule.Source.{Source}
use Rattle.sl_model.specs.declared.limits.TheConstants.{ITEMS}
use Rattle.sl_model.specs.Body.{Body}
use Rattle.sl_model.specs.Graph.{Graph, body_from, AreSources}

-- items, the order in which they stand, and the sources of each item's operands
pub record Flow : Type 0 where
  pub items : List Instr
  pub order : List ℕ
  pub sources : List (List Source)

-- these as a body
abbrev pub flow_body : Flow → Body
flow_body flow = body_from flow.items flow.order flow.sources

-- There are few items, each stands once in the order, and each has few operands, for each of which
-- there is a source above it.
pub record IsFlow (flow : Flow) : Type 0 where
  pub few : length flow.items ≤ ITEMS
  pub sources : AreSources flow.items flow.order flow.sources
  pub operands : (p : ℕ) → length (slice_index_or flow.sources p []) ≤ 4

-- The same of a graph, which has for each item what its form is and what has to come before it.
pub record IsGraph (graph : Graph) : Type 0 where
  pub flow : IsFlow
      (record { items = graph.items; order = graph.order; sources = graph.sources })
  pub infos : length graph.infos ≡ length graph.items
  pub precedes : length graph.precedes ≡ length graph.items
