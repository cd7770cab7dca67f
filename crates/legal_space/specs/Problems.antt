-- What each problem has. Source: the graph of its items, the places of an instruction and of its
-- form for registers, and the units of a core.
use Rattle.std.specs.Prelude.{ℕ, ◌≡◌, ◌≤◌, ◌<◌, ◌^◌, length}
use Rattle.sl_model.specs.Source.{operands, outputs, item_at}
use Rattle.sl_model.specs.Cycles.{CostTable, row_of}
use Rattle.sl_model.specs.Graph.{Graph, info_at}
use Rattle.sl_model.specs.Legal.{Problem}
use Rattle.search_space.specs.Searchable.{output_room, unit_room, IsSearchable}

-- An item of a graph has few outputs, and its form a class for each of its operands and outputs;
-- and the units that take it are few.
pub record HasRoom (graph : Graph) (costs : CostTable) (p : ℕ) : Type 0 where
  pub operand_classes : length (operands (item_at graph.items p)) ≤ length (info_at graph p).in_sets
  pub output_classes : length (outputs (item_at graph.items p)) ≤ length (info_at graph p).out_sets
  pub few_outputs : length (outputs (item_at graph.items p)) ≤ output_room
  pub few_units : (row_of costs p).units < 2 ^ unit_room

-- The schedules of a problem can be listed; and there is for each item a row of what it costs, and
-- a set of the registers that it may write.
pub record IsProblem (problem : Problem) : Type 0 where
  pub searchable : IsSearchable problem
  pub rows : length problem.costs.rows ≡ length problem.graph.items
  pub allowed : length problem.allowed ≡ length problem.graph.items
