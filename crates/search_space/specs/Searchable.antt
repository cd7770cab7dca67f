-- What a problem has to be for its schedules to be listed. Source: the graph of its items, the
-- places of an instruction for outputs, and the units of a core.
use Rattle.std.specs.Prelude.{ℕ, ◌≤◌, ◌<◌, ◌^◌, List, [], ◌∷◌, length}
use Rattle.sl_model.specs.declared.schedule.Choice.{Choice}
use Rattle.sl_model.specs.Source.{operands, outputs, item_at}
use Rattle.sl_model.specs.Cycles.{row_of}
use Rattle.sl_model.specs.Graph.{AreSources}
use Rattle.sl_model.specs.Legal.{Problem, IsLegalNext, info_in}

-- how many outputs an instruction has at most
abbrev pub output_room : ℕ
output_room = 3

-- how many units a core has at most
abbrev pub unit_room : ℕ
unit_room = 16

-- how many outputs an item of a problem has
abbrev pub output_count : Problem → ℕ → ℕ
output_count problem p = length (outputs (item_at problem.graph.items p))

-- A problem whose schedules can be listed: each item stands once in its order, and its sources are
-- entries or outputs above it; the form of an item has a class for each of its operands and outputs;
-- an item has few outputs; and the core has few units, and issues at least one item in a cycle.
pub record IsSearchable (problem : Problem) : Type 0 where
  pub sources : AreSources problem.graph.items problem.graph.order problem.graph.sources
  pub operand_classes : (p : ℕ) → p < length problem.graph.items
      → length (operands (item_at problem.graph.items p)) ≤ length (info_in problem p).in_sets
  pub output_classes : (p : ℕ) → p < length problem.graph.items
      → output_count problem p ≤ length (info_in problem p).out_sets
  pub few_outputs : (p : ℕ) → p < length problem.graph.items → output_count problem p ≤ output_room
  pub few_units : (p : ℕ) → p < length problem.graph.items
      → (row_of problem.costs p).units < 2 ^ unit_room
  pub width : 1 ≤ problem.costs.width

-- Choices made so far, the last first: each was legal after those before it.
abbrev pub AreMade : Problem → List Choice → Type 0
AreMade problem [] = Unit {0}
AreMade problem (c ∷ done) = IsLegalNext problem done c × AreMade problem done
