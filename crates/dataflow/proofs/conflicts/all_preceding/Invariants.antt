use Rattle.std.proofs.Common.{◌≡◌, length, map}
use Rattle.sl_model.specs.Source.{numbers_below}
use Rattle.sl_model.specs.Graph.{preceding}
use Rattle.dataflow.specs.Flows.{flow_body}
use Rattle.dataflow.proofs.conflicts.all_preceding.Given as goal

-- those of the items so far
abbrev pub invariant-loop-item : goal.invariant-loop-item
invariant-loop-item g l = l.all.items ≡ map (preceding g.A.Arch.language.isa (flow_body l.flow) (length l.flow.items)) (numbers_below l.item)
