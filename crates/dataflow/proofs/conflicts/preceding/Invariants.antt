use Rattle.std.proofs.Common.{◌≡◌, filter}
use Rattle.sl_model.specs.Source.{numbers_below}
use Rattle.sl_model.specs.Graph.{must_precede}
use Rattle.dataflow.specs.Flows.{flow_body}
use Rattle.dataflow.proofs.conflicts.preceding.Given as goal

-- those among the items so far
abbrev pub invariant-loop-other : goal.invariant-loop-other
invariant-loop-other g l = l.set ≡ filter (must_precede g.A.Arch.language.isa (flow_body l.flow) l.item) (numbers_below l.other)
