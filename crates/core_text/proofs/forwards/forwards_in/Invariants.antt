use Rattle.std.proofs.Common.{map, drop}
use Rattle.toml.specs.View.{view}
use Rattle.core_text.specs.Reading.{forward_entry}
use Rattle.core_text.proofs.InTurn.{IsSoFar}
use Rattle.core_text.proofs.forwards.forwards_in.Given as goal

-- what was read, and what the values that are left are read as, is what all are read as
abbrev pub invariant-loop-value : goal.invariant-loop-value
invariant-loop-value l = IsSoFar (forward_entry l.arch) l.forwards.items (map view (drop l.value-index l.list)) (map view l.list)
