use Rattle.std.proofs.Common.{map, drop}
use Rattle.toml.specs.View.{view}
use Rattle.core_text.specs.KeyViews.{spelled}
use Rattle.core_text.specs.Reading.{unit_read}
use Rattle.core_text.proofs.InTurn.{IsSoFar}
use Rattle.core_text.proofs.units.units_in.Given as goal

-- what was read, and what the values that are left are read as, is what all are read as
abbrev pub invariant-loop-value : goal.invariant-loop-value
invariant-loop-value l = IsSoFar (unit_read (spelled l.key)) (map (λ name. name.now) l.names.items) (map view (drop l.value-index l.list)) (map view l.list)
