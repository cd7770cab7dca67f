use Rattle.std.proofs.Common.{◌≡◌, drop}
use Rattle.std.specs.List.{fold}
use Rattle.core_models.specs.Costs.{with_unit, unit_set}
use Rattle.core_models.proofs.units.unit_set.Given as goal

-- the units that are left, beside the set so far, are the set of all
abbrev pub invariant-loop-unit : goal.invariant-loop-unit
invariant-loop-unit l = fold with_unit l.set (drop l.unit-index l.units) ≡ unit_set l.units
