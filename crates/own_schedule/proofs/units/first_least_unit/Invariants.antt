use Rattle.std.proofs.Common.{max, ℕ}
use Rattle.sl_model.specs.Cycles.{issued, next_cycle}
use Rattle.issue_cost.specs.Timeline.{start_of}
use Rattle.own_schedule.proofs.FirstLeast.{IsLeastSoFar}
use Rattle.own_schedule.proofs.units.first_least_unit.Given as goal

-- the best unit so far has the least cycle, and is the best of all where no better one is left
abbrev pub invariant-loop-unit : goal.invariant-loop-unit
invariant-loop-unit l =
    IsLeastSoFar (λ (unit : ℕ). next_cycle l.costs.width unit (max (start_of l.issue) l.ready) (issued l.issue.pushes)) l.initial.best l.rest l.unit-index l.best l.least
