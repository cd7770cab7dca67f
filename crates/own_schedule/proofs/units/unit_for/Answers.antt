use Rattle.std.proofs.Common.{max, ℕ, length, ap, subst, ◌≤◌, None}
use Rattle.sl_model.specs.Cycles.{issued, next_cycle}
use Rattle.issue_cost.specs.Timeline.{start_of}
use Rattle.own_schedule.specs.OwnSchedule.{units_for}
use Rattle.own_schedule.proofs.FirstLeast.{first_least-none}
use Rattle.own_schedule.proofs.EntryUnits.{units-are, units-below, first_least-below}
use Rattle.own_schedule.proofs.units.unit_for.Goals as goal

pub returns-in_default-clause-unit : goal.returns-in_default-clause-unit
returns-in_default-clause-unit c =
    first_least-none (λ (unit : ℕ). next_cycle c.args.problem.now.costs.width unit (max (start_of c.args.issue.now) c.args.ready) (issued c.args.issue.now.pushes)) (units_for c.args.core.now c.args.problem.now c.args.item)
    (ap length (units-are c.args.core.now c.args.problem.now c.args.item c.info.result None c.info.ensures c.in_default.ensures.entry))

pub first_least_unit-requires-clause-units : goal.first_least_unit-requires-clause-units
first_least_unit-requires-clause-units c =
    units-below (length c.args.core.now.units) c.in-Some.entry.now c.units.result.now c.units.ensures c.in-Some.ensures.few c.in-Some.ensures.sound

pub returns-clause-known : goal.returns-clause-known
returns-clause-known c =
    let least : 1 ≤ length c.args.core.now.units = subst (λ n. 1 ≤ n) c.unit_count.ensures.count c.unit_count.ensures.least in
    let below = first_least-below (length c.args.core.now.units) c.in-Some.entry.now (λ (unit : ℕ). next_cycle c.costs.result.now.width unit (max (start_of c.args.issue.now) c.args.ready) (issued c.args.issue.now.pushes)) least c.in-Some.ensures.sound in
    rw (c.first_least_unit.ensures, c.units.ensures) below
