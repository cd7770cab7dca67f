use Rattle.std.proofs.Common.{max, ◌≡◌, ◌<◌, ℕ, suc, ◌+◌, List, length, refl, sym, ap, subst, get_or, arith}
use Rattle.sl_model.specs.Cycles.{issued, next_cycle}
use Rattle.issue_cost.specs.Timeline.{start_of}
use Rattle.own_schedule.proofs.FirstLeast.{IsLeastSoFar, least-taken, least-kept, first_least-none, first_least-done}
use Rattle.own_schedule.proofs.units.first_least_unit.Goals as goal
use Rattle.own_schedule.proofs.units.first_least_unit.Goals.{then-cycle-least, else-cycle-least}

pub returns-in_default : goal.returns-in_default
returns-in_default c = first_least-none (λ (unit : ℕ). next_cycle c.args.costs.now.width unit (max (start_of c.args.issue.now) c.args.ready) (issued c.args.issue.now.pushes)) c.args.units.now c.in_default.ensures.cases

pub cycle_for-cycle-requires-clause-unit : goal.cycle_for-cycle-requires-clause-unit
cycle_for-cycle-requires-clause-unit c =
    let at : get_or c.args.units.now (suc c.loop-unit.unit-index) 0 ≡ get_or c.in-Some.rest.now c.loop-unit.unit-index 0 = ap (λ (units : List ℕ). get_or units (suc c.loop-unit.unit-index) 0) c.in-Some.ensures.cases.0 in
    let longer : length c.args.units.now ≡ suc (length c.in-Some.rest.now) = ap length c.in-Some.ensures.cases.0 in
    let within : suc c.loop-unit.unit-index < length c.args.units.now = omega (arith, c.loop-unit-test.true) in
    subst (λ n. n < 16) at (c.requires.units (suc c.loop-unit.unit-index) within)

pub loop-unit-init : goal.loop-unit-init
loop-unit-init c = record { least_is = c.cycle_for-least.ensures.cycle; whole = refl }

pub loop-unit-preserved : goal.loop-unit-preserved
loop-unit-preserved c =
    elim c.if-cycle-least.branch [
      | then-cycle-least w ↦
          subst (λ best. IsLeastSoFar (λ (unit : ℕ). next_cycle c.args.costs.now.width unit (max (start_of c.args.issue.now) c.args.ready) (issued c.args.issue.now.pushes)) c.in-Some.first.now c.in-Some.rest.now (c.loop-unit.unit-index + 1) best c.if-cycle-least.least) (sym w.best-is)
          (subst (λ least. IsLeastSoFar (λ (unit : ℕ). next_cycle c.args.costs.now.width unit (max (start_of c.args.issue.now) c.args.ready) (issued c.args.issue.now.pushes)) c.in-Some.first.now c.in-Some.rest.now (c.loop-unit.unit-index + 1) (get_or c.in-Some.rest.now c.loop-unit.unit-index 0) least) (sym w.least-is)
          (least-taken (λ (unit : ℕ). next_cycle c.args.costs.now.width unit (max (start_of c.args.issue.now) c.args.ready) (issued c.args.issue.now.pushes)) c.in-Some.first.now c.in-Some.rest.now c.loop-unit.unit-index c.loop-unit.best c.loop-unit.least c.cycle_for-cycle.result 0 c.loop-unit-test.true c.cycle_for-cycle.ensures.cycle w.if-cycle-least.true c.loop-unit.invariant))
      | else-cycle-least w ↦
          subst (λ best. IsLeastSoFar (λ (unit : ℕ). next_cycle c.args.costs.now.width unit (max (start_of c.args.issue.now) c.args.ready) (issued c.args.issue.now.pushes)) c.in-Some.first.now c.in-Some.rest.now (c.loop-unit.unit-index + 1) best c.if-cycle-least.least) (sym w.best-is)
          (subst (λ least. IsLeastSoFar (λ (unit : ℕ). next_cycle c.args.costs.now.width unit (max (start_of c.args.issue.now) c.args.ready) (issued c.args.issue.now.pushes)) c.in-Some.first.now c.in-Some.rest.now (c.loop-unit.unit-index + 1) c.loop-unit.best least) (sym w.least-is)
          (least-kept (λ (unit : ℕ). next_cycle c.args.costs.now.width unit (max (start_of c.args.issue.now) c.args.ready) (issued c.args.issue.now.pushes)) c.in-Some.first.now c.in-Some.rest.now c.loop-unit.unit-index c.loop-unit.best c.loop-unit.least c.cycle_for-cycle.result 0 c.loop-unit-test.true c.cycle_for-cycle.ensures.cycle w.if-cycle-least.false c.loop-unit.invariant))
    ]

pub returns : goal.returns
returns c =
    first_least-done (λ (unit : ℕ). next_cycle c.args.costs.now.width unit (max (start_of c.args.issue.now) c.args.ready) (issued c.args.issue.now.pushes)) c.loop-unit.best c.in-Some.first.now c.in-Some.rest.now c.args.units.now
    c.loop-unit.unit-index c.loop-unit-test.false c.in-Some.ensures.cases.0 c.loop-unit.invariant.whole
