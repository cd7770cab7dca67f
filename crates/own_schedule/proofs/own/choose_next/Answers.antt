use Rattle.std.proofs.Common.{◌≡◌, ◌∙◌, ℕ, max, ◌+◌, ◌*◌, ◌<◌, ◌≤◌, List, [], ◌∷◌, ◌++◌, Option, length, reverse, set, sym, ap, ap₂, arith}
use Rattle.sl_model.specs.declared.instruction.Instr.{Instr}
use Rattle.sl_model.specs.declared.register.Reg.{Reg}
use Rattle.sl_model.specs.declared.schedule.Choice.{Choice}
use Rattle.sl_model.specs.Cycles.{CostTable, Issued, issued, next_cycle, row_of}
use Rattle.sl_model.specs.Legal.{Problem}
use Rattle.issue_cost.specs.Timeline.{start_of, IsFreeBy}
use Rattle.issue_cost.proofs.ForCallers.{IsFreeBy-weaken}
use Rattle.own_schedule.specs.OwnSchedule.{cycle_on, first_least, units_for, with_item}
use Rattle.own_schedule.proofs.FirstLeast.{first_least-same}
use Rattle.own_schedule.proofs.OneMore.{first-ready, ready_behind, ready-is, cycle_on-is, issued_at_cycle, issued-more}
use Rattle.own_schedule.proofs.own.choose_next.Goals as goal

pub unit_for-unit-requires-clause-ready : goal.unit_for-unit-requires-clause-ready
unit_for-unit-requires-clause-ready c =
    let soon : c.ready_among-ready.result ≤ 512 * length c.args.schedule.now + 255 = c.ready_among-ready.ensures.early (512 * length c.args.schedule.now) c.requires.issued.early in
    let place : length c.args.schedule.now ≡ c.args.item = c.requires.place in
    let small : c.args.item < 65536 = c.ranges.item.fits in
    omega arith

pub push-cycle-requires-clause-ready : goal.push-cycle-requires-clause-ready
push-cycle-requires-clause-ready c =
    let soon : c.ready_among-ready.result ≤ 512 * length c.args.schedule.now + 255 = c.ready_among-ready.ensures.early (512 * length c.args.schedule.now) c.requires.issued.early in
    let place : length c.args.schedule.now ≡ c.args.item = c.requires.place in
    let small : c.args.item < 65536 = c.ranges.item.fits in
    omega arith

pub returns-clause-next : goal.returns-clause-next
unfolding with_item
returns-clause-next c =
    let problem : Problem = c.args.problem.now in
    let schedule : List Choice = c.args.schedule.now in
    let done : List Issued = issued c.args.issue.now.pushes in
    let ready : ℕ = c.ready_among-ready.result in
    let at : ready ≡ ready_behind problem schedule c.args.item =
    ready-is problem schedule c.args.item ready done c.costs-costs.result.now c.sources_of.result.now c.costs-costs.ensures.costs c.sources_of.ensures.sources c.requires.issued.cycles
    (c.ready_among-ready.ensures.ready (reverse schedule) done c.requires.issued.each) in
    let unit : c.unit_for-unit.result ≡ first_least (cycle_on problem schedule c.args.item) (units_for c.args.core.now problem c.args.item) =
    c.unit_for-unit.ensures.unit
    ∙ first_least-same (λ (u : ℕ). next_cycle problem.costs.width u (max (start_of c.args.issue.now) ready) done) (cycle_on problem schedule c.args.item)
    (λ (u : ℕ). ap₂ (λ (r : ℕ) (d : List Issued). next_cycle problem.costs.width u r d) (first-ready c.args.issue.now ready c.requires.issued.first ∙ at) c.requires.issued.cycles ∙ sym (cycle_on-is problem schedule c.args.item u))
    (units_for c.args.core.now problem c.args.item) in
    ap₂ (λ (u : ℕ) (outs : List (Option Reg)). schedule ++ record { item = c.args.item; unit = u; outs = outs } ∷ []) unit (ap (λ (i : Instr). i.outs) c.item.ensures)

pub returns-clause-issued : goal.returns-clause-issued
returns-clause-issued c =
    let problem : Problem = c.args.problem.now in
    let schedule : List Choice = c.args.schedule.now in
    let done : List Issued = issued c.args.issue.now.pushes in
    let ready : ℕ = c.ready_among-ready.result in
    let cycle : ℕ = c.push-cycle.result in
    let unit : ℕ = c.unit_for-unit.result in
    let choice : Choice = record { item = c.args.item; unit = unit; outs = c.item.result.now.outs } in
    let given : c.costs-costs.result.now ≡ problem.costs = c.costs-costs.ensures.costs in
    let soon_ready : ready ≤ 512 * length schedule + 255 = c.ready_among-ready.ensures.early (512 * length schedule) c.requires.issued.early in
    let waited : IsFreeBy (512 * length schedule + 255) done = IsFreeBy-weaken (512 * length schedule) (512 * length schedule + 255) done (omega arith) c.requires.issued.free in
    issued-more problem schedule choice c.args.issue.now c.push-cycle.new.self c.args.latest.now (set c.args.latest.now c.from.result cycle)
    (record { width = c.costs-costs.result.now.width; unit = unit; busy = (row_of c.costs-costs.result.now c.args.item).busy; ready = max (start_of c.args.issue.now) ready }) ready cycle
    c.requires.issued c.requires.item
    (ready-is problem schedule c.args.item ready done c.costs-costs.result.now c.sources_of.result.now given c.sources_of.ensures.sources c.requires.issued.cycles
    (c.ready_among-ready.ensures.ready (reverse schedule) done c.requires.issued.each))
    (c.push-cycle.ensures.cycle ∙ ap₂ (λ (v : CostTable) (r : ℕ). next_cycle v.width unit r done) given (first-ready c.args.issue.now ready c.requires.issued.first))
    c.push-cycle.ensures.pushed
    (c.push-cycle.ensures.counted ∙ ap (λ (v : CostTable). issued_at_cycle v choice cycle ∷ done) given)
    (c.push-cycle.ensures.within (512 * length schedule + 255) waited soon_ready)
    (c.push-cycle.ensures.free (512 * length schedule + 255) waited soon_ready)
    (ap (λ (n : ℕ). set c.args.latest.now n cycle) c.from.ensures)
