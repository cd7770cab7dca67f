use Rattle.std.proofs.Common.{◌≡◌, ◌+◌, ◌*◌, ◌≤◌, List, drop, max}
use Rattle.sl_model.specs.declared.schedule.Choice.{Choice}
use Rattle.sl_model.specs.Cycles.{ready_from}
use Rattle.sl_model.specs.Legal.{sources_in}
use Rattle.search_space.specs.Bound.{issued_for}
use Rattle.stall_bound.specs.Recounts.{Recounts}
use Rattle.stall_bound.proofs.recount.Recount.ready.Given as goal

-- all is ready by the latest of what was seen and of what is left
abbrev pub invariant-loop-operand : goal.invariant-loop-operand
invariant-loop-operand l = record {
  ready : (done : List Choice) → Recounts l.problem done l.self →
      max l.ready (ready_from l.problem.costs done (issued_for l.problem done) l.item l.operand (drop l.operand (sources_in l.problem l.item)))
      ≡ ready_from l.problem.costs done (issued_for l.problem done) l.item 0 (sources_in l.problem l.item);
  soon : l.ready ≤ 512 * l.self.placed + 255;
}
