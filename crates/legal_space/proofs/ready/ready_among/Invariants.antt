use Rattle.std.proofs.Common.{◌≡◌, ℕ, ◌+◌, ◌≤◌, List, drop, max, EachIndex, get_or}
use Rattle.sl_model.specs.declared.schedule.Choice.{Choice}
use Rattle.sl_model.specs.Cycles.{Issued, ready_from}
use Rattle.legal_space.specs.Timed.{HasCycles}
use Rattle.legal_space.proofs.ready.ready_among.Given as goal

-- all is ready by the latest of what was seen and of what is left
abbrev pub invariant-loop-operand : goal.invariant-loop-operand
invariant-loop-operand l = record {
  ready : (choices : List Choice) (done : List Issued) → HasCycles l.cycles choices done →
      max l.ready (ready_from l.costs choices done l.item l.operand (drop l.operand l.sources)) ≡ ready_from l.costs choices done l.item 0 l.sources;
  early : (limit : ℕ) → EachIndex l.cycles (λ q. get_or l.cycles q 0 ≤ limit) → l.ready ≤ limit + 255;
}
