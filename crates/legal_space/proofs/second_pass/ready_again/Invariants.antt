use Rattle.std.proofs.Common.{◌≡◌, ℕ, ◌+◌, ◌≤◌, List, drop, reverse, max, EachIndex, get_or}
use Rattle.sl_model.specs.declared.schedule.Choice.{Choice}
use Rattle.sl_model.specs.Cycles.{Issued}
use Rattle.sl_model.specs.SecondPass.{ready_again}
use Rattle.legal_space.specs.Timed.{HasCycles}
use Rattle.legal_space.proofs.second_pass.ready_again.Given as goal

-- all is ready by the latest of what was seen and of what is left
abbrev pub invariant-loop-operand : goal.invariant-loop-operand
invariant-loop-operand l = record {
  ready : (before since : List Issued) (choices : List Choice) → HasCycles l.first (reverse l.schedule) before → HasCycles l.cycles choices since →
      max l.ready (ready_again l.costs (reverse l.schedule) before choices since l.item l.operand (drop l.operand l.sources)) ≡ ready_again l.costs (reverse l.schedule) before choices since l.item 0 l.sources;
  early : (limit : ℕ) → EachIndex l.first (λ q. get_or l.first q 0 ≤ limit) → EachIndex l.cycles (λ q. get_or l.cycles q 0 ≤ limit) → l.ready ≤ limit + 255;
}
