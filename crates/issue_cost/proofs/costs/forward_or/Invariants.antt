use Rattle.std.proofs.Common.{◌≡◌, drop}
use Rattle.sl_model.specs.Cycles.{forward_or}
use Rattle.issue_cost.proofs.costs.forward_or.Given as goal

-- what is left of the forwards gives the latency of all of them
abbrev pub invariant-loop-forward : goal.invariant-loop-forward
invariant-loop-forward l =
    forward_or (drop l.forward-index l.forwards) l.from l.to l.operand l.latency ≡ forward_or l.forwards l.from l.to l.operand l.latency
