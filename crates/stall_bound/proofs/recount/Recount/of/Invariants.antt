use Rattle.std.proofs.Common.{take, reverse}
use Rattle.stall_bound.specs.Recounts.{Recounts}
use Rattle.stall_bound.proofs.recount.Recount.of.Given as goal

-- the choices so far are recounted
abbrev pub invariant-loop-choice : goal.invariant-loop-choice
invariant-loop-choice l = Recounts l.problem (reverse (take l.choice-index l.done)) l.recount
