use Rattle.std.proofs.Common.{ℕ, ◌<◌}
use Rattle.legal_space.specs.Problems.{HasRoom}
use Rattle.legal_space.proofs.problem.look_at_all.Given as goal

abbrev pub invariant-loop-item : goal.invariant-loop-item
invariant-loop-item l = (p : ℕ) → p < l.item → HasRoom l.graph l.costs p
