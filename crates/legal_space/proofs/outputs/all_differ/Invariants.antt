use Rattle.std.proofs.Common.{◌≡◌, drop}
use Rattle.sl_model.specs.Body.{all_differ}
use Rattle.legal_space.proofs.LoopSteps.{regs_of}
use Rattle.legal_space.proofs.outputs.all_differ.Given as goal

abbrev pub invariant-loop-place : goal.invariant-loop-place
invariant-loop-place l = all_differ (regs_of (drop l.place l.outs)) ≡ all_differ (regs_of l.outs)
