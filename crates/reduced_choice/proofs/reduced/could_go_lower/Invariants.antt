use Rattle.std.proofs.Common.{◌≡◌, false, reverse}
use Rattle.reduced_choice.proofs.AnyRegs.{any_below}
use Rattle.reduced_choice.proofs.Kin.{could_go}
use Rattle.reduced_choice.proofs.reduced.could_go_lower.Given as goal

abbrev pub invariant-loop-bit : goal.invariant-loop-bit
invariant-loop-bit l = any_below (could_go l.problem (reverse l.done) l.choice l.place l.reg) l.bit ≡ false
