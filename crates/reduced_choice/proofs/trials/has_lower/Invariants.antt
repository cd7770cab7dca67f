use Rattle.std.proofs.Common.{◌≡◌, false, reverse}
use Rattle.sl_model.specs.Body.{chosen}
use Rattle.reduced_choice.proofs.AnyRegs.{any_below}
use Rattle.reduced_choice.proofs.Kin.{is_better}
use Rattle.reduced_choice.proofs.trials.has_lower.Given as goal

abbrev pub invariant-loop-bit : goal.invariant-loop-bit
invariant-loop-bit l = any_below (is_better l.problem (reverse l.done) l.front.item (chosen l.front) l.reg) l.bit ≡ false
