use Rattle.sl_text.proofs.NumeralLemmas.{IsSoFar}
use Rattle.sl_text.proofs.digits.digits_value.Given as goal

abbrev pub invariant-loop-c : goal.invariant-loop-c
invariant-loop-c l = IsSoFar l.radix l.most l.text l.c-index l.number
