use Rattle.std.proofs.Common.{◌≡◌}
use Rattle.sl_model.specs.Source.{numbers_below}
use Rattle.dataflow.proofs.lists.numbers_below.Given as goal

abbrev pub invariant-loop-number : goal.invariant-loop-number
invariant-loop-number l = l.numbers.items ≡ numbers_below l.number
