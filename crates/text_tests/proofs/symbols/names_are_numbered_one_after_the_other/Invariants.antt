use Rattle.std.proofs.Common.{◌≤◌, length}
use Rattle.sl_isa.specs.SymbolViews.{pairs}
use Rattle.text_tests.proofs.symbols.names_are_numbered_one_after_the_other.Given as goal

abbrev pub invariant-loop-number : goal.invariant-loop-number
invariant-loop-number l = length (pairs l.symbols) ≤ l.number
