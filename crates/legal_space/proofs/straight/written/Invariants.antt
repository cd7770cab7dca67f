use Rattle.std.proofs.Common.{◌≡◌, ◌++◌, drop}
use Rattle.sl_model.specs.Legal.{written}
use Rattle.legal_space.proofs.straight.written.Given as goal

-- the registers so far and those that the items left write are all of them
abbrev pub invariant-loop-item : goal.invariant-loop-item
invariant-loop-item l = l.regs.items ++ written (drop l.item-index l.items) ≡ written l.items
