use Rattle.std.proofs.Common.{◌≡◌, ◌++◌}
use Rattle.sl_isa.proofs.BankRegs.{regs_below}
use Rattle.sl_isa.proofs.sets.push_bank.Given as goal

-- the registers at first and those of the set with a lower number
abbrev pub invariant-loop-number : goal.invariant-loop-number
invariant-loop-number l = l.regs.items ≡ l.initial.regs.items ++ regs_below l.set l.bank l.number
