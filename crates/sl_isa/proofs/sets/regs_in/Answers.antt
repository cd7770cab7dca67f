use Rattle.sl_isa.proofs.BankRegs.{regs-all}
use Rattle.sl_isa.proofs.sets.regs_in.Goals as goal

pub returns : goal.returns
returns c =
    regs-all c.args.set c.new-regs.result.items c.push_bank.new.regs.items c.push_bank-2.new.regs.items c.push_bank-3.new.regs.items c.push_bank-4.new.regs.items
    c.new-regs.ensures.items c.in_ok-push_bank.ensures c.in_ok-push_bank-2.ensures c.in_ok-push_bank-3.ensures c.in_ok-push_bank-4.ensures
