use Rattle.std.proofs.Common.{◌≡◌, true, false, ◌++◌, ◌∷◌, [], List, sym, ap, ◌∙◌, append_assoc, arith}
use Rattle.std.proofs.lemmas.Grind.{common_steps}
use Rattle.std.proofs.lemmas.List.{append-nil}
use Rattle.sl_model.specs.declared.register.Reg.{Reg}
use Rattle.sl_model.specs.RegSets.{machine_reg, set_has}
use Rattle.sl_isa.proofs.BankRegs.{regs_below, regs-none, regs-more, regs-same}
use Rattle.sl_isa.proofs.sets.push_bank.Goals as goal

pub loop-number-init : goal.loop-number-init
loop-number-init c = sym (ap (λ xs. c.args.regs.now.items ++ xs) (regs-none c.args.set c.args.bank) ∙ append-nil c.args.regs.now.items)

pub loop-number-preserved-then-not-set_has : goal.loop-number-preserved-then-not-set_has
loop-number-preserved-then-not-set_has c =
    let foreign : set_has c.args.set (machine_reg c.args.bank c.loop-number.number) ≡ false =
    sym (c.set_has.ensures ∙ ap (set_has c.args.set) c.register_in-reg.ensures) ∙ c.if-not-set_has.true in
    c.loop-number.invariant ∙ ap (λ xs. c.args.regs.now.items ++ xs) (sym (regs-same c.args.set c.args.bank c.loop-number.number foreign))

pub loop-number-preserved : goal.loop-number-preserved
loop-number-preserved c =
    let reg : Reg = machine_reg c.args.bank c.loop-number.number in
    let own : set_has c.args.set reg ≡ true = sym (c.set_has.ensures ∙ ap (set_has c.args.set) c.register_in-reg.ensures) ∙ c.if-not-set_has.false in
    let pushed : c.push.new.self.items ≡ c.loop-number.regs.items ++ reg ∷ [] = grind (arith, common_steps) in
    pushed
    ∙ ap (λ xs. xs ++ reg ∷ []) c.loop-number.invariant
    ∙ append_assoc c.args.regs.now.items (regs_below c.args.set c.args.bank c.loop-number.number) (reg ∷ [])
    ∙ ap (λ xs. c.args.regs.now.items ++ xs) (sym (regs-more c.args.set c.args.bank c.loop-number.number own))
