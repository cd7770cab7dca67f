use Rattle.std.proofs.Common.{◌≤◌, length, ap, arith}
use Rattle.sl_model.specs.declared.instruction.Instr.{Instr}
use Rattle.sl_model.specs.Source.{no_instr}
use Rattle.asm_reader.proofs.LastOnes.{set_last, none_last}
use Rattle.asm_reader.proofs.last.mark_last.Goals as goal

pub returns-in-Some : goal.returns-in-Some
returns-in-Some c =
    let marked : Instr → Instr = λ i. record i { tag = c.args.tag; early = c.args.early; late = c.args.late } in
    set_last marked c.args.items.now no_instr _ c.in-Some.ensures.item.3.0 (ap marked (c.in-Some.ensures.item.3.1 no_instr))

pub returns-in_default : goal.returns-in_default
returns-in_default c =
    let none : length c.args.items.now ≤ 0 = c.in_default.ensures.item.3 in
    none_last _ c.args.items.now (omega arith)
