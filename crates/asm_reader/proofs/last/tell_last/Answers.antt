use Rattle.std.proofs.Common.{◌≤◌, length, refl, arith}
use Rattle.asm_reader.proofs.LastOnes.{set_last, none_last}
use Rattle.asm_reader.proofs.last.tell_last.Goals as goal

pub returns-in-Some : goal.returns-in-Some
returns-in-Some c = set_last (λ note. c.args.told) c.args.notes.now c.args.told c.args.told c.in-Some.ensures.item.3.0 refl

pub returns-in_default : goal.returns-in_default
returns-in_default c =
    let none : length c.args.notes.now ≤ 0 = c.in_default.ensures.item.3 in
    none_last _ c.args.notes.now (omega arith)
