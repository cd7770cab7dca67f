use Rattle.std.proofs.Common.{sym, ◌∙◌}
use Rattle.asm_reader.proofs.Ascii.{unit_name_text}
use Rattle.asm_reader.proofs.note.unit_from.Goals as goal

pub returns-in-Err : goal.returns-in-Err
returns-in-Err c = absurd (c.in-Err.ensures.cases.0 (unit_name_text c.args.text.now (sym c.is_unit_name.ensures ∙ c.if-not-is_unit_name.false)))
