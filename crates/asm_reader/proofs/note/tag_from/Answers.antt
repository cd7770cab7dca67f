use Rattle.std.proofs.Common.{sym, ◌∙◌}
use Rattle.asm_reader.proofs.Ascii.{tag_text}
use Rattle.asm_reader.proofs.note.tag_from.Goals as goal

pub returns-in-Err : goal.returns-in-Err
returns-in-Err c = absurd (c.in-Err.ensures.cases.0 (tag_text c.args.text.now (sym c.is_tag.ensures ∙ c.if-not-is_tag.false)))
