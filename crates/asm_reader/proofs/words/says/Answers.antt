use Rattle.std.proofs.Common.{sym, ◌∙◌}
use Rattle.asm_reader.specs.WordViews.{word_value}
use Rattle.asm_reader.specs.Notes as spec
use Rattle.asm_reader.proofs.Mapped.{any_map}
use Rattle.asm_reader.proofs.words.says.Goals as goal

pub returns : goal.returns
returns c = c.is_any_named.ensures ∙ sym (any_map (spec.is_named c.args.name.now) word_value c.args.words.now)
