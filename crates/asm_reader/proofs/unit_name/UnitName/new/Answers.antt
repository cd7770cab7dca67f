use Rattle.std.proofs.Common.{◌∙◌}
use Rattle.asm_reader.proofs.Ascii.{copied_text}
use Rattle.asm_reader.proofs.unit_name.UnitName.new.Goals as goal

pub invariant_of-result : goal.invariant_of-result
invariant_of-result c = record {
  few = c.requires;
  spelled = copied_text c.args.text.now _ _ (c.copy_from_slice.ensures.after ∙ c.as_bytes.ensures.value) c.utf8.text;
}
