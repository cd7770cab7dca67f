use Rattle.std.proofs.Common.{take, sym, subst, IsUtf8}
use Rattle.std.proofs.lemmas.Str.{IsUtf8-from_is_utf8}
use Rattle.asm_reader.proofs.unit_name.UnitName.text.Goals as goal

pub returns-in-Err : goal.returns-in-Err
returns-in-Err c =
    absurd (c.in-Err.ensures.cases.0 (subst (λ n. IsUtf8 (take n c.args.self.now.bytes)) (sym c.from.ensures) (IsUtf8-from_is_utf8 _ c.args.self.now.spelled)))
