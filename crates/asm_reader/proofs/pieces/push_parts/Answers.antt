use Rattle.std.proofs.Common.{◌≡◌, List, ap, ◌∙◌, subst}
use Rattle.sl_model.specs.Token.{Lexeme}
use Rattle.macro_expand.specs.Words.{words}
use Rattle.macro_expand.specs.Spelled.{lexemes, spelled}
use Rattle.asm_reader.specs.DraftViews.{Leaves, progress_value}
use Rattle.asm_reader.specs.Reading as spec
use Rattle.asm_reader.specs.Reading.{with_entry}
use Rattle.asm_reader.specs.WordViews.{bytes_value}
use Rattle.asm_reader.proofs.pieces.push_parts.Goals as goal

pub returns-clause-answer : goal.returns-clause-answer
unfolding with_entry
returns-clause-answer g c =
    let are : lexemes c.deref-2.result.now ≡ words (spelled c.args.parts.now) =
    ap lexemes c.deref-2.ensures.value ∙ c.in_ok-words.ensures ∙ ap words (c.deref.ensures ∙ c.in_ok-text.ensures) in
    subst (λ (ws : List Lexeme). Leaves c.push_statement.result (progress_value c.push_statement.new.read)
    (spec.with_statement g.A.Arch.language c.args.manner.wants (progress_value c.args.read.now) (record { line = c.args.line; words = ws; note = bytes_value c.args.note })))
    are c.push_statement.ensures.answer
