use Rattle.std.proofs.Common.{List, length, sym, subst}
use Rattle.std.proofs.lemmas.Result.{err_from_is_err_and}
use Rattle.sl_isa.specs.Symbols.{Pair}
use Rattle.sl_isa.specs.SymbolViews.{pairs}
use Rattle.asm_reader.specs.DraftViews.{draft_value, progress_value, Leaves}
use Rattle.asm_reader.specs.NoteViews.{said_value}
use Rattle.asm_reader.specs.Statements.{Statement}
use Rattle.asm_reader.specs.Views.{statement_value}
use Rattle.asm_reader.specs.Reading as spec
use Rattle.asm_reader.proofs.Answered.{few_names}
use Rattle.asm_reader.proofs.Steps.{words_fail, note_fails, parts_left}
use Rattle.asm_reader.proofs.reading.push_statement.Goals as goal

pub returns-in_err-instr-clause-answer : goal.returns-in_err-instr-clause-answer
returns-in_err-instr-clause-answer g c =
    let p = err_from_is_err_and c.from_residual.result c.from_residual.ensures.1 in
    let statement : Statement = statement_value c.args.statement in
    rw (p.1, p.2)
    (words_fail g.A.Arch.language c.args.manner.wants (progress_value c.args.read.now) statement c.in_err-instr.field-0.0 c.in_err-instr.ensures.answer)

pub returns-in_err-said-clause-answer : goal.returns-in_err-said-clause-answer
returns-in_err-said-clause-answer g c =
    let p = err_from_is_err_and c.from_residual-in_err-said.result c.from_residual-in_err-said.ensures.1 in
    let statement : Statement = statement_value c.args.statement in
    rw (p.1, p.2)
    (note_fails g.A.Arch.language c.args.manner.wants (progress_value c.args.read.now) statement c.in_ok-instr.instr c.in_err-said.field-0.0
    c.in_ok-instr.ensures.answer c.in_err-said.ensures)

pub returns-clause-answer : goal.returns-clause-answer
returns-clause-answer g c =
    let language = g.A.Arch.language in
    let statement : Statement = statement_value c.args.statement in
    let read = progress_value c.args.read.now in
    let new = draft_value c.push_parts.new.draft in
    subst (λ (ps : List Pair). Leaves c.push_parts.result (record { draft = new; pairs = ps }) (spec.with_statement language c.args.manner.wants read statement))
    (sym c.in_ok-instr.ensures.names)
    (parts_left language c.args.manner.wants read statement c.in_ok-instr.instr (said_value c.in_ok-said.said) new
    c.in_ok-instr.ensures.answer c.in_ok-said.ensures c.push_parts.result c.push_parts.ensures)

pub returns-clause-few : goal.returns-clause-few
returns-clause-few g c =
    few_names c.push_parts.result g.A.Arch.language.isa c.args.manner.wants c.args.statement.line (draft_value c.args.read.now.draft) (draft_value c.push_parts.new.draft)
    (said_value c.in_ok-said.said) c.in_ok-instr.instr (length (pairs c.args.read.now.symbols)) (length (pairs c.read_instr.new.symbols))
    c.in_ok-instr.ensures.few c.requires c.push_parts.ensures
