use Rattle.std.proofs.Common.{ap, ◌<◌, length, arith}
use Rattle.form_table.specs.ItemViews.{lexemes}
use Rattle.form_table.specs.Symbols.{pairs_from}
use Rattle.form_table.specs.Reads.{with_fit}
use Rattle.form_table.specs.TableRows.{rows_of}
use Rattle.sl_text.specs.Tokens.{token_value}
use Rattle.sl_isa.specs.Symbols.{with_pairs}
use Rattle.sl_isa.specs.SymbolViews.{pairs}
use Rattle.sl_isa.proofs.ForCallers.{have_pairs-with}
use Rattle.form_table.proofs.Few.{many_fit_none}
use Rattle.form_table.proofs.reader.read_operands.Goals as goal

pub returns-then-symbol_count-gt-MOST_SYMBOLS-clause-answer : goal.returns-then-symbol_count-gt-MOST_SYMBOLS-clause-answer
returns-then-symbol_count-gt-MOST_SYMBOLS-clause-answer c =
    let tokens = lexemes c.args.tokens.now in
    let old = pairs c.args.symbols.now in
    let many : 5 < length (pairs_from tokens) = let more = c.if-symbol_count-gt-MOST_SYMBOLS.true in let count = c.symbol_count.ensures in omega (arith, more, count) in
    ap (with_fit (rows_of c.args.table.now))
    (many_fit_none (rows_of c.args.table.now) (with_pairs old (pairs_from tokens)) (token_value c.args.first.now) tokens (have_pairs-with old (pairs_from tokens)) many)
