use Rattle.std.proofs.Common.{List}
use Rattle.sl_model.specs.Token.{Lexeme}
use Rattle.sl_isa.specs.Symbols.{Pair}
use Rattle.sl_isa.specs.SymbolViews.{pairs}
use Rattle.sl_isa.specs.Language.{pairs_behind}
use Rattle.sl_isa.proofs.ForCallers.{have_pairs-with}
use Rattle.macro_expand.specs.Spelled.{lexemes}
use Rattle.asm_reader.proofs.reading.read_instr.Goals as goal

pub returns-in-Ok-clause-valid : goal.returns-in-Ok-clause-valid
returns-in-Ok-clause-valid g c =
    let language = g.A.Arch.language in
    let words : List Lexeme = lexemes c.args.words.now in
    let old : List Pair = pairs c.args.symbols.now in
    (g.met.A.Arch.lawful.read (pairs_behind language old words) words c.in-Ok.instr (have_pairs-with old (language.pairs_in words)) c.in-Ok.ensures.answer).valid
