-- What is read where the pairs of the words are added to some.
use Rattle.std.specs.Prelude.{◌≡◌, List, true, Ok}
use Rattle.sl_model.specs.declared.instruction.Instr.{Instr}
use Rattle.sl_model.specs.Token.{Lexeme}
use Rattle.sl_isa.specs.Symbols.{Pair}
use Rattle.sl_isa.specs.Language.{Language, pairs_behind, read_behind, knows_words, IsRead, IsLanguage}
use Rattle.sl_isa.proofs.Pairs.{have_pairs-with}

-- The pairs behind words have those of the words.
pub knows_words-behind : (language : Language) (pairs : List Pair) (words : List Lexeme) → knows_words language (pairs_behind language pairs words) words ≡ true
knows_words-behind language pairs words = have_pairs-with pairs (language.pairs_in words)

-- What is read is an instruction of the set, and its registers are known.
pub read_behind-read : (language : Language) → IsLanguage language → (pairs : List Pair) (words : List Lexeme) (i : Instr) → read_behind language pairs words ≡ Ok i
    → IsRead language.isa (pairs_behind language pairs words) i
read_behind-read language lawful pairs words i e = lawful.read (pairs_behind language pairs words) words i (knows_words-behind language pairs words) e
