-- What is read is an instruction of a language, and its registers are known.
use Rattle.std.proofs.Common.{◌≡◌, List, subst, sym}
use Rattle.std.specs.Prelude.{Result, Ok, Err, IfOk, OnOk}
use Rattle.sl_model.specs.declared.instruction.Instr.{Instr}
use Rattle.sl_model.specs.Token.{Lexeme}
use Rattle.sl_model.specs.Lawful.{IsValid}
use Rattle.sl_model.specs.Answers.{Gives}
use Rattle.sl_isa.specs.Arch.{reason_of}
use Rattle.sl_isa.specs.Symbols.{Pair}
use Rattle.sl_isa.specs.Language.{Language, IsLanguage, pairs_behind, read_behind, IsNamed}
use Rattle.sl_isa.specs.declared.reasons.FormErr.{FormErr}
use Rattle.sl_isa.specs.declared.reasons.FormErr.TheVariants.{Refused, NoMemory}
use Rattle.sl_isa.proofs.ForCallers.{read_behind-read}

pub read_is_valid : (language : Language) → IsLanguage language → (answer : Result Instr FormErr) (pairs : List Pair) (words : List Lexeme)
    → Gives reason_of (λ i. i) answer (read_behind language pairs words) → IfOk answer (λ i. IsValid language.isa i)
read_is_valid language laws (Ok i) pairs words e = (read_behind-read language laws pairs words i e).valid
read_is_valid language laws (Err (Refused reason)) pairs words e = tt
read_is_valid language laws (Err NoMemory) pairs words e = tt

pub read_is_named : (language : Language) → IsLanguage language → (answer : Result Instr FormErr) (pairs all : List Pair) (words : List Lexeme)
    → Gives reason_of (λ i. i) answer (read_behind language pairs words)
    → OnOk answer (all ≡ pairs_behind language pairs words) → IfOk answer (λ i. IsNamed all i)
read_is_named language laws (Ok i) pairs all words e are = subst (λ ps. IsNamed ps i) (sym are) (read_behind-read language laws pairs words i e).named
read_is_named language laws (Err (Refused reason)) pairs all words e are = tt
read_is_named language laws (Err NoMemory) pairs all words e are = tt
