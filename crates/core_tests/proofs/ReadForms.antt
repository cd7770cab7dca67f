-- What is read is an instruction of AArch64.
use Rattle.std.proofs.Common.{◌≡◌, ◌∙◌, ℕ, ◌+◌, List, [], ◌∷◌, ◌++◌, length, ap}
use Rattle.std.proofs.lemmas.List.{length_push}
use Rattle.std.specs.Prelude.{Result, Ok, Err, IfOk}
use Rattle.sl_model.specs.declared.instruction.Instr.{Instr}
use Rattle.sl_model.specs.Answers.{Gives}
use Rattle.sl_model.specs.Lawful.{IsValid}
use Rattle.sl_model.specs.Token.{Lexeme}
use Rattle.sl_isa.specs.Arch.{reason_of}
use Rattle.sl_isa.specs.Symbols.{Pair}
use Rattle.sl_isa.specs.Language.{read_behind}
use Rattle.sl_isa.specs.declared.reasons.FormErr.{FormErr}
use Rattle.sl_isa.specs.declared.reasons.FormErr.TheVariants.{Refused, NoMemory}
use Rattle.sl_isa.proofs.ForCallers.{read_behind-read}
use Rattle.arm64_table.specs.Arm64.{arm64}
use Rattle.arm64_table.specs.Laws.{arm64_lawful}

pub read-is_valid : (answer : Result Instr FormErr) (pairs : List Pair) (words : List Lexeme) → Gives reason_of (λ i. i) answer (read_behind arm64 pairs words)
    → IfOk answer (λ i. IsValid arm64.isa i)
read-is_valid (Ok i) pairs words e = (read_behind-read arm64 arm64_lawful pairs words i e).valid
read-is_valid (Err (Refused reason)) pairs words e = tt
read-is_valid (Err NoMemory) pairs words e = tt

-- a list with one item more is longer by one
pub longer : (items more : List Instr) (i : Instr) (count : ℕ) → more ≡ items ++ i ∷ [] → length items ≡ count → length more ≡ count + 1
longer items more i count grown e = ap length grown ∙ length_push items i ∙ ap (λ n. n + 1) e
