-- Spellings with `.w` behind the mnemonic, over any table: each form takes them, and they say nothing
-- but how wide the encoding is, so they are kept. Source: DDI 0403, A7.2, standard assembler syntax.
use Rattle.std.specs.Prelude.{ℕ, Bool, true, false, ◌-◌, is_some, slice_get, length, List, [], ◌∷◌, ◌++◌, codes, Option, None, Some, Result, Ok, Err, if◌then◌else◌}
use Rattle.std.specs.Str.{str_eq_ignore_ascii_case}
use Rattle.sl_model.specs.Token.{Lexeme}
use Rattle.sl_model.specs.declared.instruction.Instr.{Instr}
use Rattle.sl_model.specs.declared.instruction.ArchName.{ArchName}
use Rattle.sl_model.specs.declared.register.Reg.{Reg}
use Rattle.sl_model.specs.Isa.{Isa, Op}
use Rattle.sl_isa.specs.declared.arch.CounterOp.{CounterOp}
use Rattle.sl_isa.specs.Symbols.{Pair}
use Rattle.sl_isa.specs.Language.{Language}
use Rattle.sl_isa.specs.declared.reasons.FormReason.{FormReason}
use Rattle.form_table.specs.Rows.{row_operands, mnemonic_text}
use Rattle.form_table.specs.Symbols.{pairs_in}
use Rattle.form_table.specs.Reads.{is_suffixed, reads}
use Rattle.form_table.specs.Printed.{helds_in, operands_text}
use Rattle.form_table.specs.declared.rows.Row.{Row}
use Rattle.form_table.specs.declared.rows.Slot.TheVariants as slot
use Rattle.form_isa.specs.TableIsa.{table_isa}

-- the `w` of a `.w` directly behind a word, and the tokens behind it
unfoldable pub behind_wide : Lexeme → List Lexeme → Option (Lexeme × List Lexeme)
behind_wide first [] = None
behind_wide first (dot ∷ []) = None
behind_wide first (dot ∷ word ∷ tokens) =
    if is_suffixed first (dot ∷ word ∷ tokens) then
    (if str_eq_ignore_ascii_case word.text (codes "w") then Some (word, tokens) else None)
    else None

-- a word, moved so that it ends where a letter behind it ends
abbrev pub moved_to : Lexeme → Lexeme → Lexeme
moved_to letter word = record word { start = letter.start - (length word.text - 1) }

-- the words of an instruction without `.w`: the mnemonic stands where it ends with it, so that what
-- touches it is the same
abbrev pub narrowed : Lexeme → List Lexeme → Option (Lexeme × List Lexeme) → List Lexeme
narrowed first tokens None = first ∷ tokens
narrowed first tokens (Some (letter, behind)) = moved_to letter first ∷ behind

-- the same of all words, with `.w` or without
unfoldable pub narrow : List Lexeme → List Lexeme
narrow [] = []
narrow (first ∷ tokens) = narrowed first tokens (behind_wide first tokens)

-- Do words begin with a mnemonic that has `.w`?
unfoldable pub is_wide : List Lexeme → Bool
is_wide [] = false
is_wide (first ∷ tokens) = is_some (behind_wide first tokens)

-- an instruction with `.w` or without
abbrev pub with_wide : Bool → Instr → Instr
with_wide wide i = record i { wide = wide }

-- the same of one that was read
abbrev pub kept_wide : Bool → Result Instr FormReason → Result Instr FormReason
kept_wide wide (Ok i) = Ok (with_wide wide i)
kept_wide wide (Err reason) = Err reason

-- the pairs of the symbolic registers among words
unfoldable pub wide_pairs_in : List Lexeme → List Pair
wide_pairs_in words = pairs_in (narrow words)

-- the instruction that words spell, or the first reason why they spell none
unfoldable pub wide_reads : List Row → List Pair → List Lexeme → Result Instr FormReason
wide_reads table pairs words = kept_wide (is_wide words) (reads table pairs (narrow words))

-- what stands behind a mnemonic
abbrev pub suffix : Bool → List ℕ
suffix false = []
suffix true = codes ".w"

-- an instruction as it is printed by a row, if there is one
abbrev pub wide_row_printed : List Pair → Option Row → Instr → List ℕ
wide_row_printed pairs None i = []
wide_row_printed pairs (Some row) i =
    mnemonic_text row
    ++ (suffix i.wide
    ++ operands_text pairs slot.Gap (row_operands row) (helds_in i (row_operands row) 0 0 0))

-- the one printed spelling of an instruction
unfoldable pub wide_printed : List Row → List Pair → Instr → List ℕ
wide_printed table pairs i = wide_row_printed pairs (slice_get table i.form) i

-- what an instruction does, whose encoding is the narrow one
abbrev pub narrow_op : Op → Op
narrow_op o = record o { wide = false }

-- a set of instructions, each of which has `.w` or not: it does the same
unfoldable pub wide_isa : Isa → Isa
wide_isa isa = record {
  name = isa.name;
  forms = isa.forms;
  valid = λ o. isa.valid (narrow_op o);
  info = isa.info;
  offset = λ o. isa.offset (narrow_op o);
  values = λ o ins loaded. isa.values (narrow_op o) ins loaded;
  stored = λ o ins. isa.stored (narrow_op o) ins;
}

-- the language of a table, each of whose instructions has `.w` or not
unfoldable pub wide_language : ArchName → List Row → (CounterOp → Reg → ℕ → Instr) → Language
wide_language name table step_of = record {
  isa = wide_isa (table_isa name table);
  pairs_in = wide_pairs_in;
  reads = wide_reads table;
  printed = wide_printed table;
  step_of = step_of;
}
