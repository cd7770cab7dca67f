-- The language of a table that passes the tests, with steps that are made, has all laws of a language.
use Rattle.std.proofs.Common.{◌≡◌, refl, ap, ℕ, ◌+◌, Bool, true, false, List, [], ◌∷◌}
use Rattle.std.specs.Prelude.{slice_get, Option, None, Some, if◌then◌else◌}
use Rattle.sl_model.specs.declared.register.Reg.{Reg}
use Rattle.sl_model.specs.declared.text.Comments.{Comments}
use Rattle.sl_model.specs.declared.instruction.ArchName.{ArchName}
use Rattle.sl_model.specs.declared.instruction.Instr.{Instr}
use Rattle.sl_model.specs.Machine.{can_count}
use Rattle.sl_isa.specs.declared.arch.CounterOp.{CounterOp}
use Rattle.sl_isa.specs.Steps.{IsStep, Steps}
use Rattle.sl_isa.specs.Symbols.{Pair}
use Rattle.sl_isa.specs.Language.{IsLanguage, IsSpelledAt, unmarked, IsSpelled}
use Rattle.scalar_ops.specs.Scalar.{bits_of}
use Rattle.scalar_ops.proofs.ForCallers.{value-count, result-fits_bits, second_value-fits, word-count, word-fits, second_word-fits}
use Rattle.lane_ops.proofs.ForCallers.{value_fits, moved_out_fits}
use Rattle.form_table.specs.declared.rows.Row.{Row}
use Rattle.form_table.specs.declared.rows.Operand.{Operand}
use Rattle.form_table.specs.Rows.{row_operands}
use Rattle.form_table.specs.Printed.{has_number, one_if, among_ins, among_outs, held_in, helds_in, row_text, row_printed, printed}
use Rattle.form_table.specs.Tables.{is_table, all_led, is_readable}
use Rattle.form_table.proofs.ForCallers.{GivesInstr, spelled_at, one_line, none_of_no_words, read_few, reads_further, plain_printed, HasWords}
use Rattle.form_isa.specs.LawfulTable.{is_lawful_table}
use Rattle.form_isa.specs.TableIsa.{table_isa, table_language}
use Rattle.form_isa.proofs.Values.{AreBounded}
use Rattle.form_isa.proofs.Lawful.{table-lawful}
use Rattle.form_isa.proofs.ReadValid.{read-valid}
use Rattle.form_isa.proofs.Renamed.{read-renamed}

-- what is known of the values of instructions
bounded : AreBounded
bounded = record {
  count = λ op size imms ins. value-count op (bits_of size) imms ins;
  result = result-fits_bits;
  flags = λ op size imms ins. second_value-fits op (bits_of size) imms ins;
  whole = value_fits;
  moved_out = moved_out_fits;
  words = word-count;
  word = word-fits;
  second_word = second_word-fits;
}

first_of : (a b : Bool) → (if a then b else false) ≡ true → a ≡ true
first_of true b e = refl
first_of false b e = e

-- what is printed looks at neither line, tag nor marks
helds-unmarked : (i : Instr) (operands : List Operand) (ins outs numbers : ℕ) →
    helds_in (unmarked i) operands ins outs numbers ≡ helds_in i operands ins outs numbers
unfolding helds_in held_in
helds-unmarked i [] ins outs numbers = refl
helds-unmarked i (operand ∷ operands) ins outs numbers =
    ap (λ more. held_in i operand ins outs numbers ∷ more)
    (helds-unmarked i operands (ins + one_if (among_ins operand)) (outs + one_if (among_outs operand)) (numbers + one_if (has_number operand.shape)))

row-unmarked : (pairs : List Pair) (o : Option Row) (i : Instr) → row_printed pairs o (unmarked i) ≡ row_printed pairs o i
row-unmarked pairs None i = refl
row-unmarked pairs (Some row) i = ap (row_text pairs row) (helds-unmarked i (row_operands row) 0 0 0)

printed-unmarked : (table : List Row) (pairs : List Pair) (i : Instr) → printed table pairs (unmarked i) ≡ printed table pairs i
unfolding printed
printed-unmarked table pairs i = row-unmarked pairs (slice_get table i.form) i

-- what a text gives by a table it gives by its language
given-spelled : (name : ArchName) (table : List Row) (step_of : CounterOp → Reg → ℕ → Instr) (pairs : List Pair) (comments : Comments) (text : List ℕ) (place : ℕ) (behind : List ℕ) (i : Instr) →
    GivesInstr table pairs comments text place behind i → IsSpelledAt (table_language name table step_of) pairs comments text place behind i
unfolding table_language
given-spelled name table step_of pairs comments text place behind i given = record {
  words = given.words;
  tokens = given.tokens;
  plain = given.plain;
  known = given.known;
  read = given.read;
}

-- words that a table has spell an instruction of its language
words-spelled : (name : ArchName) (table : List Row) (step_of : CounterOp → Reg → ℕ → Instr) (pairs : List Pair) (i : Instr) → HasWords table pairs (unmarked i) →
    IsSpelled (table_language name table step_of) pairs i
unfolding table_language
words-spelled name table step_of pairs i has = record { words = has.words; known = has.known; read = has.read }

pub table-language : (name : ArchName) (table : List Row) (step_of : CounterOp → Reg → ℕ → Instr) → is_readable table ≡ true →
    is_lawful_table name table ≡ true →
    ((op : CounterOp) (counter : Reg) (line : ℕ) → can_count name counter ≡ true → IsStep op →
    Steps (table_isa name table) op counter line (step_of op counter line)) → IsLanguage (table_language name table step_of)
unfolding table_language table_isa
table-language name table step_of readable lawful steps =
    let whole : is_table table ≡ true = first_of (is_table table) (all_led table) readable in
    record {
      set = table-lawful name table bounded lawful;
      read = λ pairs words i known e. read-valid name table pairs words i whole lawful e;
      few = read_few table;
      more = reads_further table;
      renamed = λ pairs i j spelled renaming. words-spelled name table step_of [] j (read-renamed name table readable lawful pairs spelled.words i j spelled.read renaming);
      nothing = none_of_no_words table;
      again = λ pairs words i known e comments place behind is.
          given-spelled name table step_of pairs comments (printed table pairs i) place behind i (spelled_at table readable pairs words i e comments place behind is);
      one_line = λ pairs words i known e. one_line table readable pairs words i e;
      plain_printed = plain_printed table;
      unmarked_printed = printed-unmarked table;
      steps = steps;
    }
