-- The instruction set of a table of rows. Source: this project's own format; what instructions
-- compute has its source in the definitions of their meanings.
use Rattle.std.specs.Prelude.{ℕ, ℤ, pos, ◌==◌, ◌-◌, Bool, true, false, not, List, [], ◌∷◌, length, slice_get, slice_index_or, unsigned_abs, Option, None, Some, if◌then◌else◌}
use Rattle.sl_model.specs.declared.instruction.ArchName.{ArchName}
use Rattle.sl_model.specs.declared.register.Reg.{Reg}
use Rattle.sl_model.specs.declared.instruction.Instr.{Instr}
use Rattle.sl_model.specs.declared.instruction.FormInfo.{FormInfo}
use Rattle.sl_model.specs.declared.instruction.Access.{Access}
use Rattle.sl_model.specs.Isa.{Isa, Op, address_at}
use Rattle.sl_model.specs.Exec.{base_value, has_access}
use Rattle.sl_model.specs.Machine.{space_of}
use Rattle.sl_isa.specs.declared.meaning.Meaning.{Meaning}
use Rattle.sl_isa.specs.declared.meaning.Meaning.TheVariants as meaning
use Rattle.scalar_ops.specs.Scalar.{bits_of, operand, scalar_values}
use Rattle.scalar_ops.specs.Words.{word_values}
use Rattle.lane_ops.specs.Vector.{vector_value}
use Rattle.form_table.specs.Rows.{row_operands}
use Rattle.form_table.specs.Symbols.{pairs_in}
use Rattle.form_table.specs.Reads.{in_range, sum_suits, reads}
use Rattle.form_table.specs.Printed.{has_number, printed}
use Rattle.form_table.specs.declared.rows.Range.{Range}
use Rattle.form_table.specs.declared.rows.Operand.{Operand}
use Rattle.form_table.specs.declared.rows.Alias.{Alias}
use Rattle.form_table.specs.declared.rows.Alias.TheVariants as alias
use Rattle.form_table.specs.declared.rows.Row.{Row}
use Rattle.form_isa.specs.Access.{offset_by, transfer_values, transfer_bytes}
use Rattle.form_isa.specs.Info.{info_at}
use Rattle.sl_isa.specs.declared.arch.CounterOp.{CounterOp}
use Rattle.sl_isa.specs.Language.{Language}

-- the ranges of the numbers of operands, in their order
unfoldable pub ranges : List Operand → List Range
ranges [] = []
ranges (operand ∷ operands) =
    if has_number operand.shape then operand.range ∷ ranges operands else ranges operands

-- Are numbers in their ranges, and is 0 where an instruction has none?
unfoldable pub numbers_fit : List Range → List ℤ → Bool
numbers_fit ranges [] = true
numbers_fit [] (n ∷ numbers) = if unsigned_abs n == 0 then numbers_fit [] numbers else false
numbers_fit (range ∷ ranges) (n ∷ numbers) =
    if in_range range n then numbers_fit ranges numbers else false

-- the last number of an instruction of a row, and 0 where it has none
abbrev pub last_number : Row → List ℤ → ℤ
last_number row imms = slice_index_or imms (length (ranges (row_operands row)) - 1) (pos 0)

-- Is an instruction with this last number kept as one of its own row?
abbrev pub is_kept : Alias → ℤ → Bool
is_kept alias.Own n = true
is_kept (alias.As form) n = false
is_kept (alias.Repeat form) n = false
is_kept (alias.ZeroAs form place) n = not (unsigned_abs n == 0)

-- Has a row instructions with these numbers?
unfoldable pub takes : Row → List ℤ → Bool
takes row imms =
    if numbers_fit (ranges (row_operands row)) imms then
    (if sum_suits row.sum (slice_index_or imms 0 (pos 0)) (slice_index_or imms 1 (pos 0))
    then is_kept row.alias (last_number row imms)
    else false)
    else false

-- Is there a row, and has it such an instruction?
abbrev pub is_valid : Option Row → Op → Bool
is_valid None o = false
is_valid (Some row) o = if o.wide then false else takes row o.imms

-- the values of the outputs, where bytes were loaded
abbrev pub meaning_values : ArchName → Meaning → List ℤ → List ℕ → List ℕ → List ℕ
meaning_values name (meaning.Scalar op size) imms ins loaded =
    scalar_values op (bits_of size) imms ins
meaning_values name (meaning.Vector op) imms ins loaded = vector_value op imms ins ∷ []
meaning_values name (meaning.Word op) imms ins loaded = word_values op imms ins
meaning_values name (meaning.Copy b) imms ins loaded = operand 32 ins 0 ∷ []
meaning_values name (meaning.Memory transfer) imms ins loaded =
    transfer_values (space_of name) transfer imms ins loaded

-- the bytes that are stored
abbrev pub meaning_bytes : Meaning → List ℕ → List ℕ
meaning_bytes (meaning.Scalar op size) ins = []
meaning_bytes (meaning.Vector op) ins = []
meaning_bytes (meaning.Word op) ins = []
meaning_bytes (meaning.Copy b) ins = []
meaning_bytes (meaning.Memory transfer) ins = transfer_bytes transfer ins

-- the offset of an access
abbrev pub meaning_offset : Meaning → List ℤ → ℤ
meaning_offset (meaning.Scalar op size) imms = pos 0
meaning_offset (meaning.Vector op) imms = pos 0
meaning_offset (meaning.Word op) imms = pos 0
meaning_offset (meaning.Copy b) imms = pos 0
meaning_offset (meaning.Memory transfer) imms = offset_by transfer.addressing imms

-- the values of the outputs by a row, if there is one
abbrev pub row_values : ArchName → Option Row → List ℤ → List ℕ → List ℕ → List ℕ
row_values name None imms ins loaded = []
row_values name (Some row) imms ins loaded = meaning_values name row.meaning imms ins loaded

-- the bytes that are stored by it
abbrev pub row_bytes : Option Row → List ℕ → List ℕ
row_bytes None ins = []
row_bytes (Some row) ins = meaning_bytes row.meaning ins

-- the offset of its access
abbrev pub row_offset : Option Row → List ℤ → ℤ
row_offset None imms = pos 0
row_offset (Some row) imms = meaning_offset row.meaning imms

-- the access of an instruction of a form, with an offset and where its operands have these values
abbrev pub access_by : ArchName → FormInfo → ℤ → List ℕ → Option Access
access_by name info offset ins =
    if has_access info then
    Some (record {
      store = info.store;
      address = address_at (space_of name) (base_value info.base ins) offset;
      size = info.size;
    })
    else None

-- the instruction set of a table
unfoldable pub table_isa : ArchName → List Row → Isa
table_isa name table = record {
  name = name;
  forms = length table;
  valid = λ o. is_valid (slice_get table o.form) o;
  info = λ form. info_at (slice_get table form);
  offset = λ o. row_offset (slice_get table o.form) o.imms;
  values = λ o ins loaded. row_values name (slice_get table o.form) o.imms ins loaded;
  stored = λ o ins. row_bytes (slice_get table o.form) ins;
}

-- the language of a table: its instruction set, whose instructions are read and printed by its
-- rows, with these steps of a counter
unfoldable pub table_language : ArchName → List Row → (CounterOp → Reg → ℕ → Instr) → Language
table_language name table step_of = record {
  isa = table_isa name table;
  pairs_in = pairs_in;
  reads = reads table;
  printed = printed table;
  step_of = step_of;
}
