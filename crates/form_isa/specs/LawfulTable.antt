-- Tests of tables, which the checker computes: a row writes what its meaning gives, and its
-- instructions are known by their numbers. Source: this project's own.
use Rattle.std.specs.Prelude.{ℕ, ◌+◌, ◌*◌, ◌==◌, ◌%◌, ◌/◌, ◌^◌, Bool, true, false, zero, suc, not, unsigned_abs, List, [], ◌∷◌, ◌++◌, length, nat_le, nat_lt, if◌then◌else◌}
use Rattle.std.specs.Str.{bytes_eq}
use Rattle.sl_model.specs.declared.register.Bank.{Bank}
use Rattle.sl_model.specs.declared.register.Bank.TheVariants as bank
use Rattle.sl_model.specs.declared.register.RegSet.{RegSet}
use Rattle.sl_model.specs.declared.instruction.ArchName.{ArchName}
use Rattle.sl_model.specs.Machine.{limit_of}
use Rattle.sl_model.specs.RegSets.{set_count}
use Rattle.sl_model.specs.Lawful.{bank_bits}
use Rattle.sl_isa.specs.declared.meaning.Scalar.{Scalar}
use Rattle.sl_isa.specs.declared.meaning.Scalar.TheVariants as scalar
use Rattle.sl_isa.specs.declared.meaning.Vector.{Vector}
use Rattle.sl_isa.specs.declared.meaning.Vector.TheVariants as vector
use Rattle.sl_isa.specs.declared.meaning.WordOp.{WordOp}
use Rattle.sl_isa.specs.declared.meaning.WordOp.TheVariants as word
use Rattle.sl_isa.specs.declared.meaning.Addressing.{Addressing}
use Rattle.sl_isa.specs.declared.meaning.Transfer.{Transfer}
use Rattle.sl_isa.specs.declared.meaning.Meaning.{Meaning}
use Rattle.sl_isa.specs.declared.meaning.Meaning.TheVariants as meaning
use Rattle.scalar_ops.specs.Scalar.{result_bits}
use Rattle.form_table.specs.Rows.{row_operands}
use Rattle.form_table.specs.Printed.{has_number}
use Rattle.form_table.specs.Tables.{spell_classes}
use Rattle.form_table.specs.declared.rows.Range.{Range}
use Rattle.form_table.specs.declared.rows.Operand.{Operand}
use Rattle.form_table.specs.declared.rows.Alias.{Alias}
use Rattle.form_table.specs.declared.rows.Alias.TheVariants as alias
use Rattle.form_table.specs.declared.rows.Row.{Row}
use Rattle.form_table.specs.declared.reader.Pick.TheVariants as pick
use Rattle.form_isa.specs.Access.{width_bytes, base_place, writes_back}
use Rattle.form_isa.specs.Info.{classes, input_classes, output_classes, padded_classes, places_of}
use Rattle.form_isa.specs.TableIsa.{ranges}

-- the banks of the outputs of a scalar meaning
abbrev pub scalar_banks : Scalar → List Bank
scalar_banks (scalar.Sum minus second carries true) = bank.General ∷ bank.Flags ∷ []
scalar_banks _ = bank.General ∷ []

-- the bank of the output of a vector meaning
abbrev pub vector_banks : Vector → List Bank
vector_banks (vector.MoveOut lane) = bank.General ∷ []
vector_banks _ = bank.Vector ∷ []

-- the banks of the outputs of a meaning on words
abbrev pub word_banks : WordOp → List Bank
word_banks (word.MultiplyPair signed adds) = bank.General ∷ bank.General ∷ []
word_banks _ = bank.General ∷ []

-- the banks of what an access loads
abbrev pub loaded_banks : Bool → Bank → List Bank
loaded_banks false b = b ∷ []
loaded_banks true b = b ∷ b ∷ []

-- the bank of a base that is written back
abbrev pub base_banks : Addressing → List Bank
base_banks addressing = if writes_back addressing then bank.General ∷ [] else []

-- the banks of the outputs of an access
abbrev pub transfer_banks : Transfer → List Bank
transfer_banks t =
    (if t.store then [] else loaded_banks t.pair t.bank) ++ base_banks t.addressing

-- the banks of the outputs of a meaning
abbrev pub banks_of : Meaning → List Bank
banks_of (meaning.Scalar op size) = scalar_banks op
banks_of (meaning.Vector op) = vector_banks op
banks_of (meaning.Word op) = word_banks op
banks_of (meaning.Copy b) = b ∷ []
banks_of (meaning.Memory t) = transfer_banks t

-- Are all registers of a set of a bank, and none of them the zero register?
abbrev pub are_of : Bank → RegSet → Bool
are_of bank.General set =
    if bank_bits bank.General set == set.bits then not (set.bits / 2 ^ 31 % 2 == 1) else false
are_of bank.Vector set = set.bits == bank_bits bank.Vector set * 2 ^ 32
are_of bank.Flags set = set.bits == 2 ^ 64
are_of bank.Stack set = false

-- The same, and is there one? An output that no register suits would be none.
abbrev pub is_only_of : Bank → RegSet → Bool
is_only_of b set = if set.bits == 0 then false else are_of b set

-- Are these sets one for each bank, each of registers of its bank alone?
unfoldable pub are_only_of : List Bank → List RegSet → Bool
are_only_of [] [] = true
are_only_of [] (set ∷ sets) = false
are_only_of (b ∷ banks) [] = false
are_only_of (b ∷ banks) (set ∷ sets) = if is_only_of b set then are_only_of banks sets else false

-- Is the number of the operand at a place the last one?
unfoldable pub is_last_number : ℕ → List Operand → Bool
is_last_number place [] = false
is_last_number zero (operand ∷ operands) =
    if has_number operand.shape then length (ranges operands) == 0 else false
is_last_number (suc place) (operand ∷ operands) = is_last_number place operands

-- A number that makes a spelling one of another row where it is 0 is the last one, and
-- has its place in an instruction.
abbrev pub has_its_number : Alias → List Operand → Bool
has_its_number alias.Own operands = true
has_its_number (alias.As form) operands = true
has_its_number (alias.Repeat form) operands = true
has_its_number (alias.ZeroAs form place) operands =
    if nat_le (length (ranges operands)) 3 then is_last_number place operands else false

-- Do registers of a bank take all numbers of so many bits?
abbrev pub has_room : ArchName → Bank → ℕ → Bool
has_room name b bits = nat_le (2 ^ bits) (limit_of name b)

-- the same of the result of a vector meaning
abbrev pub has_vector_room : ArchName → Vector → Bool
has_vector_room name (vector.MoveOut lane) = has_room name bank.General 64
has_vector_room name _ = has_room name bank.Vector 128

-- how many bits of a register a load fills: copies of a sign reach up to 32
abbrev pub loaded_bits : Transfer → ℕ
loaded_bits t =
    if t.signed then (if nat_lt (width_bytes t.width) 4 then 32 else 8 * width_bytes t.width)
    else 8 * width_bytes t.width

-- Is the first of the numbers that operands take within 2 ^ 20 of 0, if there is one?
abbrev pub is_near : List Range → Bool
is_near [] = true
is_near (range ∷ ranges) =
    if nat_le (unsigned_abs range.least) (2 ^ 20)
    then nat_le (unsigned_abs range.most) (2 ^ 20)
    else false

-- Has a row an input at a place?
abbrev pub has_input : Row → ℕ → Bool
has_input row place = nat_lt place (set_count (padded_classes 4 (input_classes row)))

-- Have a row's operands one base, behind as many others that are read as its place says, and is
-- nothing else read?
abbrev pub has_base : Transfer → Row → Bool
has_base t row =
    if bytes_eq (places_of pick.Base 0 (row_operands row)) (base_place t ∷ []) then
    (if length (classes pick.Data (row_operands row)) == base_place t then
    (if length (input_classes row) == base_place t + 1
    then has_input row (base_place t)
    else false)
    else false)
    else false

-- the places of bases that an access writes back
abbrev pub back_places : Transfer → List ℕ
back_places t = if writes_back t.addressing then base_place t ∷ [] else []

-- Has a row the base of an access, does it write it back as the access says, and
-- suit its registers and its offsets?
abbrev pub suits_transfer : ArchName → Transfer → Row → Bool
suits_transfer name t row =
    if has_base t row then
    (if bytes_eq (places_of pick.Back 0 (row_operands row)) (back_places t) then
    (if has_room name t.bank (loaded_bits t) then is_near (ranges (row_operands row)) else false)
    else false)
    else false

-- Has it no base?
abbrev pub lacks_base : Row → Bool
lacks_base row = length (classes pick.Base (row_operands row)) == 0

-- Has a row a base exactly where its meaning is an access, and one that suits it; and have the
-- registers of an architecture room for what the meaning gives?
abbrev pub suits_meaning : ArchName → Meaning → Row → Bool
suits_meaning name (meaning.Scalar op size) row =
    if has_room name bank.General (result_bits op size) then lacks_base row else false
suits_meaning name (meaning.Vector op) row =
    if has_vector_room name op then lacks_base row else false
suits_meaning name (meaning.Word op) row =
    if has_room name bank.General 32 then lacks_base row else false
suits_meaning name (meaning.Copy b) row = if has_room name b 32 then lacks_base row else false
suits_meaning name (meaning.Memory t) row = suits_transfer name t row

-- Is a row lawful in an architecture: it has at most four inputs, writes what its meaning gives,
-- has a base where that is an access, tells its own instructions by their numbers, and spells the
-- registers of its classes?
abbrev pub is_lawful_row : ArchName → Row → Bool
is_lawful_row name row =
    if nat_le (length (input_classes row)) 4 then
    (if are_only_of (banks_of row.meaning) (output_classes row) then
    (if suits_meaning name row.meaning row then
    (if has_its_number row.alias (row_operands row)
    then spell_classes (row_operands row)
    else false)
    else false)
    else false)
    else false

-- Are all rows of a table lawful?
unfoldable pub is_lawful_table : ArchName → List Row → Bool
is_lawful_table name [] = true
is_lawful_table name (row ∷ rows) =
    if is_lawful_row name row then is_lawful_table name rows else false
