-- Tests of tables, which the checker computes: no two rows fit the same words, and what is printed
-- is read again. Source: this project's own; nothing of them is Arm's.
use Rattle.std.specs.Prelude.{ℕ, pos, ◌+◌, ◌-◌, ◌*◌, ◌^◌, zero, suc, ◌==◌, Bool, true, false, not, bit_or, int_le, nat_le, nat_lt, unsigned_abs, List, [], ◌∷◌, slice_get, Option, None, Some, if◌then◌else◌}
use Rattle.std.specs.Str.{bytes_eq, str_eq_ignore_ascii_case}
use Rattle.sl_model.specs.declared.register.RegSet.{RegSet}
use Rattle.form_table.specs.Rows.{name_text, row_operands, mnemonic_text, slots_of, row_slots}
use Rattle.form_table.specs.Symbols.{letter_code, is_word_text}
use Rattle.form_table.specs.Printed.{has_register, has_number, one_if, among_outs, among_ins}
use Rattle.form_table.specs.declared.rows.Alias.{Alias}
use Rattle.form_table.specs.declared.rows.Alias.TheVariants as alias
use Rattle.form_table.specs.declared.rows.Letter.{Letter}
use Rattle.form_table.specs.declared.rows.Letter.TheVariants as letter
use Rattle.form_table.specs.declared.rows.Slot.{Slot}
use Rattle.form_table.specs.declared.rows.Slot.TheVariants as slot
use Rattle.form_table.specs.declared.rows.Shape.{Shape}
use Rattle.form_table.specs.declared.rows.Shape.TheVariants as shape
use Rattle.form_table.specs.declared.rows.Operand.{Operand}
use Rattle.form_table.specs.declared.rows.Row.{Row}

-- the kind of the items that a slot takes: blanks, marks, words, numbers
abbrev pub slot_kind : Slot → ℕ
slot_kind slot.Gap = 0
slot_kind (slot.Mark code) = 1
slot_kind (slot.Name name) = 2
slot_kind (slot.Register letter) = 2
slot_kind slot.Number = 3
slot_kind slot.Index = 3
slot_kind slot.Condition = 2

-- Do all registers that are spelled with a letter begin with it?
abbrev pub is_plain : Letter → Bool
is_plain letter.X = false
is_plain letter.R = false
is_plain letter.W = true
is_plain letter.V = true
is_plain letter.Q = true
is_plain letter.D = true
is_plain letter.S = true

-- Is no word a register of both spellings? One of them is plain.
abbrev pub letters_differ : Letter → Letter → Bool
letters_differ a b =
    if is_plain a then not (letter_code a == letter_code b)
    else (if is_plain b then not (letter_code a == letter_code b) else false)

-- Do two slots of one kind take no common item, as far as this test sees?
abbrev pub same_kind_differ : Slot → Slot → Bool
same_kind_differ (slot.Mark code) (slot.Mark other) = not (code == other)
same_kind_differ (slot.Name name) (slot.Name other) =
    not (str_eq_ignore_ascii_case (name_text name) (name_text other))
same_kind_differ (slot.Register letter) (slot.Register other) = letters_differ letter other
same_kind_differ _ _ = false

-- Do two slots take no common item, as far as this test sees?
abbrev pub slots_differ : Slot → Slot → Bool
slots_differ a b = if slot_kind a == slot_kind b then same_kind_differ a b else true

-- Do no items fit both of two lists of slots?
abbrev pub spellings_differ : List Slot → List Slot → Bool
spellings_differ [] [] = false
spellings_differ [] (b ∷ bs) = true
spellings_differ (a ∷ rest) [] = true
spellings_differ (a ∷ rest) (b ∷ bs) = if slots_differ a b then true else spellings_differ rest bs

-- Do no words fit both of two rows?
abbrev pub rows_differ : Row → Row → Bool
rows_differ row other =
    if str_eq_ignore_ascii_case (mnemonic_text row) (mnemonic_text other)
    then spellings_differ (row_slots row) (row_slots other)
    else true

-- Does a row differ from each of others?
abbrev pub differs_from : Row → List Row → Bool
differs_from row [] = true
differs_from row (other ∷ rows) = if rows_differ row other then differs_from row rows else false

-- Do no words fit two rows of a table?
abbrev pub all_differ : List Row → Bool
all_differ [] = true
all_differ (row ∷ rows) = if differs_from row rows then all_differ rows else false

-- Are two slots the same?
abbrev pub same_slot : Slot → Slot → Bool
same_slot slot.Gap slot.Gap = true
same_slot (slot.Mark code) (slot.Mark other) = code == other
same_slot (slot.Name name) (slot.Name other) = bytes_eq (name_text name) (name_text other)
same_slot (slot.Register letter) (slot.Register other) = letter_code letter == letter_code other
same_slot slot.Number slot.Number = true
same_slot slot.Index slot.Index = true
same_slot slot.Condition slot.Condition = true
same_slot _ _ = false

-- Are two lists of slots the same?
abbrev pub same_slots : List Slot → List Slot → Bool
same_slots [] [] = true
same_slots [] (b ∷ bs) = false
same_slots (a ∷ rest) [] = false
same_slots (a ∷ rest) (b ∷ bs) = if same_slot a b then same_slots rest bs else false

-- Are operands of two shapes spelled alike?
abbrev pub same_spelling : Shape → Shape → Bool
same_spelling a b = same_slots (slots_of slot.Gap a) (slots_of slot.Gap b)

-- Are all operands of one row spelled as those of another?
abbrev pub same_spellings : List Operand → List Operand → Bool
same_spellings [] [] = true
same_spellings [] (b ∷ bs) = false
same_spellings (a ∷ operands) [] = false
same_spellings (a ∷ operands) (b ∷ bs) =
    if same_spelling a.shape b.shape then same_spellings operands bs else false

-- Is an operand of one shape without its number spelled as one of another? Of a base with an
-- offset the base is left, and of an operand without register nothing.
abbrev pub is_left_of : Shape → Shape → Bool
is_left_of (shape.Offset letter) b = same_spelling (shape.Base letter) b
is_left_of a b = if has_register a then false else same_spelling shape.Nothing b

-- Are all operands spelled alike, but that the one at a place stands without its number
-- in the other row?
abbrev pub same_without : ℕ → List Operand → List Operand → Bool
same_without place [] bs = false
same_without place (a ∷ operands) [] = false
same_without zero (a ∷ operands) (b ∷ bs) =
    if is_left_of a.shape b.shape then same_spellings operands bs else false
same_without (suc place) (a ∷ operands) (b ∷ bs) =
    if same_spelling a.shape b.shape then same_without place operands bs else false

-- the operands of a row, the first of them twice, without the last
abbrev pub twice_operands : Row → List Operand
twice_operands row = row.first ∷ row.first ∷ row.second ∷ row.third ∷ row.fourth ∷ []

-- Keeps a row its own spelling?
abbrev pub is_own : Alias → Bool
is_own alias.Own = true
is_own (alias.As form) = false
is_own (alias.Repeat form) = false
is_own (alias.ZeroAs form place) = false

-- Keeps the row that is named by another row's alias its own spelling, and
-- takes it what that alias leaves?
abbrev pub is_kept_by : Row → Alias → Row → Bool
is_kept_by row alias.Own target = true
is_kept_by row (alias.As form) target =
    if is_own target.alias then same_spellings (row_operands row) (row_operands target) else false
is_kept_by row (alias.Repeat form) target =
    if is_own target.alias then same_spellings (twice_operands row) (row_operands target) else false
is_kept_by row (alias.ZeroAs form place) target =
    if is_own target.alias then same_without place (row_operands row) (row_operands target)
    else false

-- the same where the row may be missing
abbrev pub is_kept_at : Row → Alias → Option Row → Bool
is_kept_at row kind None = false
is_kept_at row kind (Some target) = is_kept_by row kind target

-- Is the row that an alias of a row names, if it names one, such a row of the table?
abbrev pub has_kept : List Row → Row → Alias → Bool
has_kept table row alias.Own = true
has_kept table row (alias.As form) = is_kept_at row (alias.As form) (slice_get table form)
has_kept table row (alias.Repeat form) = is_kept_at row (alias.Repeat form) (slice_get table form)
has_kept table row (alias.ZeroAs form place) =
    is_kept_at row (alias.ZeroAs form place) (slice_get table form)

-- Names each of some rows a row of the table that keeps its spelling?
abbrev pub all_kept : List Row → List Row → Bool
all_kept table [] = true
all_kept table (row ∷ rows) = if has_kept table row row.alias then all_kept table rows else false

-- Is a number printed without `#` for a shape? Then it can't be negative.
abbrev pub is_indexed : Shape → Bool
is_indexed shape.Nothing = false
is_indexed (shape.Register letter) = false
is_indexed shape.Number = false
is_indexed shape.Condition = false
is_indexed (shape.Shift name) = false
is_indexed (shape.Lanes name) = false
is_indexed (shape.Lane name) = true
is_indexed (shape.Base letter) = false
is_indexed (shape.Offset letter) = false
is_indexed (shape.Before letter) = false

-- Are the numbers that an operand takes of those that spellings have?
abbrev pub is_spelled : Operand → Bool
is_spelled operand =
    if nat_lt (unsigned_abs operand.range.least) (2 ^ 32) then
    (if nat_lt (unsigned_abs operand.range.most) (2 ^ 32) then
    (if is_indexed operand.shape then int_le (pos 0) operand.range.least else true)
    else false)
    else false

-- Are those of all operands?
abbrev pub all_spelled : List Operand → Bool
all_spelled [] = true
all_spelled (operand ∷ operands) = if is_spelled operand then all_spelled operands else false

-- how many operands are found among the inputs
abbrev pub count_ins : List Operand → ℕ
count_ins [] = 0
count_ins (operand ∷ operands) = one_if (among_ins operand) + count_ins operands

-- how many among the outputs
abbrev pub count_outs : List Operand → ℕ
count_outs [] = 0
count_outs (operand ∷ operands) = one_if (among_outs operand) + count_outs operands

-- how many of them have numbers
abbrev pub count_numbers : List Operand → ℕ
count_numbers [] = 0
count_numbers (operand ∷ operands) = one_if (has_number operand.shape) + count_numbers operands

-- Is a row's mnemonic a word, are its numbers spelled, and are there places
-- for all that its operands have?
abbrev pub is_row : Row → Bool
is_row row =
    if is_word_text (mnemonic_text row) then
    (if all_spelled (row_operands row) then
    (if nat_le (count_ins (row_operands row)) 4 then
    (if nat_le (count_outs (row_operands row)) 3 then nat_le (count_numbers (row_operands row)) 3
    else false)
    else false)
    else false)
    else false

-- Do all rows pass this test?
abbrev pub all_rows : List Row → Bool
all_rows [] = true
all_rows (row ∷ rows) = if is_row row then all_rows rows else false

-- Do no words fit two rows, and is what is printed of an instruction that
-- was read read as the same again?
abbrev pub is_table : List Row → Bool
is_table table =
    if all_differ table then (if all_kept table table then all_rows table else false) else false

-- Does an operand begin with another thing than a bracket? Only then the blank before it counts.
abbrev pub is_led : Shape → Bool
is_led shape.Nothing = true
is_led (shape.Register letter) = true
is_led shape.Number = true
is_led shape.Condition = true
is_led (shape.Shift name) = true
is_led (shape.Lanes name) = true
is_led (shape.Lane name) = true
is_led (shape.Base letter) = false
is_led (shape.Offset letter) = false
is_led (shape.Before letter) = false

-- Does the first operand of each row begin so?
abbrev pub all_led : List Row → Bool
all_led [] = true
all_led (row ∷ rows) = if is_led row.first.shape then all_led rows else false

-- Can a table be read and printed: it is one, and each row's first operand stands behind a blank?
abbrev pub is_readable : List Row → Bool
is_readable table = if is_table table then all_led table else false

-- the registers that are spelled with a letter
abbrev pub letter_registers : Letter → RegSet
letter_registers letter.X = record { bits = 2 ^ 32 - 1 + 2 ^ 65 }
letter_registers letter.W = record { bits = 2 ^ 32 - 1 }
letter_registers letter.V = record { bits = (2 ^ 32 - 1) * 2 ^ 32 }
letter_registers letter.Q = record { bits = (2 ^ 32 - 1) * 2 ^ 32 }
letter_registers letter.D = record { bits = (2 ^ 32 - 1) * 2 ^ 32 }
letter_registers letter.S = record { bits = (2 ^ 32 - 1) * 2 ^ 32 }
letter_registers letter.R = record { bits = 2 ^ 13 - 1 + 2 ^ 14 + 2 ^ 65 }

-- Is each register of a set one of another set?
abbrev pub is_within : RegSet → RegSet → Bool
is_within set other = bit_or set.bits other.bits == other.bits

-- Are the registers of an operand's class, if an operand of its shape has a
-- register, ones that its letter spells?
abbrev pub spells_class : Shape → RegSet → Bool
spells_class shape.Nothing set = true
spells_class (shape.Register letter) set = is_within set (letter_registers letter)
spells_class shape.Number set = true
spells_class shape.Condition set = true
spells_class (shape.Shift name) set = true
spells_class (shape.Lanes name) set = is_within set (letter_registers letter.V)
spells_class (shape.Lane name) set = is_within set (letter_registers letter.V)
spells_class (shape.Base letter) set = is_within set (letter_registers letter)
spells_class (shape.Offset letter) set = is_within set (letter_registers letter)
spells_class (shape.Before letter) set = is_within set (letter_registers letter)

-- Is this so of all operands?
abbrev pub spell_classes : List Operand → Bool
spell_classes [] = true
spell_classes (operand ∷ operands) =
    if spells_class operand.shape operand.class then spell_classes operands else false
