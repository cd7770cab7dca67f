-- The one printed spelling of an instruction, over any table of rows. Source: this
-- project's own choice among the spellings that GNU as takes: lower case, `#` before a
-- number, a blank behind each comma.
use Rattle.std.specs.Prelude.{ℕ, ℤ, pos, ◌+◌, ◌==◌, Bool, true, false, List, [], ◌∷◌, ◌++◌, codes, slice_get, slice_index_or, unsigned_abs, Option, None, Some, if◌then◌else◌}
use Rattle.std.specs.Fmt.{decimal, signed_decimal}
use Rattle.sl_model.specs.declared.register.Bank.{Bank}
use Rattle.sl_model.specs.declared.register.Bank.TheVariants as bank
use Rattle.sl_model.specs.declared.register.Reg.{Reg}
use Rattle.sl_model.specs.declared.instruction.Instr.{Instr}
use Rattle.sl_isa.specs.Symbols.{Pair}
use Rattle.form_table.specs.Rows.{name_text, row_operands, mnemonic_text, slots_of}
use Rattle.form_table.specs.Symbols.{letter_code}
use Rattle.form_table.specs.Spells.{comma, condition_names}
use Rattle.form_table.specs.Reads.{is_picked}
use Rattle.form_table.specs.declared.rows.Letter.{Letter}
use Rattle.form_table.specs.declared.rows.Letter.TheVariants as letter
use Rattle.form_table.specs.declared.rows.Slot.{Slot}
use Rattle.form_table.specs.declared.rows.Slot.TheVariants as slot
use Rattle.form_table.specs.declared.rows.Shape.{Shape}
use Rattle.form_table.specs.declared.rows.Shape.TheVariants as shape
use Rattle.form_table.specs.declared.rows.Operand.{Operand}
use Rattle.form_table.specs.declared.rows.Row.{Row}
use Rattle.form_table.specs.declared.spells.Held.{Held}
use Rattle.form_table.specs.declared.reader.Pick.TheVariants as pick

-- Is a register the stack pointer?
abbrev pub is_stack : Bank → Bool
is_stack bank.General = false
is_stack bank.Vector = false
is_stack bank.Flags = false
is_stack bank.Stack = true

-- a register of the machine that is spelled with a letter, in lower case
unfoldable pub register_name : Letter → Reg → List ℕ
register_name letter.X r =
    if is_stack r.bank then codes "sp"
    else (if r.number == 31 then codes "xzr" else 120 ∷ decimal r.number)
register_name letter.W r = if r.number == 31 then codes "wzr" else 119 ∷ decimal r.number
register_name letter.V r = 118 ∷ decimal r.number
register_name letter.Q r = 113 ∷ decimal r.number
register_name letter.D r = 100 ∷ decimal r.number
register_name letter.S r = 115 ∷ decimal r.number
register_name letter.R r =
    if is_stack r.bank then codes "sp"
    else (if r.number == 14 then codes "lr" else 114 ∷ decimal r.number)

-- a symbolic register with the name of a pair, if there is the pair
unfoldable pub symbol_name : Letter → Option Pair → List ℕ
symbol_name letter None = []
symbol_name letter (Some pair) = letter_code letter ∷ codes "<" ++ (pair.1 ++ codes ">")

-- a register with the names of these pairs
abbrev pub named_register : List Pair → Letter → Reg → List ℕ
named_register pairs letter r =
    if r.symbolic
    then symbol_name letter (slice_get pairs r.number)
    else register_name letter r

-- what is printed of the register that an operand holds, if it holds one
abbrev pub register_text : List Pair → Letter → Option Reg → List ℕ
register_text pairs letter None = []
register_text pairs letter (Some r) = named_register pairs letter r

-- what is printed of its number, if it holds one
abbrev pub number_text : Option ℤ → List ℕ
number_text None = []
number_text (Some n) = signed_decimal n

-- the name of a condition
abbrev pub condition_text : Option ℤ → List ℕ
condition_text None = []
condition_text (Some n) = slice_index_or condition_names (unsigned_abs n) []

-- what is printed for a slot of an operand: a blank stands behind each comma
unfoldable pub slot_text : List Pair → Held → Slot → List ℕ
slot_text pairs held slot.Gap = codes " "
slot_text pairs held (slot.Mark code) = if code == 44 then codes ", " else code ∷ []
slot_text pairs held (slot.Name name) = name_text name
slot_text pairs held (slot.Register letter) = register_text pairs letter held.register
slot_text pairs held slot.Number = codes "#" ++ number_text held.number
slot_text pairs held slot.Index = number_text held.number
slot_text pairs held slot.Condition = condition_text held.number

-- for slots, one behind the other
unfoldable pub slots_text : List Pair → Held → List Slot → List ℕ
slots_text pairs held [] = []
slots_text pairs held (slot ∷ slots) = slot_text pairs held slot ++ slots_text pairs held slots

-- Has an operand of a shape a register?
abbrev pub has_register : Shape → Bool
has_register shape.Nothing = false
has_register (shape.Register letter) = true
has_register shape.Number = false
has_register shape.Condition = false
has_register (shape.Shift name) = false
has_register (shape.Lanes name) = true
has_register (shape.Lane name) = true
has_register (shape.Base letter) = true
has_register (shape.Offset letter) = true
has_register (shape.Before letter) = true

-- Has it a number?
abbrev pub has_number : Shape → Bool
has_number shape.Nothing = false
has_number (shape.Register letter) = false
has_number shape.Number = true
has_number shape.Condition = true
has_number (shape.Shift name) = true
has_number (shape.Lanes name) = false
has_number (shape.Lane name) = true
has_number (shape.Base letter) = false
has_number (shape.Offset letter) = true
has_number (shape.Before letter) = true

-- 1 where something holds, else 0
abbrev pub one_if : Bool → ℕ
one_if false = 0
one_if true = 1

-- Is an operand's register found among the outputs?
abbrev pub among_outs : Operand → Bool
among_outs operand =
    if has_register operand.shape then is_picked pick.Written operand.role else false

-- Is it found among the inputs?
abbrev pub among_ins : Operand → Bool
among_ins operand = if has_register operand.shape then is_picked pick.Read operand.role else false

-- the register of an operand
abbrev pub register_in : Instr → Operand → ℕ → ℕ → Option Reg
register_in i operand ins outs =
    if among_outs operand then slice_index_or i.outs outs None
    else (if among_ins operand then slice_index_or i.ins ins None else None)

-- its number
abbrev pub number_in : Instr → Operand → ℕ → Option ℤ
number_in i operand numbers =
    if has_number operand.shape then Some (slice_index_or i.imms numbers (pos 0)) else None

-- what an operand of an instruction holds, where so many inputs,
-- outputs and numbers stand before it
unfoldable pub held_in : Instr → Operand → ℕ → ℕ → ℕ → Held
held_in i operand ins outs numbers = record {
  register = register_in i operand ins outs;
  number = number_in i operand numbers;
}

-- what the operands of an instruction hold
unfoldable pub helds_in : Instr → List Operand → ℕ → ℕ → ℕ → List Held
helds_in i [] ins outs numbers = []
helds_in i (operand ∷ operands) ins outs numbers =
    held_in i operand ins outs numbers
    ∷ helds_in i operands (ins + one_if (among_ins operand)) (outs + one_if (among_outs operand))
    (numbers + one_if (has_number operand.shape))

-- what is printed for operands that hold these, the first of them behind a slot
-- and each other one behind a comma
unfoldable pub operands_text : List Pair → Slot → List Operand → List Held → List ℕ
operands_text pairs lead [] helds = []
operands_text pairs lead (operand ∷ operands) [] = []
operands_text pairs lead (operand ∷ operands) (held ∷ helds) =
    slots_text pairs held (slots_of lead operand.shape) ++ operands_text pairs comma operands helds

-- what is printed for a row whose operands hold these
unfoldable pub row_text : List Pair → Row → List Held → List ℕ
row_text pairs row helds =
    mnemonic_text row ++ operands_text pairs slot.Gap (row_operands row) helds

-- an instruction as it is printed by a row, if there is one
abbrev pub row_printed : List Pair → Option Row → Instr → List ℕ
row_printed pairs None i = []
row_printed pairs (Some row) i = row_text pairs row (helds_in i (row_operands row) 0 0 0)

-- an instruction as it is printed with the names of these pairs, by the row of its form
unfoldable pub printed : List Row → List Pair → Instr → List ℕ
printed table pairs i = row_printed pairs (slice_get table i.form) i
