-- The items that a printed instruction gives: one for each slot.
use Rattle.std.specs.Prelude.{◌≡◌, ℕ, ℤ, pos, ◌<◌, ◌^◌, unsigned_abs, true, false, if◌then◌else◌, List, [], ◌∷◌, ◌++◌, unwrap_or, Option, None, Some}
use Rattle.std.specs.List.{list_all}
use Rattle.sl_model.specs.declared.register.Reg.{Reg}
use Rattle.sl_isa.specs.Symbols.{Pair}
use Rattle.form_table.specs.Items.{Item, blank, mark, word, symbol, numeral}
use Rattle.form_table.specs.Rows.{name_text, row_operands, mnemonic_text, slots_of}
use Rattle.form_table.specs.Spells.{item_register, condition_of, comma}
use Rattle.form_table.specs.Printed.{register_name, condition_text}
use Rattle.form_table.specs.Symbols.{is_word_text}
use Rattle.form_table.specs.declared.rows.Letter.{Letter}
use Rattle.form_table.specs.declared.rows.Slot.{Slot}
use Rattle.form_table.specs.declared.rows.Slot.TheVariants as slot
use Rattle.form_table.specs.declared.rows.Operand.{Operand}
use Rattle.form_table.specs.declared.rows.Row.{Row}
use Rattle.form_table.specs.declared.spells.Held.{Held}
use Rattle.form_table.proofs.Names.{knows_held}

-- the item of a register
abbrev pub register_item : Letter → Option Reg → Item
register_item letter None = word []
register_item letter (Some r) = if r.symbolic then symbol letter r.number else word (register_name letter r)

-- the item of a slot
unfoldable pub slot_item : Held → Slot → Item
slot_item held slot.Gap = blank
slot_item held (slot.Mark code) = mark code
slot_item held (slot.Name name) = word (name_text name)
slot_item held (slot.Register letter) = register_item letter held.register
slot_item held slot.Number = numeral (unwrap_or held.number (pos 0))
slot_item held slot.Index = numeral (unwrap_or held.number (pos 0))
slot_item held slot.Condition = word (condition_text held.number)

unfoldable pub slot_items : Held → List Slot → List Item
slot_items held [] = []
slot_items held (slot ∷ slots) = slot_item held slot ∷ slot_items held slots

-- those of operands, the first of them behind a slot and each other one behind a comma
unfoldable pub operand_items : Slot → List Operand → List Held → List Item
operand_items lead [] helds = []
operand_items lead (operand ∷ operands) [] = []
operand_items lead (operand ∷ operands) (held ∷ helds) = slot_items held (slots_of lead operand.shape) ++ operand_items comma operands helds

-- There is a register, which is spelled so that it is read as itself.
pub record ShowsRegister (letter : Letter) (o : Option Reg) : Type 0 where
  pub register : Reg
  pub is : o ≡ Some register
  pub named : item_register letter (register_item letter (Some register)) ≡ Some register
  pub small : register.symbolic ≡ false → register.number < 32

-- There is a number, which spellings can have.
pub record ShowsNumber (o : Option ℤ) : Type 0 where
  pub number : ℤ
  pub is : o ≡ Some number
  pub small : unsigned_abs number < 2 ^ 32

-- There is one that isn't negative.
pub record ShowsIndex (o : Option ℤ) : Type 0 where
  pub number : ℕ
  pub is : o ≡ Some (pos number)
  pub small : number < 2 ^ 32

-- There is the number of a condition, which is named so that it is read as itself.
pub record ShowsCondition (o : Option ℤ) : Type 0 where
  pub number : ℕ
  pub is : o ≡ Some (pos number)
  pub named : condition_of (condition_text (Some (pos number))) ≡ Some number
  pub small : number < 14

-- An operand has what a slot prints.
abbrev pub Shows : Held → Slot → Type 0
Shows held slot.Gap = Unit {0}
Shows held (slot.Mark code) = Unit {0}
Shows held (slot.Name name) = Unit {0}
Shows held (slot.Register letter) = ShowsRegister letter held.register
Shows held slot.Number = ShowsNumber held.number
Shows held slot.Index = ShowsIndex held.number
Shows held slot.Condition = ShowsCondition held.number

abbrev pub ShowsSlots : Held → List Slot → Type 0
ShowsSlots held [] = Unit {0}
ShowsSlots held (slot ∷ slots) = Shows held slot × ShowsSlots held slots

-- Operands have what their slots print.
abbrev pub ShowsOperands : Slot → List Operand → List Held → Type 0
ShowsOperands lead [] [] = Unit {0}
ShowsOperands lead [] (held ∷ helds) = ⊥
ShowsOperands lead (operand ∷ operands) [] = ⊥
ShowsOperands lead (operand ∷ operands) (held ∷ helds) = ShowsSlots held (slots_of lead operand.shape) × ShowsOperands comma operands helds

-- A row that can be printed with what its operands hold, where symbolic registers have the names of these pairs.
pub record IsPrintable (pairs : List Pair) (row : Row) (helds : List Held) : Type 0 where
  pub mnemonic : is_word_text (mnemonic_text row) ≡ true
  pub operands : ShowsOperands slot.Gap (row_operands row) helds
  pub known : list_all (knows_held pairs) helds ≡ true
