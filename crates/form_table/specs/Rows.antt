-- The rows of instruction tables: how operands are spelled, as lists of slots. Source:
-- the words and operands of Arm's assembler language, DDI 0487, C1.2; rows and slots
-- are this project's own format.
use Rattle.std.specs.Prelude.{ℕ, Bool, not, ◌==◌, List, [], ◌∷◌, ◌++◌, codes, take}
use Rattle.std.specs.List.{prefix_len}
use Rattle.form_table.specs.declared.rows.Letter.TheVariants.{V}
use Rattle.form_table.specs.declared.rows.Name.{Name}
use Rattle.form_table.specs.declared.rows.Name.TheVariants.{Lsl, Lsr, Asr, Ror, Lanes8b, Lanes16b, Lanes4h, Lanes8h, Lanes2s, Lanes4s, Lanes2d, LaneB, LaneH, LaneS, LaneD}
use Rattle.form_table.specs.declared.rows.Slot.{Slot}
use Rattle.form_table.specs.declared.rows.Slot.TheVariants as slot
use Rattle.form_table.specs.declared.rows.Shape.{Shape}
use Rattle.form_table.specs.declared.rows.Shape.TheVariants as shape
use Rattle.form_table.specs.declared.rows.Operand.{Operand}
use Rattle.form_table.specs.declared.rows.Row.{Row}

-- the words of spellings
abbrev pub name_text : Name → List ℕ
name_text Lsl = codes "lsl"
name_text Lsr = codes "lsr"
name_text Asr = codes "asr"
name_text Ror = codes "ror"
name_text Lanes8b = codes "8b"
name_text Lanes16b = codes "16b"
name_text Lanes4h = codes "4h"
name_text Lanes8h = codes "8h"
name_text Lanes2s = codes "2s"
name_text Lanes4s = codes "4s"
name_text Lanes2d = codes "2d"
name_text LaneB = codes "b"
name_text LaneH = codes "h"
name_text LaneS = codes "s"
name_text LaneD = codes "d"

-- the operands of a row in their order
abbrev pub row_operands : Row → List Operand
row_operands row = row.first ∷ row.second ∷ row.third ∷ row.fourth ∷ row.fifth ∷ []

-- Is a byte of a mnemonic a letter of it, and not one of the zeros behind it?
abbrev pub is_letter : ℕ → Bool
is_letter c = not (c == 0)

-- a row's mnemonic, without the zeros behind it
unfoldable pub mnemonic_text : Row → List ℕ
mnemonic_text row = take (prefix_len is_letter row.mnemonic) row.mnemonic

-- the slots of an operand's spelling behind what leads to it: none where there is no such operand
abbrev pub slots_of : Slot → Shape → List Slot
slots_of lead shape.Nothing = []
slots_of lead (shape.Register letter) = lead ∷ slot.Register letter ∷ []
slots_of lead shape.Number = lead ∷ slot.Number ∷ []
slots_of lead shape.Condition = lead ∷ slot.Condition ∷ []
slots_of lead (shape.Shift name) = lead ∷ slot.Name name ∷ slot.Gap ∷ slot.Number ∷ []
slots_of lead (shape.Lanes name) = lead ∷ slot.Register V ∷ slot.Mark 46 ∷ slot.Name name ∷ []
slots_of lead (shape.Lane name) =
    lead ∷ slot.Register V ∷ slot.Mark 46 ∷ slot.Name name ∷ slot.Mark 91 ∷ slot.Index
    ∷ slot.Mark 93 ∷ []
slots_of lead (shape.Base letter) = lead ∷ slot.Mark 91 ∷ slot.Register letter ∷ slot.Mark 93 ∷ []
slots_of lead (shape.Offset letter) =
    lead ∷ slot.Mark 91 ∷ slot.Register letter ∷ slot.Mark 44 ∷ slot.Number ∷ slot.Mark 93 ∷ []
slots_of lead (shape.Before letter) =
    lead ∷ slot.Mark 91 ∷ slot.Register letter ∷ slot.Mark 44 ∷ slot.Number ∷ slot.Mark 93
    ∷ slot.Mark 33 ∷ []

-- the slots of a row's operands: a blank stands before the first one, and a comma before each other
abbrev pub row_slots : Row → List Slot
row_slots row =
    slots_of slot.Gap row.first.shape
    ++ (slots_of (slot.Mark 44) row.second.shape ++ (slots_of (slot.Mark 44) row.third.shape
    ++ (slots_of (slot.Mark 44) row.fourth.shape ++ slots_of (slot.Mark 44) row.fifth.shape)))
