-- What the operands of a row hold where its slots take the items of a line. Source: the names of
-- registers and conditions are those of DDI 0487, C1.2, and where they are spelled with `r` those
-- of DDI 0403; letters of either case, as GNU as takes them.
use Rattle.std.specs.Prelude.{ℕ, ℤ, pos, ◌+◌, ◌==◌, Bool, true, false, nat_lt, List, [], ◌∷◌, codes, Option, None, Some, if◌then◌else◌}
use Rattle.std.specs.Char.{to_ascii_lowercase}
use Rattle.std.specs.Str.{str_eq_ignore_ascii_case}
use Rattle.sl_model.specs.declared.register.Bank.{Bank}
use Rattle.sl_model.specs.declared.register.Bank.TheVariants.{General, Vector, Stack}
use Rattle.sl_model.specs.declared.register.Reg.{Reg}
use Rattle.sl_model.specs.OptionSteps.{◌>>=◌}
use Rattle.form_table.specs.Numerals.{decimal_value}
use Rattle.form_table.specs.Symbols.{letter_code, letter_bank}
use Rattle.form_table.specs.Items.{Item, blank, mark, word, symbol, numeral}
use Rattle.form_table.specs.Rows.{name_text, slots_of}
use Rattle.form_table.specs.declared.rows.Letter.{Letter}
use Rattle.form_table.specs.declared.rows.Letter.TheVariants as letter
use Rattle.form_table.specs.declared.rows.Slot.{Slot}
use Rattle.form_table.specs.declared.rows.Slot.TheVariants as slot
use Rattle.form_table.specs.declared.rows.Row.{Row}
use Rattle.form_table.specs.declared.spells.Held.{Held}

-- a register of the machine
abbrev pub machine_reg : Bank → ℕ → Reg
machine_reg bank n = record { bank = bank; symbolic = false; number = n }

-- the register with a number, if it is below the count
abbrev pub below_count : Bank → ℕ → ℕ → Option Reg
below_count bank count n = if nat_lt n count then Some (machine_reg bank n) else None

-- a register by its letter and its number
unfoldable pub numbered : Bank → ℕ → ℕ → List ℕ → Option Reg
numbered bank letter count [] = None
numbered bank letter count (c ∷ digits) = if to_ascii_lowercase c == letter then (do
  n ← decimal_value digits
  below_count bank count n) else None

-- r13 is no name
abbrev pub unless_r13 : Option Reg → Option Reg
unless_r13 None = None
unless_r13 (Some r) = if r.number == 13 then None else Some r

-- the register that a word names where registers are spelled with a letter
unfoldable pub register_of : Letter → List ℕ → Option Reg
register_of letter.X text =
    if str_eq_ignore_ascii_case text (codes "xzr") then Some (machine_reg General 31)
    else (if str_eq_ignore_ascii_case text (codes "sp") then Some (machine_reg Stack 0)
    else numbered General 120 31 text)
register_of letter.W text =
    if str_eq_ignore_ascii_case text (codes "wzr") then Some (machine_reg General 31)
    else numbered General 119 31 text
register_of letter.V text = numbered Vector 118 32 text
register_of letter.Q text = numbered Vector 113 32 text
register_of letter.D text = numbered Vector 100 32 text
register_of letter.S text = numbered Vector 115 32 text
register_of letter.R text =
    if str_eq_ignore_ascii_case text (codes "lr") then Some (machine_reg General 14)
    else (if str_eq_ignore_ascii_case text (codes "sp") then Some (machine_reg Stack 0)
    else unless_r13 (numbered General 114 15 text))

-- the conditions on flags by their numbers: each odd one is the opposite of the one before it
abbrev pub condition_names : List (List ℕ)
condition_names =
    codes "eq" ∷ codes "ne" ∷ codes "cs" ∷ codes "cc" ∷ codes "mi" ∷ codes "pl" ∷ codes "vs"
    ∷ codes "vc" ∷ codes "hi" ∷ codes "ls"
    ∷ codes "ge" ∷ codes "lt" ∷ codes "gt" ∷ codes "le" ∷ []

-- the place of a name among others, counted from 0, in letters of either case
unfoldable pub name_place : List (List ℕ) → List ℕ → Option ℕ
name_place [] text = None
name_place (name ∷ names) text = if str_eq_ignore_ascii_case text name then Some 0 else (do
  place ← name_place names text
  Some (place + 1))

-- the number of a condition; two of them have a second name
unfoldable pub condition_of : List ℕ → Option ℕ
condition_of text =
    if str_eq_ignore_ascii_case text (codes "hs") then Some 2
    else (if str_eq_ignore_ascii_case text (codes "lo") then Some 3
    else name_place condition_names text)

-- an operand without register and number
abbrev pub empty : Held
empty = record { register = None; number = None }

-- the text of an item that is a word
abbrev pub word_in : Item → Option (List ℕ)
word_in blank = None
word_in (mark c) = None
word_in (word text) = Some text
word_in (symbol letter n) = None
word_in (numeral n) = None

-- the number of an item that is one
abbrev pub number_in : Item → Option ℤ
number_in blank = None
number_in (mark c) = None
number_in (word text) = None
number_in (symbol letter n) = None
number_in (numeral n) = Some n

-- Is an item a blank?
abbrev pub is_gap : Item → Bool
is_gap blank = true
is_gap (mark c) = false
is_gap (word text) = false
is_gap (symbol letter n) = false
is_gap (numeral n) = false

-- Is an item the mark with this code?
abbrev pub is_mark_of : ℕ → Item → Bool
is_mark_of code blank = false
is_mark_of code (mark c) = c == code
is_mark_of code (word text) = false
is_mark_of code (symbol letter n) = false
is_mark_of code (numeral n) = false

-- a symbolic register that is spelled with a letter
abbrev pub symbolic_reg : Letter → ℕ → Reg
symbolic_reg letter n = record { bank = letter_bank letter; symbolic = true; number = n }

-- the register that an item is, where registers are spelled with a letter
unfoldable pub item_register : Letter → Item → Option Reg
item_register letter blank = None
item_register letter (mark c) = None
item_register letter (word text) = register_of letter text
item_register letter (symbol other n) =
    if letter_code other == letter_code letter then Some (symbolic_reg letter n) else None
item_register letter (numeral n) = None

-- what an operand holds with an item in a slot, if the slot takes the item
unfoldable pub put : Held → Slot → Item → Option Held
put held slot.Gap item = if is_gap item then Some held else None
put held (slot.Mark code) item = if is_mark_of code item then Some held else None
put held (slot.Name name) item = do
  text ← word_in item
  if str_eq_ignore_ascii_case text (name_text name) then Some held else None
put held (slot.Register letter) item = do
  r ← item_register letter item
  Some (record { register = Some r; number = held.number })
put held slot.Number item = do
  n ← number_in item
  Some (record { register = held.register; number = Some n })
put held slot.Index item = do
  n ← number_in item
  Some (record { register = held.register; number = Some n })
put held slot.Condition item = do
  text ← word_in item
  n ← condition_of text
  Some (record { register = held.register; number = Some (pos n) })

-- what an operand holds, and the items behind it
pub record Taken : Type 0 where
  pub held : Held
  pub rest : List Item

-- the slots of an operand take the first items, one each
unfoldable pub front : Held → List Slot → List Item → Option Taken
front held [] items = Some (record { held = held; rest = items })
front held (slot ∷ slots) [] = None
front held (slot ∷ slots) (item ∷ items) = do
  next ← put held slot item
  front next slots items

-- the comma before an operand that isn't the first
abbrev pub comma : Slot
comma = slot.Mark 44

-- nothing is left
abbrev pub ended : List Item → List Held → Option (List Held)
ended [] helds = Some helds
ended (item ∷ items) helds = None

-- what the operands of a row hold, if its slots take the items, one each
unfoldable pub fill : Row → List Item → Option (List Held)
fill row items = do
  first ← front empty (slots_of slot.Gap row.first.shape) items
  second ← front empty (slots_of comma row.second.shape) first.rest
  third ← front empty (slots_of comma row.third.shape) second.rest
  fourth ← front empty (slots_of comma row.fourth.shape) third.rest
  fifth ← front empty (slots_of comma row.fifth.shape) fourth.rest
  ended fifth.rest (first.held ∷ second.held ∷ third.held ∷ fourth.held ∷ fifth.held ∷ [])
