-- What is printed for an instruction, as one list of slots with what each of them prints.
use Rattle.std.proofs.Common.{◌≡◌, ◌∙◌, ap, refl, ℕ, ◌<◌, ◌^◌, ◌==◌, Bool, true, false, cond, List, [], ◌∷◌, ◌++◌, append_assoc, sym, subst, ◌&&◌, arith}
use Rattle.std.specs.Prelude.{ℤ, pos, negsuc, unsigned_abs, slice_get, Option, Some, None}
use Rattle.std.specs.List.{list_all}
use Rattle.sl_model.specs.declared.register.Reg.{Reg}
use Rattle.form_table.specs.Tables.{is_led}
use Rattle.sl_isa.specs.Symbols.{Pair}
use Rattle.form_table.specs.Items.{Item, word, symbol}
use Rattle.form_table.specs.Rows.{row_operands, slots_of}
use Rattle.form_table.specs.Spells.{symbolic_reg, item_register, comma}
use Rattle.form_table.specs.Symbols.{letter_code, letter_bank, is_word_text}
use Rattle.form_table.specs.Printed.{register_name, condition_text, slot_text, slots_text, operands_text}
use Rattle.form_table.specs.declared.rows.Letter.{Letter}
use Rattle.form_table.specs.declared.rows.Slot.{Slot}
use Rattle.form_table.specs.declared.rows.Slot.TheVariants as slot
use Rattle.form_table.specs.declared.rows.Shape.{Shape}
use Rattle.form_table.specs.declared.rows.Shape.TheVariants as shape
use Rattle.form_table.specs.declared.rows.Operand.{Operand}
use Rattle.form_table.specs.declared.rows.Row.{Row}
use Rattle.form_table.specs.declared.spells.Held.{Held}
use Rattle.form_table.proofs.Names.{knows_pair, knows_register, knows_optional, knows_held, HasName, name_of_number}
use Rattle.form_table.proofs.SlotItems.{register_item, slot_item, slot_items, operand_items, Shows, ShowsSlots, ShowsOperands, IsPrintable}
use Rattle.form_table.proofs.PrintedNames.{register_named, condition_named}
use Rattle.std.proofs.lemmas.Bool.{and_parts}
use Rattle.std.proofs.lemmas.Option.{cond_some}

-- ---- slots with what each holds

pub record Piece : Type 0 where
  pub held : Held
  pub slot : Slot

abbrev pub piece : Held → Slot → Piece
piece held slot = record { held = held; slot = slot }

abbrev pub pieces_of : Held → List Slot → List Piece
pieces_of held [] = []
pieces_of held (s ∷ slots) = piece held s ∷ pieces_of held slots

abbrev pub row_pieces : Slot → List Operand → List Held → List Piece
row_pieces lead [] helds = []
row_pieces lead (operand ∷ operands) [] = []
row_pieces lead (operand ∷ operands) (held ∷ helds) = pieces_of held (slots_of lead operand.shape) ++ row_pieces comma operands helds

abbrev pub pieces_text : List Pair → List Piece → List ℕ
pieces_text pairs [] = []
pieces_text pairs (p ∷ ps) = slot_text pairs p.held p.slot ++ pieces_text pairs ps

abbrev pub pieces_items : List Piece → List Item
pieces_items [] = []
pieces_items (p ∷ ps) = slot_item p.held p.slot ∷ pieces_items ps

text_append : (pairs : List Pair) (ps qs : List Piece) → pieces_text pairs (ps ++ qs) ≡ pieces_text pairs ps ++ pieces_text pairs qs
text_append pairs [] qs = refl
text_append pairs (p ∷ ps) qs =
    ap (λ text. slot_text pairs p.held p.slot ++ text) (text_append pairs ps qs)
    ∙ sym (append_assoc (slot_text pairs p.held p.slot) (pieces_text pairs ps) (pieces_text pairs qs))

items_append : (ps qs : List Piece) → pieces_items (ps ++ qs) ≡ pieces_items ps ++ pieces_items qs
items_append [] qs = refl
items_append (p ∷ ps) qs = ap (λ items. slot_item p.held p.slot ∷ items) (items_append ps qs)

slots_are : (pairs : List Pair) (held : Held) (slots : List Slot) → slots_text pairs held slots ≡ pieces_text pairs (pieces_of held slots)
unfolding slots_text
slots_are pairs held [] = refl
slots_are pairs held (s ∷ slots) = ap (λ text. slot_text pairs held s ++ text) (slots_are pairs held slots)

slot_items_are : (held : Held) (slots : List Slot) → slot_items held slots ≡ pieces_items (pieces_of held slots)
unfolding slot_items
slot_items_are held [] = refl
slot_items_are held (s ∷ slots) = ap (λ items. slot_item held s ∷ items) (slot_items_are held slots)

pub text_is : (pairs : List Pair) (lead : Slot) (operands : List Operand) (helds : List Held) →
    operands_text pairs lead operands helds ≡ pieces_text pairs (row_pieces lead operands helds)
unfolding operands_text
text_is pairs lead [] helds = refl
text_is pairs lead (operand ∷ operands) [] = refl
text_is pairs lead (operand ∷ operands) (held ∷ helds) =
    ap (λ text. text ++ operands_text pairs comma operands helds) (slots_are pairs held (slots_of lead operand.shape))
    ∙ (ap (λ text. pieces_text pairs (pieces_of held (slots_of lead operand.shape)) ++ text) (text_is pairs comma operands helds)
    ∙ sym (text_append pairs (pieces_of held (slots_of lead operand.shape)) (row_pieces comma operands helds)))

pub items_are : (lead : Slot) (operands : List Operand) (helds : List Held) →
    operand_items lead operands helds ≡ pieces_items (row_pieces lead operands helds)
unfolding operand_items
items_are lead [] helds = refl
items_are lead (operand ∷ operands) [] = refl
items_are lead (operand ∷ operands) (held ∷ helds) =
    ap (λ items. items ++ operand_items comma operands helds) (slot_items_are held (slots_of lead operand.shape))
    ∙ (ap (λ items. pieces_items (pieces_of held (slots_of lead operand.shape)) ++ items) (items_are comma operands helds)
    ∙ sym (items_append (pieces_of held (slots_of lead operand.shape)) (row_pieces comma operands helds)))

-- ---- which slot may stand behind which

-- What stands before a place: a word or a number, a mark, or a blank.
pub data Before : Type 0 where
  name : Before
  mark : Before
  blank : Before

abbrev pub behind : Slot → Before
behind slot.Gap = blank
behind (slot.Mark code) = mark
behind (slot.Name n) = name
behind (slot.Register letter) = name
behind slot.Number = name
behind slot.Index = name
behind slot.Condition = name

abbrev pub may_follow : Before → Before → Bool
may_follow name name = false
may_follow name mark = true
may_follow name blank = true
may_follow mark name = true
may_follow mark mark = true
may_follow mark blank = false
may_follow blank name = true
may_follow blank mark = false
may_follow blank blank = false

-- May nothing stand behind it?
abbrev pub may_end : Before → Bool
may_end name = true
may_end mark = true
may_end blank = false

abbrev pub flows : Before → List Piece → Bool
flows before [] = may_end before
flows before (p ∷ ps) = cond (may_follow before (behind p.slot)) (flows (behind p.slot) ps) false

-- a mark that is printed
abbrev pub is_printed_mark : ℕ → Bool
is_printed_mark code = cond (code == 46) true (cond (code == 44) true (cond (code == 91) true (cond (code == 93) true (code == 33))))

-- a number that is read again
abbrev pub IsSmall : Option ℤ → Type 0
IsSmall None = ⊥
IsSmall (Some n) = unsigned_abs n < 2 ^ 32

-- one that has no sign
abbrev pub IsIndex : Option ℤ → Type 0
IsIndex None = ⊥
IsIndex (Some (pos n)) = n < 2 ^ 32
IsIndex (Some (negsuc n)) = ⊥

-- A register, which is symbolic or not, has a name that is a word.
abbrev pub FitsBy : List Pair → Letter → Reg → Bool → Type 0
FitsBy pairs letter r true = HasName pairs (letter_bank letter) r.number
FitsBy pairs letter r false = is_word_text (register_name letter r) ≡ true

abbrev pub FitsRegister : List Pair → Letter → Option Reg → Type 0
FitsRegister pairs letter None = ⊥
FitsRegister pairs letter (Some r) = FitsBy pairs letter r r.symbolic

-- What a slot prints is read again as one item.
abbrev pub Fits : List Pair → Held → Slot → Type 0
Fits pairs held slot.Gap = Unit {0}
Fits pairs held (slot.Mark code) = is_printed_mark code ≡ true
Fits pairs held (slot.Name n) = Unit {0}
Fits pairs held (slot.Register letter) = FitsRegister pairs letter held.register
Fits pairs held slot.Number = IsSmall held.number
Fits pairs held slot.Index = IsIndex held.number
Fits pairs held slot.Condition = is_word_text (condition_text held.number) ≡ true

abbrev pub AllFit : List Pair → List Piece → Type 0
AllFit pairs [] = Unit {0}
AllFit pairs (p ∷ ps) = Fits pairs p.held p.slot × AllFit pairs ps

-- pieces that may stand behind something
pub record Good (pairs : List Pair) (before : Before) (ps : List Piece) : Type 0 where
  pub flow : flows before ps ≡ true
  pub fit : AllFit pairs ps

-- ---- slots that show what they say fit

-- Is a slot's mark one that is printed, if it has one?
abbrev is_known : Slot → Bool
is_known slot.Gap = true
is_known (slot.Mark code) = is_printed_mark code
is_known (slot.Name n) = true
is_known (slot.Register letter) = true
is_known slot.Number = true
is_known slot.Index = true
is_known slot.Condition = true

all_known : (lead : Slot) (s : Shape) → is_known lead ≡ true → list_all is_known (slots_of lead s) ≡ true
all_known lead shape.Nothing e = refl
all_known lead (shape.Register letter) e = ap (λ b. b && true) e
all_known lead shape.Number e = ap (λ b. b && true) e
all_known lead shape.Condition e = ap (λ b. b && true) e
all_known lead (shape.Shift n) e = ap (λ b. b && true) e
all_known lead (shape.Lanes n) e = ap (λ b. b && true) e
all_known lead (shape.Lane n) e = ap (λ b. b && true) e
all_known lead (shape.Base letter) e = ap (λ b. b && true) e
all_known lead (shape.Offset letter) e = ap (λ b. b && true) e
all_known lead (shape.Before letter) e = ap (λ b. b && true) e

-- a symbolic register that is read as itself is of its letter's bank
symbolic_bank : (letter : Letter) (r : Reg) → r.symbolic ≡ true → item_register letter (register_item letter (Some r)) ≡ Some r → r.bank ≡ letter_bank letter
unfolding item_register
symbolic_bank letter r symbolic named =
    let item : register_item letter (Some r) ≡ symbol letter r.number = ap (λ b. cond b (symbol letter r.number) (word (register_name letter r))) symbolic in
    let found : item_register letter (symbol letter r.number) ≡ Some r = sym (ap (item_register letter) item) ∙ named in
    let same : symbolic_reg letter r.number ≡ r = (cond_some (letter_code letter == letter_code letter) (symbolic_reg letter r.number) r found).1 in
    ap (λ (q : Reg). q.bank) (sym same)

register_fits : (pairs : List Pair) (letter : Letter) (r : Reg) → item_register letter (register_item letter (Some r)) ≡ Some r → (r.symbolic ≡ false → r.number < 32)
    → knows_register pairs r ≡ true → FitsBy pairs letter r r.symbolic
register_fits pairs letter r named small known = by r.symbolic refl known
  where
    by : (b : Bool) → r.symbolic ≡ b → cond b (knows_pair pairs r.bank r.number (slice_get pairs r.number)) true ≡ true → FitsBy pairs letter r b
    by true is known = subst (λ bank. HasName pairs bank r.number) (symbolic_bank letter r is named) (name_of_number pairs r.bank r.number known)
    by false is known = let least = small is in let bound : r.number < 2 ^ 64 = omega (arith, least) in register_named letter r bound

shown_fits : (pairs : List Pair) (held : Held) (s : Slot) → Shows held s → is_known s ≡ true → knows_held pairs held ≡ true → Fits pairs held s
shown_fits pairs held slot.Gap shown known names = tt
shown_fits pairs held (slot.Mark code) shown known names = known
shown_fits pairs held (slot.Name n) shown known names = tt
shown_fits pairs held (slot.Register letter) shown known names =
    subst (FitsRegister pairs letter) (sym shown.is)
    (register_fits pairs letter shown.register shown.named shown.small (ap (knows_optional pairs) (sym shown.is) ∙ names))
shown_fits pairs held slot.Number shown known names = subst IsSmall (sym shown.is) shown.small
shown_fits pairs held slot.Index shown known names = subst IsIndex (sym shown.is) shown.small
shown_fits pairs held slot.Condition shown known names =
    subst (λ o. is_word_text (condition_text o) ≡ true) (sym shown.is) (condition_named shown.number shown.small)

slots_fit : (pairs : List Pair) (held : Held) (slots : List Slot) (ps : List Piece) → ShowsSlots held slots → list_all is_known slots ≡ true → knows_held pairs held ≡ true
    → AllFit pairs ps → AllFit pairs (pieces_of held slots ++ ps)
slots_fit pairs held [] ps shown known names fit = fit
slots_fit pairs held (s ∷ slots) ps shown known names fit =
    let parts = and_parts (is_known s) (list_all is_known slots) known in
    (shown_fits pairs held s shown.0 parts.0 names, slots_fit pairs held slots ps shown.1 parts.1 names fit)

operands_fit : (pairs : List Pair) (lead : Slot) (operands : List Operand) (helds : List Held) → is_known lead ≡ true
    → ShowsOperands lead operands helds → list_all (knows_held pairs) helds ≡ true → AllFit pairs (row_pieces lead operands helds)
operands_fit pairs lead [] helds known shown names = tt
operands_fit pairs lead (operand ∷ operands) [] known shown names = tt
operands_fit pairs lead (operand ∷ operands) (held ∷ helds) known shown names =
    let parts = and_parts (knows_held pairs held) (list_all (knows_held pairs) helds) names in
    slots_fit pairs held (slots_of lead operand.shape) (row_pieces comma operands helds) shown.0 (all_known lead operand.shape known) parts.0
    (operands_fit pairs comma operands helds refl shown.1 parts.1)

-- ---- the slots of operands may stand in their order

operand_flows : (before : Before) (s : Shape) (held : Held) (ps : List Piece) → may_end before ≡ true →
    ((next : Before) → may_end next ≡ true → flows next ps ≡ true) →
    flows before (pieces_of held (slots_of comma s) ++ ps) ≡ true
operand_flows blank s held ps e more = absurd cc
operand_flows b shape.Nothing held ps e more = more b e
operand_flows b (shape.Register letter) held ps e more = more name refl
operand_flows b shape.Number held ps e more = more name refl
operand_flows b shape.Condition held ps e more = more name refl
operand_flows b (shape.Shift n) held ps e more = more name refl
operand_flows b (shape.Lanes n) held ps e more = more name refl
operand_flows b (shape.Lane n) held ps e more = more mark refl
operand_flows b (shape.Base letter) held ps e more = more mark refl
operand_flows b (shape.Offset letter) held ps e more = more mark refl
operand_flows b (shape.Before letter) held ps e more = more mark refl

operands_flow : (before : Before) (operands : List Operand) (helds : List Held) → may_end before ≡ true →
    flows before (row_pieces comma operands helds) ≡ true
operands_flow before [] helds e = e
operands_flow before (operand ∷ operands) [] e = e
operands_flow before (operand ∷ operands) (held ∷ helds) e =
    operand_flows before operand.shape held (row_pieces comma operands helds) e (λ next f. operands_flow next operands helds f)

-- the first operand stands behind a blank
first_flows : (s : Shape) (held : Held) (ps : List Piece) → is_led s ≡ true →
    ((next : Before) → may_end next ≡ true → flows next ps ≡ true) →
    flows name (pieces_of held (slots_of slot.Gap s) ++ ps) ≡ true
first_flows shape.Nothing held ps e more = more name refl
first_flows (shape.Register letter) held ps e more = more name refl
first_flows shape.Number held ps e more = more name refl
first_flows shape.Condition held ps e more = more name refl
first_flows (shape.Shift n) held ps e more = more name refl
first_flows (shape.Lanes n) held ps e more = more name refl
first_flows (shape.Lane n) held ps e more = more mark refl
first_flows (shape.Base letter) held ps e more = absurd cc
first_flows (shape.Offset letter) held ps e more = absurd cc
first_flows (shape.Before letter) held ps e more = absurd cc

row_flows : (row : Row) (helds : List Held) → is_led row.first.shape ≡ true →
    flows name (row_pieces slot.Gap (row_operands row) helds) ≡ true
row_flows row [] e = refl
row_flows row (held ∷ helds) e =
    first_flows row.first.shape held _ e (λ next f. operands_flow next (row.second ∷ row.third ∷ row.fourth ∷ row.fifth ∷ []) helds f)

-- What the slots of a row's operands print fits.
pub row_fits : (pairs : List Pair) (row : Row) (helds : List Held) → IsPrintable pairs row helds → AllFit pairs (row_pieces slot.Gap (row_operands row) helds)
row_fits pairs row helds printable = operands_fit pairs slot.Gap (row_operands row) helds refl printable.operands printable.known

-- what is printed for the operands of a row
pub row_good : (pairs : List Pair) (row : Row) (helds : List Held) → is_led row.first.shape ≡ true → IsPrintable pairs row helds →
    Good pairs name (row_pieces slot.Gap (row_operands row) helds)
row_good pairs row helds led printable = record {
  flow = row_flows row helds led;
  fit = row_fits pairs row helds printable;
}
