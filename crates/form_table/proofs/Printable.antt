-- What a row's operands hold can be printed, and has its places in an instruction.
use Rattle.std.proofs.Common.{◌≡◌, ◌∙◌, sym, ap, subst, ℕ, ◌+◌, ◌^◌, ◌<◌, ◌≤◌, Bool, true, false, cond, List, [], ◌∷◌, length, arith, refl}
use Rattle.std.specs.Prelude.{ℤ, pos, negsuc, Option, Some, None, is_some, int_le, nat_lt, nat_le, unsigned_abs}
use Rattle.std.proofs.lemmas.Bool.{ltb-true, leb-true, le-leb}
use Rattle.std.specs.List.{list_all}
use Rattle.sl_model.specs.declared.register.Reg.{Reg}
use Rattle.sl_isa.specs.Symbols.{Pair}
use Rattle.form_table.proofs.Names.{knows_held}
use Rattle.form_table.specs.Rows.{row_operands, mnemonic_text, slots_of}
use Rattle.form_table.specs.Spells.{comma}
use Rattle.form_table.specs.Reads.{is_picked, kept, picked, is_multiple, in_range, number_suits, numbers_suit}
use Rattle.form_table.specs.Printed.{has_register, has_number, one_if}
use Rattle.form_table.specs.Symbols.{is_word_text}
use Rattle.form_table.specs.Tables.{is_indexed, is_spelled, all_spelled, count_ins, count_outs, count_numbers, is_row}
use Rattle.form_table.specs.declared.rows.Slot.{Slot}
use Rattle.form_table.specs.declared.rows.Slot.TheVariants as slot
use Rattle.form_table.specs.declared.rows.Shape.{Shape}
use Rattle.form_table.specs.declared.rows.Shape.TheVariants as shape
use Rattle.form_table.specs.declared.rows.Range.{Range}
use Rattle.form_table.specs.declared.rows.Operand.{Operand}
use Rattle.form_table.specs.declared.rows.Row.{Row}
use Rattle.form_table.specs.declared.spells.Held.{Held}
use Rattle.form_table.specs.declared.reader.Pick.TheVariants as pick
use Rattle.form_table.proofs.Again.{Shaped, with_number, numbers_of, HasPlaces}
use Rattle.form_table.proofs.SlotItems.{Shows, ShowsSlots, ShowsOperands, ShowsNumber, ShowsIndex, IsPrintable}
use Rattle.form_table.proofs.Refill.{Holds, HoldsSlots}
use Rattle.form_table.proofs.Filled.{Filled, filled_shaped}
use Rattle.sl_laws.proofs.Tests.{some_value, then_parts}

-- numbers between two that spellings have
pub between : (least most n : ℤ) (limit : ℕ) → int_le least n ≡ true → int_le n most ≡ true → unsigned_abs least < limit → unsigned_abs most < limit → unsigned_abs n < limit
between least (pos b) (pos a) limit l m x y = let h : a ≤ b = leb-true a b m in omega arith
between least (negsuc b) (pos a) limit l m x y = absurd cc
between (pos b) most (negsuc a) limit l m x y = absurd cc
between (negsuc b) most (negsuc a) limit l m x y = let h : a ≤ b = leb-true a b l in omega arith

-- numbers above one that isn't negative
above : (least n : ℤ) → int_le (pos 0) least ≡ true → int_le least n ≡ true → int_le (pos 0) n ≡ true
above (pos b) (pos a) z l = le-leb 0 a (omega arith)
above (pos b) (negsuc a) z l = absurd cc
above (negsuc b) n z l = absurd cc

as_natural : (n : ℤ) → int_le (pos 0) n ≡ true → (k : ℕ) × (n ≡ pos k)
as_natural (pos k) e = (k, refl)
as_natural (negsuc k) e = absurd cc

-- the number of an operand is one that spellings have, and isn't negative
abbrev Small : Held → Type 0
Small held = (n : ℤ) → held.number ≡ Some n → unsigned_abs n < 2 ^ 32

abbrev NotNegative : Held → Type 0
NotNegative held = (n : ℤ) → held.number ≡ Some n → int_le (pos 0) n ≡ true

-- Is a number printed without `#` for one of some slots?
abbrev is_index : Slot → Bool
is_index slot.Gap = false
is_index (slot.Mark code) = false
is_index (slot.Name name) = false
is_index (slot.Register letter) = false
is_index slot.Number = false
is_index slot.Index = true
is_index slot.Condition = false

abbrev has_index : List Slot → Bool
has_index [] = false
has_index (s ∷ slots) = cond (is_index s) true (has_index slots)

has_index_is : (s : Shape) → has_index (slots_of slot.Gap s) ≡ is_indexed s
has_index_is shape.Nothing = refl
has_index_is (shape.Register letter) = refl
has_index_is shape.Number = refl
has_index_is shape.Condition = refl
has_index_is (shape.Shift name) = refl
has_index_is (shape.Lanes name) = refl
has_index_is (shape.Lane name) = refl
has_index_is (shape.Base letter) = refl
has_index_is (shape.Offset letter) = refl
has_index_is (shape.Before letter) = refl

shows_number : (held : Held) → Small held → is_some held.number ≡ true → ShowsNumber held.number
shows_number held small there =
    let n = some_value held.number there in
    record { number = n.0; is = n.1; small = small n.0 n.1 }

shows_index : (held : Held) → Small held → NotNegative held → is_some held.number ≡ true → ShowsIndex held.number
shows_index held small positive there =
    let n = some_value held.number there in
    let k = as_natural n.0 (positive n.0 n.1) in
    let is : held.number ≡ Some (pos k.0) = n.1 ∙ ap Some k.1 in
    record { number = k.0; is = is; small = small (pos k.0) is }

shows_slot : (held : Held) (s : Slot) → Small held → (is_index s ≡ true → NotNegative held) → Holds held s → Shows held s
shows_slot held slot.Gap small index h = tt
shows_slot held (slot.Mark code) small index h = tt
shows_slot held (slot.Name name) small index h = tt
shows_slot held (slot.Register letter) small index h = h
shows_slot held slot.Number small index h = shows_number held small h
shows_slot held slot.Index small index h = shows_index held small (index refl) h
shows_slot held slot.Condition small index h = h

one_or : (a b : Bool) → a ≡ true → cond a true b ≡ true
one_or true b e = refl
one_or false b e = absurd cc

other_or : (a b : Bool) → b ≡ true → cond a true b ≡ true
other_or true b e = refl
other_or false b e = e

shows_slots : (held : Held) (slots : List Slot) → Small held → (has_index slots ≡ true → NotNegative held) → HoldsSlots held slots → ShowsSlots held slots
shows_slots held [] small index h = tt
shows_slots held (s ∷ slots) small index h = (
  shows_slot held s small (λ e. index (one_or (is_index s) (has_index slots) e)) h.0,
  shows_slots held slots small (λ e. index (other_or (is_index s) (has_index slots) e)) h.1,
)

-- whatever leads to an operand
shows_behind : (lead : Slot) (s : Shape) (held : Held) → Shows held lead → ShowsSlots held (slots_of slot.Gap s) → ShowsSlots held (slots_of lead s)
shows_behind lead shape.Nothing held l h = tt
shows_behind lead (shape.Register letter) held l h = (l, h.1)
shows_behind lead shape.Number held l h = (l, h.1)
shows_behind lead shape.Condition held l h = (l, h.1)
shows_behind lead (shape.Shift name) held l h = (l, h.1)
shows_behind lead (shape.Lanes name) held l h = (l, h.1)
shows_behind lead (shape.Lane name) held l h = (l, h.1)
shows_behind lead (shape.Base letter) held l h = (l, h.1)
shows_behind lead (shape.Offset letter) held l h = (l, h.1)
shows_behind lead (shape.Before letter) held l h = (l, h.1)

-- what is known of the numbers that an operand takes
record IsSpelled (operand : Operand) : Type 0 where
  least : unsigned_abs operand.range.least < 2 ^ 32
  most : unsigned_abs operand.range.most < 2 ^ 32
  index : is_indexed operand.shape ≡ true → int_le (pos 0) operand.range.least ≡ true

when_true : (a b : Bool) → cond a b true ≡ true → a ≡ true → b ≡ true
when_true true b e t = e
when_true false b e t = absurd cc

spelled_is : (operand : Operand) → is_spelled operand ≡ true → IsSpelled operand
spelled_is operand e =
    let index : Bool = cond (is_indexed operand.shape) (int_le (pos 0) operand.range.least) true in
    let one = then_parts (nat_lt (unsigned_abs operand.range.least) (2 ^ 32)) (cond (nat_lt (unsigned_abs operand.range.most) (2 ^ 32)) index false) e in
    let two = then_parts (nat_lt (unsigned_abs operand.range.most) (2 ^ 32)) index one.1 in
    record {
      least = ltb-true _ _ one.0;
      most = ltb-true _ _ two.0;
      index = when_true (is_indexed operand.shape) (int_le (pos 0) operand.range.least) two.1;
    }

-- a number that an operand takes is in its range
suits_range : (operand : Operand) (o : Option ℤ) (n : ℤ) → number_suits operand o ≡ true → o ≡ Some n → in_range operand.range n ≡ true
suits_range operand o n suits e = subst (λ p. number_suits operand p ≡ true) e suits

in_range_is : (range : Range) (n : ℤ) → in_range range n ≡ true → (int_le range.least n ≡ true) × (int_le n range.most ≡ true)
unfolding in_range
in_range_is range n e =
    let one = then_parts (int_le range.least n) (cond (int_le n range.most) (is_multiple range.step (unsigned_abs n)) false) e in
    let two = then_parts (int_le n range.most) (is_multiple range.step (unsigned_abs n)) one.1 in
    (one.0, two.0)

small_number : (operand : Operand) (held : Held) → is_spelled operand ≡ true → number_suits operand held.number ≡ true → Small held
small_number operand held spelled suits n e =
    let s = spelled_is operand spelled in
    let within = in_range_is operand.range n (suits_range operand held.number n suits e) in
    between operand.range.least operand.range.most n (2 ^ 32) within.0 within.1 s.least s.most

index_number : (operand : Operand) (held : Held) → is_spelled operand ≡ true → number_suits operand held.number ≡ true → is_indexed operand.shape ≡ true → NotNegative held
index_number operand held spelled suits indexed n e =
    let s = spelled_is operand spelled in
    let within = in_range_is operand.range n (suits_range operand held.number n suits e) in
    above operand.range.least n (s.index indexed) within.0

shows_operands : (lead : Slot) (operands : List Operand) (helds : List Held) → ((held : Held) → Shows held lead) → all_spelled operands ≡ true → numbers_suit operands helds ≡ true →
    Filled operands helds → ShowsOperands lead operands helds
unfolding numbers_suit
shows_operands lead [] [] l spelled suits f = tt
shows_operands lead [] (held ∷ helds) l spelled suits f = absurd f
shows_operands lead (operand ∷ operands) [] l spelled suits f = absurd f
shows_operands lead (operand ∷ operands) (held ∷ helds) l spelled suits f =
    let one = then_parts (is_spelled operand) (all_spelled operands) spelled in
    let two = then_parts (number_suits operand held.number) (numbers_suit operands helds) suits in
    let first : ShowsSlots held (slots_of slot.Gap operand.shape) =
    shows_slots held (slots_of slot.Gap operand.shape) (small_number operand held one.0 two.0)
    (λ e. index_number operand held one.0 two.0 (sym (has_index_is operand.shape) ∙ e)) f.0.front.holds in
    (shows_behind lead operand.shape held (l held) first, shows_operands comma operands helds (λ h. tt) one.1 two.1 f.1)

-- as many registers and numbers as operands have
kept_few : (has picks : Bool) (o : Option Reg) (regs : List Reg) (n : ℕ) → is_some o ≡ has → length regs ≤ n → length (kept picks o regs) ≤ one_if (cond has picks false) + n
kept_few true true None regs n e h = absurd cc
kept_few true true (Some r) regs n e h = omega arith
kept_few true false o regs n e h = omega arith
kept_few false true None regs n e h = omega arith
kept_few false true (Some r) regs n e h = absurd cc
kept_few false false o regs n e h = omega arith

reads_few : (operands : List Operand) (helds : List Held) → Shaped operands helds → length (picked pick.Read operands helds) ≤ count_ins operands
unfolding picked
reads_few [] helds s = omega arith
reads_few (operand ∷ operands) [] s = absurd s
reads_few (operand ∷ operands) (held ∷ helds) s =
    kept_few (has_register operand.shape) (is_picked pick.Read operand.role) held.register (picked pick.Read operands helds) (count_ins operands) s.0.register (reads_few operands helds s.1)

writes_few : (operands : List Operand) (helds : List Held) → Shaped operands helds → length (picked pick.Written operands helds) ≤ count_outs operands
unfolding picked
writes_few [] helds s = omega arith
writes_few (operand ∷ operands) [] s = absurd s
writes_few (operand ∷ operands) (held ∷ helds) s =
    kept_few (has_register operand.shape) (is_picked pick.Written operand.role) held.register (picked pick.Written operands helds) (count_outs operands) s.0.register (writes_few operands helds s.1)

with_few : (has : Bool) (o : Option ℤ) (numbers : List ℤ) (n : ℕ) → is_some o ≡ has → length numbers ≤ n → length (with_number o numbers) ≤ one_if has + n
with_few true None numbers n e h = absurd cc
with_few true (Some m) numbers n e h = omega arith
with_few false None numbers n e h = omega arith
with_few false (Some m) numbers n e h = absurd cc

numbers_few : (operands : List Operand) (helds : List Held) → Shaped operands helds → length (numbers_of helds) ≤ count_numbers operands
numbers_few [] [] s = omega arith
numbers_few [] (held ∷ helds) s = absurd s
numbers_few (operand ∷ operands) [] s = absurd s
numbers_few (operand ∷ operands) (held ∷ helds) s =
    with_few (has_number operand.shape) held.number (numbers_of helds) (count_numbers operands) s.0.number (numbers_few operands helds s.1)

-- what is known of a row that passes the tests
record IsRow (row : Row) : Type 0 where
  mnemonic : is_word_text (mnemonic_text row) ≡ true
  spelled : all_spelled (row_operands row) ≡ true
  ins : count_ins (row_operands row) ≤ 4
  outs : count_outs (row_operands row) ≤ 3
  numbers : count_numbers (row_operands row) ≤ 3

row_is : (row : Row) → is_row row ≡ true → IsRow row
row_is row e =
    let numbers : Bool = nat_le (count_numbers (row_operands row)) 3 in
    let outs : Bool = cond (nat_le (count_outs (row_operands row)) 3) numbers false in
    let ins : Bool = cond (nat_le (count_ins (row_operands row)) 4) outs false in
    let one = then_parts (is_word_text (mnemonic_text row)) (cond (all_spelled (row_operands row)) ins false) e in
    let two = then_parts (all_spelled (row_operands row)) ins one.1 in
    let three = then_parts (nat_le (count_ins (row_operands row)) 4) outs two.1 in
    let four = then_parts (nat_le (count_outs (row_operands row)) 3) numbers three.1 in
    record {
      mnemonic = one.0;
      spelled = two.0;
      ins = leb-true _ _ three.0;
      outs = leb-true _ _ four.0;
      numbers = leb-true _ _ four.1;
    }

-- What fills a row, with numbers that it takes, can be printed.
pub filled_printable : (pairs : List Pair) (row : Row) (helds : List Held) → is_row row ≡ true → numbers_suit (row_operands row) helds ≡ true → Filled (row_operands row) helds
    → list_all (knows_held pairs) helds ≡ true → IsPrintable pairs row helds
filled_printable pairs row helds e suits f known =
    let r = row_is row e in
    record { mnemonic = r.mnemonic; operands = shows_operands slot.Gap (row_operands row) helds (λ h. tt) r.spelled suits f; known = known }

-- And it has its places.
pub filled_places : (row : Row) (helds : List Held) → is_row row ≡ true → Filled (row_operands row) helds → HasPlaces row helds
filled_places row helds e f =
    let r = row_is row e in
    let shaped : Shaped (row_operands row) helds = filled_shaped (row_operands row) helds f in
    let read = reads_few (row_operands row) helds shaped in
    let written = writes_few (row_operands row) helds shaped in
    let numbers = numbers_few (row_operands row) helds shaped in
    let ins = r.ins in
    let outs = r.outs in
    let three = r.numbers in
    record { shaped = shaped; ins = omega arith; outs = omega arith; numbers = omega arith }
