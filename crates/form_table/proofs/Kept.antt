-- The row under which a spelling is kept takes what its alias leaves, and keeps it.
use Rattle.std.proofs.Common.{◌≡◌, ◌∙◌, sym, ap, subst, ℕ, zero, suc, ◌==◌, Bool, true, false, cond, List, [], ◌∷◌, ◌++◌, refl}
use Rattle.std.specs.Prelude.{Option, Some, None, codes, slice_get, option_and_then}
use Rattle.std.specs.Str.{bytes_eq}
use Rattle.std.proofs.lemmas.Bool.{eqb-true, false≢true}
use Rattle.std.proofs.lemmas.Slice.Eq.{bytes_eq-Decides}
use Rattle.form_table.specs.Rows.{name_text, row_operands, slots_of}
use Rattle.form_table.specs.Spells.{empty, put, front}
use Rattle.form_table.specs.Reads.{held_at, is_zero, without_number, twice_first, settled}
use Rattle.form_table.specs.Printed.{has_register}
use Rattle.form_table.specs.Symbols.{letter_code}
use Rattle.form_table.specs.Tables.{same_slot, same_slots, same_spelling, same_spellings, is_left_of, same_without, twice_operands, is_own, is_kept_by, is_kept_at, has_kept, all_kept}
use Rattle.form_table.specs.declared.rows.Letter.{Letter}
use Rattle.form_table.specs.declared.rows.Letter.TheVariants as letter
use Rattle.form_table.specs.declared.rows.Name.{Name}
use Rattle.form_table.specs.declared.rows.Name.TheVariants as name
use Rattle.form_table.specs.declared.rows.Slot.{Slot}
use Rattle.form_table.specs.declared.rows.Slot.TheVariants as slot
use Rattle.form_table.specs.declared.rows.Shape.{Shape}
use Rattle.form_table.specs.declared.rows.Shape.TheVariants as shape
use Rattle.form_table.specs.declared.rows.Operand.{Operand}
use Rattle.form_table.specs.declared.rows.Alias.{Alias}
use Rattle.form_table.specs.declared.rows.Alias.TheVariants as alias
use Rattle.form_table.specs.declared.rows.Row.{Row}
use Rattle.form_table.specs.declared.spells.Held.{Held}
use Rattle.form_table.specs.declared.reader.Fit.{Fit}
use Rattle.form_table.proofs.SlotItems.{slot_item, slot_items, ShowsRegister}
use Rattle.form_table.proofs.Refill.{IsFront, front_none, register_again}
use Rattle.form_table.proofs.Filled.{Fills, Filled, set_register_is}
use Rattle.sl_laws.proofs.Tests.{else_parts, then_parts}

-- letters and names by what tells them apart
letter_of : ℕ → Letter
letter_of c =
    cond (c == 120) letter.X (cond (c == 119) letter.W (cond (c == 118) letter.V (cond (c == 113) letter.Q (cond (c == 100) letter.D (cond (c == 115) letter.S letter.R)))))

letter_again : (l : Letter) → letter_of (letter_code l) ≡ l
unfolding letter_of
letter_again letter.X = refl
letter_again letter.W = refl
letter_again letter.V = refl
letter_again letter.Q = refl
letter_again letter.D = refl
letter_again letter.S = refl
letter_again letter.R = refl

first_name : List ℕ → List (List ℕ × Name) → Name → Name
first_name text [] other = other
first_name text (n ∷ names) other = cond (bytes_eq text n.0) n.1 (first_name text names other)

names : List (List ℕ × Name)
names =
    (codes "lsl", name.Lsl) ∷ (codes "lsr", name.Lsr) ∷ (codes "asr", name.Asr) ∷ (codes "ror", name.Ror)
    ∷ (codes "8b", name.Lanes8b) ∷ (codes "16b", name.Lanes16b) ∷ (codes "4h", name.Lanes4h) ∷ (codes "8h", name.Lanes8h)
    ∷ (codes "2s", name.Lanes2s) ∷ (codes "4s", name.Lanes4s) ∷ (codes "2d", name.Lanes2d)
    ∷ (codes "b", name.LaneB) ∷ (codes "h", name.LaneH) ∷ (codes "s", name.LaneS) ∷ []

name_of : List ℕ → Name
name_of text = first_name text names name.LaneD

name_again : (n : Name) → name_of (name_text n) ≡ n
unfolding name_of first_name names
name_again name.Lsl = refl
name_again name.Lsr = refl
name_again name.Asr = refl
name_again name.Ror = refl
name_again name.Lanes8b = refl
name_again name.Lanes16b = refl
name_again name.Lanes4h = refl
name_again name.Lanes8h = refl
name_again name.Lanes2s = refl
name_again name.Lanes4s = refl
name_again name.Lanes2d = refl
name_again name.LaneB = refl
name_again name.LaneH = refl
name_again name.LaneS = refl
name_again name.LaneD = refl

pub same_letter : (a b : Letter) → letter_code a ≡ letter_code b → a ≡ b
same_letter a b e = sym (letter_again a) ∙ (ap letter_of e ∙ letter_again b)

same_name : (a b : Name) → name_text a ≡ name_text b → a ≡ b
same_name a b e = sym (name_again a) ∙ (ap name_of e ∙ name_again b)

same_slot_is : (a b : Slot) → same_slot a b ≡ true → a ≡ b
same_slot_is slot.Gap slot.Gap e = refl
same_slot_is (slot.Mark code) (slot.Mark other) e = ap slot.Mark (eqb-true code other e)
same_slot_is (slot.Name n) (slot.Name other) e = ap slot.Name (same_name n other ((bytes_eq-Decides (name_text n) (name_text other)).0 e))
same_slot_is (slot.Register l) (slot.Register other) e = ap slot.Register (same_letter l other (eqb-true (letter_code l) (letter_code other) e))
same_slot_is slot.Number slot.Number e = refl
same_slot_is slot.Index slot.Index e = refl
same_slot_is slot.Condition slot.Condition e = refl
same_slot_is _ _ e = absurd (false≢true e)

same_slots_is : (xs bs : List Slot) → same_slots xs bs ≡ true → xs ≡ bs
same_slots_is [] [] e = refl
same_slots_is [] (b ∷ bs) e = absurd (false≢true e)
same_slots_is (a ∷ xs) [] e = absurd (false≢true e)
same_slots_is (a ∷ xs) (b ∷ bs) e =
    let parts = then_parts (same_slot a b) (same_slots xs bs) e in
    ap (λ s. s ∷ xs) (same_slot_is a b parts.0) ∙ ap (λ slots. b ∷ slots) (same_slots_is xs bs parts.1)

-- operands that are spelled alike hold the same
same_fills : (a b : Shape) (held : Held) → same_spelling a b ≡ true → Fills a held → Fills b held
same_fills a b held e f = record {
  front = subst (λ (slots : List Slot). IsFront empty slots held) (same_slots_is (slots_of slot.Gap a) (slots_of slot.Gap b) e) f.front;
}

same_filled : (xs bs : List Operand) (helds : List Held) → same_spellings xs bs ≡ true → Filled xs helds → Filled bs helds
same_filled [] [] helds e f = f
same_filled [] (b ∷ bs) helds e f = absurd (false≢true e)
same_filled (a ∷ xs) [] helds e f = absurd (false≢true e)
same_filled (a ∷ xs) (b ∷ bs) [] e f = f
same_filled (a ∷ xs) (b ∷ bs) (held ∷ helds) e f =
    let parts = then_parts (same_spelling a.shape b.shape) (same_spellings xs bs) e in
    (same_fills a.shape b.shape held parts.0 f.0, same_filled xs bs helds parts.1 f.1)

twice_filled : (row : Row) (helds : List Held) → Filled (row_operands row) helds → Filled (twice_operands row) (twice_first helds)
twice_filled row [] f = absurd f
twice_filled row (a ∷ []) f = absurd f.1
twice_filled row (a ∷ b ∷ []) f = absurd f.1.1
twice_filled row (a ∷ b ∷ c ∷ []) f = absurd f.1.1.1
twice_filled row (a ∷ b ∷ c ∷ d ∷ helds) f = (f.0, (f.0, (f.1.0, (f.1.1.0, (f.1.1.1.0, tt)))))

-- an operand without register is nothing without its number
nothing_fills : (a b : Shape) (held : Held) → cond (has_register a) false (same_spelling shape.Nothing b) ≡ true → Fills a held →
    Fills b (record { register = held.register; number = None })
nothing_fills a b held e f =
    let parts = else_parts (has_register a) (same_spelling shape.Nothing b) e in
    let none : held.register ≡ None = f.front.register (set_register_is a ∙ parts.0) in
    let left : Held = record { register = held.register; number = None } in
    let is : empty ≡ left = ap (λ o. let h : Held = record { register = o; number = None } in h) (sym none) in
    same_fills shape.Nothing b left parts.1 (record { front = front_none empty left is })

-- a base is left without its offset
base_fills : (l : Letter) (held : Held) → Fills (shape.Offset l) held → Fills (shape.Base l) (record { register = held.register; number = None })
unfolding front slot_items slot_item put
base_fills l held f =
    let shows : ShowsRegister l held.register = f.front.holds.1.1.0 in
    let left : Held = record { register = held.register; number = None } in
    record {
      front = record {
        register = λ t. absurd cc;
        number = λ t. refl;
        register_there = λ t. f.front.register_there refl;
        number_there = λ t. absurd cc;
        holds = (tt, (tt, (shows, (tt, tt))));
        again =
            λ more. ap (option_and_then (λ (h : Held). front h (slot.Mark 93 ∷ []) (slot_items left (slot.Mark 93 ∷ []) ++ more)))
            (register_again empty left l held.register refl shows);
      };
    }

left_fills : (a b : Shape) (held : Held) → is_left_of a b ≡ true → Fills a held →
    Fills b (record { register = held.register; number = None })
left_fills (shape.Offset l) b held e f =
    same_fills (shape.Base l) b (record { register = held.register; number = None }) e (base_fills l held f)
left_fills shape.Nothing b held e f = nothing_fills shape.Nothing b held e f
left_fills (shape.Register l) b held e f = nothing_fills (shape.Register l) b held e f
left_fills shape.Number b held e f = nothing_fills shape.Number b held e f
left_fills shape.Condition b held e f = nothing_fills shape.Condition b held e f
left_fills (shape.Shift n) b held e f = nothing_fills (shape.Shift n) b held e f
left_fills (shape.Lanes n) b held e f = nothing_fills (shape.Lanes n) b held e f
left_fills (shape.Lane n) b held e f = nothing_fills (shape.Lane n) b held e f
left_fills (shape.Base l) b held e f = nothing_fills (shape.Base l) b held e f
left_fills (shape.Before l) b held e f = nothing_fills (shape.Before l) b held e f

without_filled : (place : ℕ) (xs bs : List Operand) (helds : List Held) → same_without place xs bs ≡ true → Filled xs helds → Filled bs (without_number helds place)
without_filled place [] bs helds e f = absurd (false≢true e)
without_filled place (a ∷ xs) [] helds e f = absurd (false≢true e)
without_filled place (a ∷ xs) (b ∷ bs) [] e f = absurd f
without_filled zero (a ∷ xs) (b ∷ bs) (held ∷ helds) e f =
    let parts = then_parts (is_left_of a.shape b.shape) (same_spellings xs bs) e in
    (left_fills a.shape b.shape held parts.0 f.0, same_filled xs bs helds parts.1 f.1)
without_filled (suc place) (a ∷ xs) (b ∷ bs) (held ∷ helds) e f =
    let parts = then_parts (same_spelling a.shape b.shape) (same_without place xs bs) e in
    (same_fills a.shape b.shape held parts.0 f.0, without_filled place xs bs helds parts.1 f.1)

-- A form of the table that keeps what its operands hold.
pub record IsSettled (table : List Row) (fit : Fit) : Type 0 where
  pub row : Row
  pub at : slice_get table fit.form ≡ Some row
  pub filled : Filled (row_operands row) fit.helds
  pub stays : settled row.alias fit ≡ fit

own_stays : (a : Alias) (fit : Fit) → is_own a ≡ true → settled a fit ≡ fit
unfolding settled
own_stays alias.Own fit e = refl
own_stays (alias.As form) fit e = absurd cc
own_stays (alias.Repeat form) fit e = absurd cc
own_stays (alias.ZeroAs form place) fit e = absurd cc

-- the row that an alias names
record IsKept (row : Row) (a : Alias) (o : Option Row) : Type 0 where
  target : Row
  at : o ≡ Some target
  kept : is_kept_by row a target ≡ true

kept_is : (row : Row) (a : Alias) (o : Option Row) → is_kept_at row a o ≡ true → IsKept row a o
kept_is row a None e = absurd cc
kept_is row a (Some target) e = record { target = target; at = refl; kept = e }

settled_as : (table : List Row) (fit : Fit) (row : Row) (form : ℕ) → has_kept table row (alias.As form) ≡ true → Filled (row_operands row) fit.helds →
    IsSettled table (settled (alias.As form) fit)
unfolding settled
settled_as table fit row form e f =
    let k = kept_is row (alias.As form) (slice_get table form) e in
    let parts = then_parts (is_own k.target.alias) (same_spellings (row_operands row) (row_operands k.target)) k.kept in
    record { row = k.target; at = k.at; filled = same_filled (row_operands row) (row_operands k.target) fit.helds parts.1 f; stays = own_stays k.target.alias _ parts.0 }

settled_repeat : (table : List Row) (fit : Fit) (row : Row) (form : ℕ) → has_kept table row (alias.Repeat form) ≡ true → Filled (row_operands row) fit.helds →
    IsSettled table (settled (alias.Repeat form) fit)
unfolding settled
settled_repeat table fit row form e f =
    let k = kept_is row (alias.Repeat form) (slice_get table form) e in
    let parts = then_parts (is_own k.target.alias) (same_spellings (twice_operands row) (row_operands k.target)) k.kept in
    record {
      row = k.target;
      at = k.at;
      filled = same_filled (twice_operands row) (row_operands k.target) (twice_first fit.helds) parts.1 (twice_filled row fit.helds f);
      stays = own_stays k.target.alias _ parts.0;
    }

-- the row without the number that is 0
zero_left : (table : List Row) (fit : Fit) (row : Row) (form place : ℕ) → has_kept table row (alias.ZeroAs form place) ≡ true → Filled (row_operands row) fit.helds →
    IsSettled table (record { form = form; helds = without_number fit.helds place })
zero_left table fit row form place e f =
    let k = kept_is row (alias.ZeroAs form place) (slice_get table form) e in
    let parts = then_parts (is_own k.target.alias) (same_without place (row_operands row) (row_operands k.target)) k.kept in
    record {
      row = k.target;
      at = k.at;
      filled = without_filled place (row_operands row) (row_operands k.target) fit.helds parts.1 f;
      stays = own_stays k.target.alias _ parts.0;
    }

cond_cases : {A : Type 0} (P : A → Type 0) (b : Bool) (x y : A) → P x → (b ≡ false → P y) → P (cond b x y)
cond_cases P true x y p q = p
cond_cases P false x y p q = q refl

settled_zero : (table : List Row) (fit : Fit) (row : Row) (form place : ℕ) → slice_get table fit.form ≡ Some row → row.alias ≡ alias.ZeroAs form place →
    has_kept table row (alias.ZeroAs form place) ≡ true → Filled (row_operands row) fit.helds → IsSettled table (settled (alias.ZeroAs form place) fit)
unfolding settled
settled_zero table fit row form place at is e f =
    let left : Fit = record { form = form; helds = without_number fit.helds place } in
    let zero_there : Bool = is_zero (held_at fit.helds place).number in
    cond_cases (λ (v : Fit). IsSettled table v) (is_zero (held_at fit.helds place).number) left fit (zero_left table fit row form place e f)
    (λ other. record { row = row; at = at; filled = f; stays = ap (λ a. settled a fit) is ∙ ap (λ b. cond b left fit) other })

settled_by : (table : List Row) (fit : Fit) (row : Row) (a : Alias) → slice_get table fit.form ≡ Some row → row.alias ≡ a →
    has_kept table row a ≡ true → Filled (row_operands row) fit.helds → IsSettled table (settled a fit)
unfolding settled
settled_by table fit row alias.Own at is e f = record { row = row; at = at; filled = f; stays = ap (λ a. settled a fit) is }
settled_by table fit row (alias.As form) at is e f = settled_as table fit row form e f
settled_by table fit row (alias.Repeat form) at is e f = settled_repeat table fit row form e f
settled_by table fit row (alias.ZeroAs form place) at is e f = settled_zero table fit row form place at is e f

-- each row of a table names one that keeps its spelling
pub all_kept_at : (table rows : List Row) (k : ℕ) (row : Row) → all_kept table rows ≡ true → slice_get rows k ≡ Some row → has_kept table row row.alias ≡ true
all_kept_at table [] k row e at = absurd cc
all_kept_at table (r ∷ rows) zero row e at =
    subst (λ (v : Row). has_kept table v v.alias ≡ true) (let same : r ≡ row = cc in same) (then_parts (has_kept table r r.alias) (all_kept table rows) e).0
all_kept_at table (r ∷ rows) (suc k) row e at = all_kept_at table rows k row (then_parts (has_kept table r r.alias) (all_kept table rows) e).1 at

-- What a row's alias leaves is kept by a row of the table.
pub settled_is : (table : List Row) (fit : Fit) (row : Row) → all_kept table table ≡ true → slice_get table fit.form ≡ Some row → Filled (row_operands row) fit.helds →
    IsSettled table (settled row.alias fit)
settled_is table fit row kept at f = settled_by table fit row row.alias at refl (all_kept_at table table fit.form row kept at) f
