-- What fills a row: each operand holds what its shape has, and fills it again by what is printed of it.
use Rattle.std.proofs.Common.{◌≡◌, ◌∙◌, ap, subst, Bool, true, false, List, [], ◌∷◌, ◌++◌, refl}
use Rattle.std.specs.Prelude.{Option, Some, None, is_some, option_and_then}
use Rattle.std.proofs.lemmas.Option.{option_and_then_some, same_Some}
use Rattle.form_table.specs.Items.{Item}
use Rattle.form_table.specs.Rows.{row_operands, slots_of}
use Rattle.form_table.specs.Spells.{Taken, empty, put, front, comma, ended, fill}
use Rattle.form_table.specs.Printed.{has_register, has_number}
use Rattle.form_table.specs.declared.rows.Slot.{Slot}
use Rattle.form_table.specs.declared.rows.Slot.TheVariants as slot
use Rattle.form_table.specs.declared.rows.Shape.{Shape}
use Rattle.form_table.specs.declared.rows.Shape.TheVariants as shape
use Rattle.form_table.specs.declared.rows.Operand.{Operand}
use Rattle.form_table.specs.declared.rows.Row.{Row}
use Rattle.form_table.specs.declared.spells.Held.{Held}
use Rattle.form_table.proofs.Again.{IsShaped, Shaped}
use Rattle.form_table.proofs.SlotItems.{slot_item, slot_items, operand_items}
use Rattle.form_table.proofs.Refill.{set_register, set_number, is_single, IsFront, front_is}

pub single_first : (s : Shape) → is_single (slots_of slot.Gap s) ≡ true
single_first shape.Nothing = refl
single_first (shape.Register letter) = refl
single_first shape.Number = refl
single_first shape.Condition = refl
single_first (shape.Shift name) = refl
single_first (shape.Lanes name) = refl
single_first (shape.Lane name) = refl
single_first (shape.Base letter) = refl
single_first (shape.Offset letter) = refl
single_first (shape.Before letter) = refl

single_later : (s : Shape) → is_single (slots_of comma s) ≡ true
single_later shape.Nothing = refl
single_later (shape.Register letter) = refl
single_later shape.Number = refl
single_later shape.Condition = refl
single_later (shape.Shift name) = refl
single_later (shape.Lanes name) = refl
single_later (shape.Lane name) = refl
single_later (shape.Base letter) = refl
single_later (shape.Offset letter) = refl
single_later (shape.Before letter) = refl

pub set_register_is : (s : Shape) → set_register (slots_of slot.Gap s) ≡ has_register s
set_register_is shape.Nothing = refl
set_register_is (shape.Register letter) = refl
set_register_is shape.Number = refl
set_register_is shape.Condition = refl
set_register_is (shape.Shift name) = refl
set_register_is (shape.Lanes name) = refl
set_register_is (shape.Lane name) = refl
set_register_is (shape.Base letter) = refl
set_register_is (shape.Offset letter) = refl
set_register_is (shape.Before letter) = refl

pub set_number_is : (s : Shape) → set_number (slots_of slot.Gap s) ≡ has_number s
set_number_is shape.Nothing = refl
set_number_is (shape.Register letter) = refl
set_number_is shape.Number = refl
set_number_is shape.Condition = refl
set_number_is (shape.Shift name) = refl
set_number_is (shape.Lanes name) = refl
set_number_is (shape.Lane name) = refl
set_number_is (shape.Base letter) = refl
set_number_is (shape.Offset letter) = refl
set_number_is (shape.Before letter) = refl

-- it doesn't matter whether a blank or a comma leads to an operand
behind_blank : (slots : List Slot) (held : Held) → IsFront empty (comma ∷ slots) held → IsFront empty (slot.Gap ∷ slots) held
unfolding front slot_items slot_item put
behind_blank slots held f = record {
  register = f.register;
  number = f.number;
  register_there = f.register_there;
  number_there = f.number_there;
  holds = (tt, f.holds.1);
  again = f.again;
}

behind_comma : (slots : List Slot) (held : Held) → IsFront empty (slot.Gap ∷ slots) held → IsFront empty (comma ∷ slots) held
unfolding front slot_items slot_item put
behind_comma slots held f = record {
  register = f.register;
  number = f.number;
  register_there = f.register_there;
  number_there = f.number_there;
  holds = (tt, f.holds.1);
  again = f.again;
}

-- An operand of a shape holds what it took.
pub record Fills (s : Shape) (held : Held) : Type 0 where
  pub front : IsFront empty (slots_of slot.Gap s) held

lead_first : (s : Shape) (held : Held) → IsFront empty (slots_of comma s) held → IsFront empty (slots_of slot.Gap s) held
lead_first shape.Nothing held f = f
lead_first (shape.Register letter) held f = behind_blank _ held f
lead_first shape.Number held f = behind_blank _ held f
lead_first shape.Condition held f = behind_blank _ held f
lead_first (shape.Shift name) held f = behind_blank _ held f
lead_first (shape.Lanes name) held f = behind_blank _ held f
lead_first (shape.Lane name) held f = behind_blank _ held f
lead_first (shape.Base letter) held f = behind_blank _ held f
lead_first (shape.Offset letter) held f = behind_blank _ held f
lead_first (shape.Before letter) held f = behind_blank _ held f

lead_later : (s : Shape) (held : Held) → IsFront empty (slots_of slot.Gap s) held → IsFront empty (slots_of comma s) held
lead_later shape.Nothing held f = f
lead_later (shape.Register letter) held f = behind_comma _ held f
lead_later shape.Number held f = behind_comma _ held f
lead_later shape.Condition held f = behind_comma _ held f
lead_later (shape.Shift name) held f = behind_comma _ held f
lead_later (shape.Lanes name) held f = behind_comma _ held f
lead_later (shape.Lane name) held f = behind_comma _ held f
lead_later (shape.Base letter) held f = behind_comma _ held f
lead_later (shape.Offset letter) held f = behind_comma _ held f
lead_later (shape.Before letter) held f = behind_comma _ held f

first_fills : (s : Shape) (items : List Item) (t : Taken) → front empty (slots_of slot.Gap s) items ≡ Some t → Fills s t.held
first_fills s items t e = record { front = front_is empty (slots_of slot.Gap s) items t (single_first s) e }

later_fills : (s : Shape) (items : List Item) (t : Taken) → front empty (slots_of comma s) items ≡ Some t → Fills s t.held
later_fills s items t e = record { front = lead_first s t.held (front_is empty (slots_of comma s) items t (single_later s) e) }

-- what an operand took is taken again
taken : Held → List Item → Taken
taken held more = record { held = held; rest = more }

first_again : (s : Shape) (held : Held) (more : List Item) → Fills s held → front empty (slots_of slot.Gap s) (slot_items held (slots_of slot.Gap s) ++ more) ≡ Some (taken held more)
unfolding taken
first_again s held more f = f.front.again more

later_again : (s : Shape) (held : Held) (more : List Item) → Fills s held → front empty (slots_of comma s) (slot_items held (slots_of comma s) ++ more) ≡ Some (taken held more)
unfolding taken
later_again s held more f = (lead_later s held f.front).again more

-- Each operand does.
abbrev pub Filled : List Operand → List Held → Type 0
Filled [] [] = Unit {0}
Filled [] (held ∷ helds) = ⊥
Filled (operand ∷ operands) [] = ⊥
Filled (operand ∷ operands) (held ∷ helds) = Fills operand.shape held × Filled operands helds

ended_is : (items : List Item) (helds kept : List Held) → ended items helds ≡ Some kept → helds ≡ kept
ended_is [] helds kept e = same_Some helds kept e
ended_is (item ∷ items) helds kept e = absurd cc

-- What items fill a row with, its operands hold.
pub fill_filled : (row : Row) (items : List Item) (helds : List Held) → fill row items ≡ Some helds → Filled (row_operands row) helds
unfolding fill
fill_filled row items helds e =
    option_and_then_some _ (front empty (slots_of slot.Gap row.first.shape) items) helds e
    (λ first e1 r1. option_and_then_some _ (front empty (slots_of comma row.second.shape) first.rest) helds r1
    (λ second e2 r2. option_and_then_some _ (front empty (slots_of comma row.third.shape) second.rest) helds r2
    (λ third e3 r3. option_and_then_some _ (front empty (slots_of comma row.fourth.shape) third.rest) helds r3
    (λ fourth e4 r4. option_and_then_some _ (front empty (slots_of comma row.fifth.shape) fourth.rest) helds r4
    (λ fifth e5 r5.
    subst (λ (v : List Held). Filled (row_operands row) v) (ended_is fifth.rest _ helds r5) (
      first_fills row.first.shape items first e1,
      (
        later_fills row.second.shape first.rest second e2,
        (
          later_fills row.third.shape second.rest third e3,
          (later_fills row.fourth.shape third.rest fourth e4, (later_fills row.fifth.shape fourth.rest fifth e5, tt)),
        ),
      ),
    ))))))

pub goes_on : {A B : Type 0} (f : A → Option B) (o : Option A) (x : A) (r : Option B) → o ≡ Some x → f x ≡ r → option_and_then f o ≡ r
goes_on f o x r e g = ap (option_and_then f) e ∙ g

-- What is printed of them fills the row with the same again.
pub filled_again : (row : Row) (helds : List Held) → Filled (row_operands row) helds → fill row (operand_items slot.Gap (row_operands row) helds) ≡ Some helds
unfolding fill operand_items taken
filled_again row [] f = absurd f
filled_again row (a ∷ []) f = absurd f.1
filled_again row (a ∷ b ∷ []) f = absurd f.1.1
filled_again row (a ∷ b ∷ c ∷ []) f = absurd f.1.1.1
filled_again row (a ∷ b ∷ c ∷ d ∷ []) f = absurd f.1.1.1.1
filled_again row (a ∷ b ∷ c ∷ d ∷ g ∷ h ∷ helds) f = absurd f.1.1.1.1.1
filled_again row (a ∷ b ∷ c ∷ d ∷ g ∷ []) f =
    goes_on _ _ _ _ (first_again row.first.shape a _ f.0)
    (goes_on _ _ _ _ (later_again row.second.shape b _ f.1.0)
    (goes_on _ _ _ _ (later_again row.third.shape c _ f.1.1.0)
    (goes_on _ _ _ _ (later_again row.fourth.shape d _ f.1.1.1.0)
    (goes_on _ _ _ _ (later_again row.fifth.shape g [] f.1.1.1.1.0) refl))))

-- An operand's register and number are there exactly where its shape has them.
there_or_none : {A : Type 0} (b : Bool) (o : Option A) → (b ≡ true → is_some o ≡ true) → (b ≡ false → o ≡ None) → is_some o ≡ b
there_or_none true o yes_there none = yes_there refl
there_or_none false o yes_there none = ap is_some (none refl)

pub fills_shaped : (operand : Operand) (held : Held) → Fills operand.shape held → IsShaped operand held
fills_shaped operand held f = record {
  register = there_or_none (set_register (slots_of slot.Gap operand.shape)) held.register f.front.register_there f.front.register ∙ set_register_is operand.shape;
  number = there_or_none (set_number (slots_of slot.Gap operand.shape)) held.number f.front.number_there f.front.number ∙ set_number_is operand.shape;
}

pub filled_shaped : (operands : List Operand) (helds : List Held) → Filled operands helds → Shaped operands helds
filled_shaped [] [] f = tt
filled_shaped [] (held ∷ helds) f = absurd f
filled_shaped (operand ∷ operands) [] f = absurd f
filled_shaped (operand ∷ operands) (held ∷ helds) f = (fills_shaped operand held f.0, filled_shaped operands helds f.1)
