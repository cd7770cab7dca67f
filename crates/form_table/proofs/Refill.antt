-- What operands took of a line they take again of what is printed of them.
use Rattle.std.proofs.Common.{◌≡◌, ◌∙◌, sym, ap, subst, ℕ, ◌==◌, Bool, true, false, cond, List, [], ◌∷◌, ◌++◌, refl, ◌⊎◌, inl, inr}
use Rattle.std.specs.Prelude.{ℤ, pos, Option, Some, None, is_some, unwrap_or, option_and_then}
use Rattle.std.specs.Str.{str_eq_ignore_ascii_case}
use Rattle.std.proofs.Math.Logic.{⊎_elim}
use Rattle.std.proofs.lemmas.Bool.{eq-eqb}
use Rattle.std.proofs.lemmas.Option.{option_and_then_some, cond_some, same_Some}
use Rattle.sl_model.specs.declared.register.Reg.{Reg}
use Rattle.form_table.specs.Items.{Item}
use Rattle.form_table.specs.Rows.{name_text}
use Rattle.form_table.specs.Spells.{Taken, item_register, condition_of, word_in, number_in, is_gap, is_mark_of, put, front}
use Rattle.form_table.specs.Printed.{condition_text}
use Rattle.form_table.specs.declared.rows.Letter.{Letter}
use Rattle.form_table.specs.declared.rows.Name.{Name}
use Rattle.form_table.specs.declared.rows.Slot.{Slot}
use Rattle.form_table.specs.declared.rows.Slot.TheVariants as slot
use Rattle.form_table.specs.declared.spells.Held.{Held}
use Rattle.form_table.proofs.Unique.{lower_same}
use Rattle.form_table.proofs.SlotItems.{register_item, slot_item, slot_items, ShowsRegister, ShowsCondition}
use Rattle.form_table.proofs.Named.{register_is_read, condition_is_read}
use Rattle.sl_laws.proofs.Tests.{else_parts, neither_parts}

-- Does a slot set the register of an operand, and does it set its number?
abbrev pub sets_register : Slot → Bool
sets_register slot.Gap = false
sets_register (slot.Mark code) = false
sets_register (slot.Name name) = false
sets_register (slot.Register letter) = true
sets_register slot.Number = false
sets_register slot.Index = false
sets_register slot.Condition = false

abbrev pub sets_number : Slot → Bool
sets_number slot.Gap = false
sets_number (slot.Mark code) = false
sets_number (slot.Name name) = false
sets_number (slot.Register letter) = false
sets_number slot.Number = true
sets_number slot.Index = true
sets_number slot.Condition = true

-- Does one of some slots?
abbrev pub set_register : List Slot → Bool
set_register [] = false
set_register (s ∷ slots) = cond (sets_register s) true (set_register slots)

abbrev pub set_number : List Slot → Bool
set_number [] = false
set_number (s ∷ slots) = cond (sets_number s) true (set_number slots)

-- Does no slot set what an earlier one has set?
abbrev pub is_single : List Slot → Bool
is_single [] = true
is_single (s ∷ slots) = cond (cond (sets_register s) (set_register slots) false) false (cond (cond (sets_number s) (set_number slots) false) false (is_single slots))

-- An operand has what a slot prints, whatever the size of its number.
abbrev pub Holds : Held → Slot → Type 0
Holds held slot.Gap = Unit {0}
Holds held (slot.Mark code) = Unit {0}
Holds held (slot.Name name) = Unit {0}
Holds held (slot.Register letter) = ShowsRegister letter held.register
Holds held slot.Number = is_some held.number ≡ true
Holds held slot.Index = is_some held.number ≡ true
Holds held slot.Condition = ShowsCondition held.number

abbrev pub HoldsSlots : Held → List Slot → Type 0
HoldsSlots held [] = Unit {0}
HoldsSlots held (s ∷ slots) = Holds held s × HoldsSlots held slots

-- What an operand has in the end is what a slot has set.
pub record Keeps (s : Slot) (next final : Held) : Type 0 where
  pub register : sets_register s ≡ true → final.register ≡ next.register
  pub number : sets_number s ≡ true → final.number ≡ next.number

-- What a slot did with an item: what it doesn't set stays, what it sets is there, and it does the same with what is printed.
pub record IsPut (held next : Held) (s : Slot) : Type 0 where
  pub register : sets_register s ≡ false → next.register ≡ held.register
  pub number : sets_number s ≡ false → next.number ≡ held.number
  pub register_there : sets_register s ≡ true → is_some next.register ≡ true
  pub number_there : sets_number s ≡ true → is_some next.number ≡ true
  pub holds : (final : Held) → Keeps s next final → Holds final s
  pub again : (final : Held) → Keeps s next final → put held s (slot_item final s) ≡ Some next

-- a word is the same as itself
pub same_word : (text : List ℕ) → str_eq_ignore_ascii_case text text ≡ true
same_word text = lower_same text text refl

put_gap : (held next : Held) (item : Item) → put held slot.Gap item ≡ Some next → IsPut held next slot.Gap
unfolding put slot_item
put_gap held next item e =
    let same : held ≡ next = (cond_some (is_gap item) held next e).1 in
    record {
      register = λ t. ap (λ (h : Held). h.register) (sym same);
      number = λ t. ap (λ (h : Held). h.number) (sym same);
      register_there = λ t. absurd cc;
      number_there = λ t. absurd cc;
      holds = λ final k. tt;
      again = λ final k. ap Some same;
    }

put_mark : (held next : Held) (code : ℕ) (item : Item) → put held (slot.Mark code) item ≡ Some next → IsPut held next (slot.Mark code)
unfolding put slot_item
put_mark held next code item e =
    let same : held ≡ next = (cond_some (is_mark_of code item) held next e).1 in
    let test : (code == code) ≡ true = eq-eqb code code refl in
    record {
      register = λ t. ap (λ (h : Held). h.register) (sym same);
      number = λ t. ap (λ (h : Held). h.number) (sym same);
      register_there = λ t. absurd cc;
      number_there = λ t. absurd cc;
      holds = λ final k. tt;
      again = λ final k. ap (λ b. cond b (Some held) None) test ∙ ap Some same;
    }

put_name : (held next : Held) (name : Name) (item : Item) → put held (slot.Name name) item ≡ Some next → IsPut held next (slot.Name name)
unfolding put slot_item
put_name held next name item e =
    option_and_then_some (λ text. cond (str_eq_ignore_ascii_case text (name_text name)) (Some held) None) (word_in item) next e
    (λ text is_word made.
    let same : held ≡ next = (cond_some (str_eq_ignore_ascii_case text (name_text name)) held next made).1 in
    record {
      register = λ t. ap (λ (h : Held). h.register) (sym same);
      number = λ t. ap (λ (h : Held). h.number) (sym same);
      register_there = λ t. absurd cc;
      number_there = λ t. absurd cc;
      holds = λ final k. tt;
      again = λ final k. ap (λ b. cond b (Some held) None) (same_word (name_text name)) ∙ ap Some same;
    })

-- an operand with another register, and with another number
abbrev pub with_register : Held → Option Reg → Held
with_register held o = record { register = o; number = held.number }

abbrev pub with_number : Held → Option ℤ → Held
with_number held o = record { register = held.register; number = o }

pub register_again : (held final : Held) (letter : Letter) (o : Option Reg) → final.register ≡ o → (s : ShowsRegister letter o) →
    put held (slot.Register letter) (slot_item final (slot.Register letter)) ≡ Some (with_register held o)
unfolding put slot_item
register_again held final letter o e s =
    ap (λ p. option_and_then (λ r. Some (with_register held (Some r))) (item_register letter (register_item letter p))) (e ∙ s.is)
    ∙ (ap (λ p. option_and_then (λ r. Some (with_register held (Some r))) p) s.named
    ∙ ap (λ p. Some (with_register held p)) (sym s.is))

put_register : (held next : Held) (letter : Letter) (item : Item) → put held (slot.Register letter) item ≡ Some next → IsPut held next (slot.Register letter)
unfolding put
put_register held next letter item e =
    option_and_then_some (λ r. Some (with_register held (Some r))) (item_register letter item) next e
    (λ r found made.
    let same : with_register held (Some r) ≡ next = same_Some (with_register held (Some r)) next made in
    let register : next.register ≡ Some r = ap (λ (h : Held). h.register) (sym same) in
    let shown : ShowsRegister letter (Some r) = register_is_read letter item r found in
    record {
      register = λ t. absurd cc;
      number = λ t. ap (λ (h : Held). h.number) (sym same);
      register_there = λ t. ap is_some register;
      number_there = λ t. absurd cc;
      holds = λ final k. subst (λ o. ShowsRegister letter o) (sym (k.register refl ∙ register)) shown;
      again = λ final k. register_again held final letter (Some r) (k.register refl ∙ register) shown ∙ ap Some same;
    })

put_number : (held next : Held) (item : Item) → put held slot.Number item ≡ Some next → IsPut held next slot.Number
unfolding put slot_item
put_number held next item e =
    option_and_then_some (λ n. Some (with_number held (Some n))) (number_in item) next e
    (λ n is_number made.
    let same : with_number held (Some n) ≡ next = same_Some (with_number held (Some n)) next made in
    let number : next.number ≡ Some n = ap (λ (h : Held). h.number) (sym same) in
    record {
      register = λ t. ap (λ (h : Held). h.register) (sym same);
      number = λ t. absurd cc;
      register_there = λ t. absurd cc;
      number_there = λ t. ap is_some number;
      holds = λ final k. ap is_some (k.number refl ∙ number);
      again = λ final k. ap (λ o. Some (with_number held (Some (unwrap_or o (pos 0))))) (k.number refl ∙ number) ∙ ap Some same;
    })

put_index : (held next : Held) (item : Item) → put held slot.Index item ≡ Some next → IsPut held next slot.Index
unfolding put slot_item
put_index held next item e =
    option_and_then_some (λ n. Some (with_number held (Some n))) (number_in item) next e
    (λ n is_number made.
    let same : with_number held (Some n) ≡ next = same_Some (with_number held (Some n)) next made in
    let number : next.number ≡ Some n = ap (λ (h : Held). h.number) (sym same) in
    record {
      register = λ t. ap (λ (h : Held). h.register) (sym same);
      number = λ t. absurd cc;
      register_there = λ t. absurd cc;
      number_there = λ t. ap is_some number;
      holds = λ final k. ap is_some (k.number refl ∙ number);
      again = λ final k. ap (λ o. Some (with_number held (Some (unwrap_or o (pos 0))))) (k.number refl ∙ number) ∙ ap Some same;
    })

condition_again : (held final : Held) (o : Option ℤ) → final.number ≡ o → (s : ShowsCondition o) →
    put held slot.Condition (slot_item final slot.Condition) ≡ Some (with_number held o)
unfolding put slot_item
condition_again held final o e s =
    ap (λ p. option_and_then (λ n. Some (with_number held (Some (pos n)))) (condition_of (condition_text p))) (e ∙ s.is)
    ∙ (ap (λ p. option_and_then (λ n. Some (with_number held (Some (pos n)))) p) s.named
    ∙ ap (λ p. Some (with_number held p)) (sym s.is))

put_condition : (held next : Held) (item : Item) → put held slot.Condition item ≡ Some next → IsPut held next slot.Condition
unfolding put
put_condition held next item e =
    option_and_then_some (λ text. option_and_then (λ n. Some (with_number held (Some (pos n)))) (condition_of text)) (word_in item) next e
    (λ text is_word some. option_and_then_some (λ n. Some (with_number held (Some (pos n)))) (condition_of text) next some
    (λ n found made.
    let same : with_number held (Some (pos n)) ≡ next = same_Some (with_number held (Some (pos n))) next made in
    let number : next.number ≡ Some (pos n) = ap (λ (h : Held). h.number) (sym same) in
    let shown : ShowsCondition (Some (pos n)) = condition_is_read text n found in
    record {
      register = λ t. ap (λ (h : Held). h.register) (sym same);
      number = λ t. absurd cc;
      register_there = λ t. absurd cc;
      number_there = λ t. ap is_some number;
      holds = λ final k. subst (λ o. ShowsCondition o) (sym (k.number refl ∙ number)) shown;
      again = λ final k. condition_again held final (Some (pos n)) (k.number refl ∙ number) shown ∙ ap Some same;
    }))

put_is : (held next : Held) (s : Slot) (item : Item) → put held s item ≡ Some next → IsPut held next s
put_is held next slot.Gap item e = put_gap held next item e
put_is held next (slot.Mark code) item e = put_mark held next code item e
put_is held next (slot.Name name) item e = put_name held next name item e
put_is held next (slot.Register letter) item e = put_register held next letter item e
put_is held next slot.Number item e = put_number held next item e
put_is held next slot.Index item e = put_index held next item e
put_is held next slot.Condition item e = put_condition held next item e

-- What the slots of an operand did: the same, and they take again what is printed.
pub record IsFront (held : Held) (slots : List Slot) (final : Held) : Type 0 where
  pub register : set_register slots ≡ false → final.register ≡ held.register
  pub number : set_number slots ≡ false → final.number ≡ held.number
  pub register_there : set_register slots ≡ true → is_some final.register ≡ true
  pub number_there : set_number slots ≡ true → is_some final.number ≡ true
  pub holds : HoldsSlots final slots
  pub again : (more : List Item) → front held slots (slot_items final slots ++ more) ≡ Some (record { held = final; rest = more })

not_both : (a b : Bool) → cond a b false ≡ false → a ≡ true → b ≡ false
not_both true b e t = e
not_both false b e t = absurd cc

one_of : (a b : Bool) → cond a true b ≡ true → (b ≡ true) ⊎ ((a ≡ true) × (b ≡ false))
one_of true true e = inl refl
one_of true false e = inr (refl, refl)
one_of false b e = inl e

pub front_none : (held final : Held) → held ≡ final → IsFront held [] final
unfolding front slot_items
front_none held final e = record {
  register = λ t. ap (λ (h : Held). h.register) (sym e);
  number = λ t. ap (λ (h : Held). h.number) (sym e);
  register_there = λ t. absurd cc;
  number_there = λ t. absurd cc;
  holds = tt;
  again = λ more. ap (λ (h : Held). Some (let t : Taken = record { held = h; rest = more } in t)) e;
}

front_again : (held next final : Held) (s : Slot) (slots : List Slot) (more : List Item) → put held s (slot_item final s) ≡ Some next →
    (let t : Taken = record { held = final; rest = more } in front next slots (slot_items final slots ++ more) ≡ Some t → front held (s ∷ slots) (slot_items final (s ∷ slots) ++ more) ≡ Some t)
unfolding front slot_items
front_again held next final s slots more e f = ap (λ o. option_and_then (λ h. front h slots (slot_items final slots ++ more)) o) e ∙ f

front_some : (held next final : Held) (s : Slot) (slots : List Slot) → is_single (s ∷ slots) ≡ true → IsPut held next s → IsFront next slots final → IsFront held (s ∷ slots) final
front_some held next final s slots single p f =
    let one = else_parts (cond (sets_register s) (set_register slots) false) (cond (cond (sets_number s) (set_number slots) false) false (is_single slots)) single in
    let two = else_parts (cond (sets_number s) (set_number slots) false) (is_single slots) one.1 in
    let keeps : Keeps s next final = record {
      register = λ t. f.register (not_both (sets_register s) (set_register slots) one.0 t);
      number = λ t. f.number (not_both (sets_number s) (set_number slots) two.0 t);
    } in
    record {
      register = λ t. let parts = neither_parts (sets_register s) (set_register slots) t in f.register parts.1 ∙ p.register parts.0;
      number = λ t. let parts = neither_parts (sets_number s) (set_number slots) t in f.number parts.1 ∙ p.number parts.0;
      register_there = λ t. ⊎_elim f.register_there (λ w. ap is_some (f.register w.1) ∙ p.register_there w.0) (one_of (sets_register s) (set_register slots) t);
      number_there = λ t. ⊎_elim f.number_there (λ w. ap is_some (f.number w.1) ∙ p.number_there w.0) (one_of (sets_number s) (set_number slots) t);
      holds = (p.holds final keeps, f.holds);
      again = λ more. front_again held next final s slots more (p.again final keeps) (f.again more);
    }

-- What the slots of an operand took of items.
pub front_is : (held : Held) (slots : List Slot) (items : List Item) (t : Taken) → is_single slots ≡ true → front held slots items ≡ Some t → IsFront held slots t.held
unfolding front
front_is held [] items t single e =
    let made : Taken = record { held = held; rest = items } in
    front_none held t.held (ap (λ (v : Taken). v.held) (same_Some made t e))
front_is held (s ∷ slots) [] t single e = absurd cc
front_is held (s ∷ slots) (item ∷ items) t single e =
    let one = else_parts (cond (sets_register s) (set_register slots) false) (cond (cond (sets_number s) (set_number slots) false) false (is_single slots)) single in
    let two = else_parts (cond (sets_number s) (set_number slots) false) (is_single slots) one.1 in
    option_and_then_some (λ next. front next slots items) (put held s item) t e
    (λ next took rest. front_some held next t.held s slots single (put_is held next s item took) (front_is next slots items t two.1 rest))
