-- An operand with another register takes what is printed of it.
use Rattle.std.proofs.Common.{◌≡◌, ◌∙◌, sym, ap, subst, refl, ℕ, ◌==◌, Bool, true, cond, List, [], ◌∷◌, ◌++◌}
use Rattle.std.specs.Prelude.{pos, Option, Some, None, is_some, option_and_then, option_map}
use Rattle.std.specs.Str.{str_eq_ignore_ascii_case}
use Rattle.std.proofs.lemmas.Bool.{eq-eqb, not-true}
use Rattle.std.proofs.lemmas.Option.{option_and_then_some, same_Some}
use Rattle.sl_model.specs.declared.register.Reg.{Reg}
use Rattle.sl_model.specs.declared.register.RegSet.{RegSet}
use Rattle.sl_model.specs.RegSets.{set_has}
use Rattle.sl_model.specs.Lawful.{suits_set, is_of_bank}
use Rattle.sl_isa.specs.Language.{is_concrete}
use Rattle.form_table.specs.Items.{Item}
use Rattle.form_table.specs.Rows.{name_text, slots_of}
use Rattle.form_table.specs.Spells.{Taken, empty, put, front, condition_of}
use Rattle.form_table.specs.Reads.{register_suits}
use Rattle.form_table.specs.Printed.{condition_text}
use Rattle.form_table.specs.Tables.{spells_class}
use Rattle.form_table.specs.declared.rows.Letter.{Letter}
use Rattle.form_table.specs.declared.rows.Letter.TheVariants as letter
use Rattle.form_table.specs.declared.rows.Slot.{Slot}
use Rattle.form_table.specs.declared.rows.Slot.TheVariants as slot
use Rattle.form_table.specs.declared.rows.Shape.{Shape}
use Rattle.form_table.specs.declared.rows.Shape.TheVariants as shape
use Rattle.form_table.specs.declared.rows.Operand.{Operand}
use Rattle.form_table.specs.declared.spells.Held.{Held}
use Rattle.form_table.proofs.Again.{IsShaped}
use Rattle.form_table.proofs.SlotItems.{slot_item, slot_items, ShowsRegister}
use Rattle.form_table.proofs.Refill.{Holds, HoldsSlots, front_is, same_word, with_register, with_number, register_again}
use Rattle.form_table.proofs.Filled.{Fills, single_first, fills_shaped, goes_on}
use Rattle.form_table.proofs.LetterRegisters.{class_shows}
use Rattle.sl_laws.proofs.Tests.{some_value, is_none_from}

-- Is a register one of the machine, if there is one?
abbrev pub is_plain_register : Option Reg → Bool
is_plain_register None = true
is_plain_register (Some r) = is_concrete r

-- an operand with another register, if it has one
abbrev swapped : Reg → Held → Held
swapped q held = record { register = option_map (λ (r : Reg). q) held.register; number = held.number }

-- A slot for a register spells this one.
abbrev SpellsIt : Reg → Slot → Type 0
SpellsIt q slot.Gap = Unit {0}
SpellsIt q (slot.Mark code) = Unit {0}
SpellsIt q (slot.Name name) = Unit {0}
SpellsIt q (slot.Register l) = ShowsRegister l (Some q)
SpellsIt q slot.Number = Unit {0}
SpellsIt q slot.Index = Unit {0}
SpellsIt q slot.Condition = Unit {0}

abbrev SpellIt : Reg → List Slot → Type 0
SpellIt q [] = Unit {0}
SpellIt q (s ∷ slots) = SpellsIt q s × SpellIt q slots

-- a slot without register does the same
swapped_some : (q : Reg) (held next : Held) → (let o : Option Held = Some held in o ≡ Some next) → (let o : Option Held = Some (swapped q held) in o ≡ Some (swapped q next))
swapped_some q held next e = ap (option_map (swapped q)) e

swapped_test : (q : Reg) (held next : Held) (b : Bool) → b ≡ true → cond b (Some held) None ≡ Some next → cond b (Some (swapped q held)) None ≡ Some (swapped q next)
swapped_test q held next b t e =
    ap (λ (c : Bool). cond c (Some (swapped q held)) None) t ∙ swapped_some q held next (sym (ap (λ (c : Bool). cond c (Some held) None) t) ∙ e)

swapped_condition : (q : Reg) (held next : Held) (o : Option ℕ) → option_and_then (λ n. Some (with_number held (Some (pos n)))) o ≡ Some next
    → option_and_then (λ n. Some (with_number (swapped q held) (Some (pos n)))) o ≡ Some (swapped q next)
swapped_condition q held next None e = absurd cc
swapped_condition q held next (Some n) e = ap (option_map (swapped q)) e

-- a slot for a register takes the other one
swapped_register : (q : Reg) (held next final : Held) (l : Letter) → ShowsRegister l (Some q) → ShowsRegister l final.register
    → put held (slot.Register l) (slot_item final (slot.Register l)) ≡ Some next
    → put (swapped q held) (slot.Register l) (slot_item (swapped q final) (slot.Register l)) ≡ Some (swapped q next)
swapped_register q held next final l shows old e =
    let there : (swapped q final).register ≡ Some q = ap (option_map (λ (r : Reg). q)) old.is in
    let made : with_register held final.register ≡ next =
    same_Some (with_register held final.register) next (sym (register_again held final l final.register refl old) ∙ e) in
    register_again (swapped q held) (swapped q final) l (Some q) there shows
    ∙ ap (λ (o : Option Reg). Some (with_register (swapped q held) o)) (sym there)
    ∙ ap (λ (h : Held). Some (swapped q h)) made

put_swapped : (q : Reg) (held next final : Held) (s : Slot) → SpellsIt q s → Holds final s → put held s (slot_item final s) ≡ Some next
    → put (swapped q held) s (slot_item (swapped q final) s) ≡ Some (swapped q next)
unfolding put slot_item
put_swapped q held next final slot.Gap spells holds e = swapped_some q held next e
put_swapped q held next final (slot.Mark code) spells holds e = swapped_test q held next (code == code) (eq-eqb code code refl) e
put_swapped q held next final (slot.Name n) spells holds e =
    swapped_test q held next (str_eq_ignore_ascii_case (name_text n) (name_text n)) (same_word (name_text n)) e
put_swapped q held next final (slot.Register l) spells holds e = swapped_register q held next final l spells holds e
put_swapped q held next final slot.Number spells holds e = swapped_some q _ next e
put_swapped q held next final slot.Index spells holds e = swapped_some q _ next e
put_swapped q held next final slot.Condition spells holds e = swapped_condition q held next (condition_of (condition_text final.number)) e

-- what slots took, and what is left
abbrev taking : Held → List Item → Option Taken
taking held more = Some (record { held = held; rest = more })

front_swapped : (q : Reg) (held final : Held) (slots : List Slot) (more : List Item) → SpellIt q slots → HoldsSlots final slots
    → front held slots (slot_items final slots ++ more) ≡ taking final more
    → front (swapped q held) slots (slot_items (swapped q final) slots ++ more) ≡ taking (swapped q final) more
unfolding front slot_items
front_swapped q held final [] more spell holds e = ap (option_map (λ (t : Taken). let u : Taken = record { held = swapped q t.held; rest = t.rest } in u)) e
front_swapped q held final (s ∷ slots) more spell holds e =
    option_and_then_some (λ next. front next slots (slot_items final slots ++ more)) (put held s (slot_item final s)) _ e
    (λ next took rest.
    goes_on (λ h. front h slots (slot_items (swapped q final) slots ++ more)) (put (swapped q held) s (slot_item (swapped q final) s)) (swapped q next) _
    (put_swapped q held next final s spell.0 holds.0 took) (front_swapped q next final slots more spell.1 holds.1 rest))

-- an operand that holds what it took does so with another register that it spells
swapped_fills : (q : Reg) (s : Shape) (held : Held) → SpellIt q (slots_of slot.Gap s) → Fills s held → Fills s (swapped q held)
swapped_fills q s held spell f = record {
  front = front_is empty (slots_of slot.Gap s) (slot_items (swapped q held) (slots_of slot.Gap s) ++ []) (record { held = swapped q held; rest = [] })
      (single_first s) (front_swapped q empty held (slots_of slot.Gap s) [] spell f.front.holds (f.front.again []));
}

-- the slots of a shape spell the registers of its operand's class
shape_spells : (s : Shape) (set : RegSet) (q : Reg) → spells_class s set ≡ true → set_has set q ≡ true → SpellIt q (slots_of slot.Gap s)
shape_spells shape.Nothing set q e has = tt
shape_spells (shape.Register l) set q e has = (tt, (class_shows l set q e has, tt))
shape_spells shape.Number set q e has = (tt, (tt, tt))
shape_spells shape.Condition set q e has = (tt, (tt, tt))
shape_spells (shape.Shift name) set q e has = (tt, (tt, (tt, (tt, tt))))
shape_spells (shape.Lanes name) set q e has = (tt, (class_shows letter.V set q e has, (tt, (tt, tt))))
shape_spells (shape.Lane name) set q e has = (tt, (class_shows letter.V set q e has, (tt, (tt, (tt, (tt, (tt, tt)))))))
shape_spells (shape.Base l) set q e has = (tt, (tt, (class_shows l set q e has, (tt, tt))))
shape_spells (shape.Offset l) set q e has = (tt, (tt, (class_shows l set q e has, (tt, (tt, (tt, tt))))))
shape_spells (shape.Before l) set q e has = (tt, (tt, (class_shows l set q e has, (tt, (tt, (tt, (tt, tt)))))))

same_held : (old new : Held) → old.register ≡ new.register → old.number ≡ new.number → old ≡ new
same_held old new e f =
    ap (λ (o : Option Reg). let h : Held = record { register = o; number = old.number } in h) e
    ∙ ap (λ n. let h : Held = record { register = new.register; number = n } in h) f

-- Is an operand's register one of the machine, if it has one?
abbrev pub is_plain : Held → Bool
is_plain held = is_plain_register held.register

-- a register of the machine that suits a class is of it
plain_of : (set : RegSet) (r : Reg) → is_concrete r ≡ true → suits_set (r, set) ≡ true → set_has set r ≡ true
plain_of set r plain suits = sym (ap (λ b. cond b (is_of_bank r.bank set) (set_has set r)) (not-true r.symbolic plain)) ∙ suits

-- What an operand of a shape took is taken too with another register of its class.
pub renamed_fills : (operand : Operand) (old new : Held) → spells_class operand.shape operand.class ≡ true → Fills operand.shape old → IsShaped operand new
    → new.number ≡ old.number → register_suits operand new.register ≡ true → is_plain new ≡ true → Fills operand.shape new
renamed_fills operand old new spells f shaped number suits plain = by new.register refl
  where
    alike : is_some old.register ≡ is_some new.register
    alike = (fills_shaped operand old f).register ∙ sym shaped.register

    other : (q : Reg) → new.register ≡ Some q → Fills operand.shape new
    other q e =
        let r = some_value old.register (alike ∙ ap is_some e) in
        let has : set_has operand.class q ≡ true = plain_of operand.class q (sym (ap is_plain_register e) ∙ plain) (sym (ap (register_suits operand) e) ∙ suits) in
        subst (Fills operand.shape)
        (same_held (swapped q old) new (ap (option_map (λ (p : Reg). q)) r.1 ∙ sym e) (sym number))
        (swapped_fills q operand.shape old (shape_spells operand.shape operand.class q spells has) f)

    by : (o : Option Reg) → new.register ≡ o → Fills operand.shape new
    by None e = subst (Fills operand.shape) (same_held old new (is_none_from old.register (alike ∙ ap is_some e) ∙ sym e) (sym number)) f
    by (Some q) e = other q e
