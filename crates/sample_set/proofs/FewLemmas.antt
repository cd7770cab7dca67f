-- What the code of the small instruction set gives: accesses, stored bytes and examples.
use Rattle.std.proofs.Common.{◌≡◌, ◌≢◌, ◌∙◌, ℕ, ◌+◌, ◌%◌, ◌^◌, ◌<◌, ◌==◌, true, false, cond, filter, List, [], ◌∷◌, length, slice_index, Option, None, Some, ⊎_elim, refl, sym, ap, arith, add-zero}
use Rattle.std.proofs.lemmas.Bool.{and_from, cases_Bool, eq-eqb, eqb-true, lt-ltb, le-leb}
use Rattle.std.specs.Prelude.{if◌then◌else◌}
use Rattle.std.proofs.Math.Nat.{mod-add-mod}
use Rattle.std.specs.List.{list_all, filter_map, zip}
use Rattle.sl_model.specs.declared.register.Reg.{Reg}
use Rattle.sl_model.specs.declared.instruction.Instr.{Instr}
use Rattle.sl_model.specs.RegSets.{set_has, set_count}
use Rattle.sl_model.specs.Register.{same_reg}
use Rattle.sl_model.specs.Body.{all_differ}
use Rattle.sl_model.specs.Source.{padded, place_from}
use Rattle.sl_model.specs.Isa.{address_at}
use Rattle.sl_model.specs.Exec.{has_access, is_store, base_value}
use Rattle.sl_model.specs.Lawful.{IsValid, suits_set, is_tied_to, is_alone, is_base_alone}
use Rattle.sl_isa.specs.Arch.{access_of, stored_by}
use Rattle.sample_set.specs.declared.forms.Form.{Form}
use Rattle.sample_set.specs.FewLines.{placed, sum_of, subs_of, load_of, store_of}
use Rattle.sl_laws.proofs.Registers.{same_reg-refl}
use Rattle.sl_model.specs.declared.register.Bank.TheVariants.{General}
use Rattle.std.proofs.lemmas.Nat.Bits.{bit_at_ones}
use Rattle.sample_set.specs.FewForms.{few_isa, form_of, info_of, offset_by, stored_by_form, number_in, access_by, example, example_ins, example_outs, x_registers}
use Rattle.sample_set.specs.FewLaws.{each}

base_wrapped : (a : ℕ) → a % 2 ^ 64 ≡ (a + 0) % 2 ^ 64
base_wrapped a = ap (λ m. m % 2 ^ 64) (sym (add-zero a))

access_of_form : (n : ℕ) (ins : List ℕ) (form : Form) → access_by form n ins ≡ (if has_access (info_of form) then Some (record { store = (info_of form).store; address = address_at (2 ^ 64) (base_value (info_of form).base ins) (offset_by form n); size = (info_of form).size }) else None)
unfolding address_at
access_of_form n ins = each (λ form. access_by form n ins ≡ (if has_access (info_of form) then Some (record { store = (info_of form).store; address = address_at (2 ^ 64) (base_value (info_of form).base ins) (offset_by form n); size = (info_of form).size }) else None))
    refl refl refl refl refl refl
    (ap (λ address. Some (record { store = false; address = address; size = 2 })) (mod-add-mod (slice_index ins 0) (2 ^ 64) n))
    (ap (λ address. Some (record { store = true; address = address; size = 2 })) (base_wrapped (slice_index ins 1)))

-- the access of an instruction
pub access_is : (i : Instr) (ins : List ℕ) → access_by (form_of i.form) (number_in i.imms) ins ≡ access_of few_isa i ins
unfolding few_isa access_of
access_is i ins = access_of_form (number_in i.imms) ins (form_of i.form)

stored_of_form : (ins : List ℕ) (form : Form) → stored_by_form form ins ≡ (if is_store (info_of form) then stored_by_form form ins else [])
stored_of_form ins = each (λ form. stored_by_form form ins ≡ (if is_store (info_of form) then stored_by_form form ins else [])) refl refl refl refl refl refl refl refl

-- the bytes that it stores
pub stored_is : (i : Instr) (ins : List ℕ) → stored_by_form (form_of i.form) ins ≡ stored_by few_isa i ins
unfolding few_isa stored_by
stored_is i ins = stored_of_form ins (form_of i.form)

-- Registers are those that a form takes.
pub record Suits (form : Form) (ins outs : List (Option Reg)) : Type 0 where
  ins_shape : ins ≡ padded 4 (filter_map (λ r. r) ins)
  outs_shape : outs ≡ padded 3 (filter_map (λ r. r) outs)
  operand_count : length (filter_map (λ r. r) ins) ≡ set_count (info_of form).in_sets
  output_count : length (filter_map (λ r. r) outs) ≡ set_count (info_of form).out_sets
  operand_classes : list_all suits_set (zip (filter_map (λ r. r) ins) (info_of form).in_sets) ≡ true
  output_classes : list_all suits_set (zip (filter_map (λ r. r) outs) (info_of form).out_sets) ≡ true
  distinct : all_differ (filter_map (λ r. r) outs) ≡ true
  tied : list_all (is_tied_to (filter_map (λ r. r) ins)) (zip (filter_map (λ r. r) outs) (info_of form).tied) ≡ true
  base_apart : is_base_alone same_reg (info_of form) (filter_map (λ r. r) ins) ≡ true

example_suits : (form : Form) → Suits form (example_ins form) (example_outs form)
unfolding set_has set_count all_differ place_from same_reg
example_suits = each (λ form. Suits form (example_ins form) (example_outs form))
    (record { ins_shape = refl; outs_shape = refl; operand_count = refl; output_count = refl; operand_classes = refl; output_classes = refl; distinct = refl; tied = refl; base_apart = refl })
    (record { ins_shape = refl; outs_shape = refl; operand_count = refl; output_count = refl; operand_classes = refl; output_classes = refl; distinct = refl; tied = refl; base_apart = refl })
    (record { ins_shape = refl; outs_shape = refl; operand_count = refl; output_count = refl; operand_classes = refl; output_classes = refl; distinct = refl; tied = refl; base_apart = refl })
    (record { ins_shape = refl; outs_shape = refl; operand_count = refl; output_count = refl; operand_classes = refl; output_classes = refl; distinct = refl; tied = refl; base_apart = refl })
    (record { ins_shape = refl; outs_shape = refl; operand_count = refl; output_count = refl; operand_classes = refl; output_classes = refl; distinct = refl; tied = refl; base_apart = refl })
    (record { ins_shape = refl; outs_shape = refl; operand_count = refl; output_count = refl; operand_classes = refl; output_classes = refl; distinct = refl; tied = refl; base_apart = refl })
    (record { ins_shape = refl; outs_shape = refl; operand_count = refl; output_count = refl; operand_classes = refl; output_classes = refl; distinct = refl; tied = refl; base_apart = refl })
    (record { ins_shape = refl; outs_shape = refl; operand_count = refl; output_count = refl; operand_classes = refl; output_classes = refl; distinct = refl; tied = refl; base_apart = refl })

-- an instruction in registers that its form takes is one of the set
placed_valid : (form number : ℕ) (ins outs : List (Option Reg)) (tag : Option ℕ) → form < 8 → number < 64 → Suits (form_of form) ins outs → IsValid few_isa (placed form number ins outs tag)
unfolding few_isa
placed_valid form number ins outs tag known small suits =
    record {
      op = and_from _ _ (lt-ltb form 8 known) (and_from _ _ (le-leb 0 number (omega arith)) (lt-ltb number 64 small));
      ins_shape = suits.ins_shape;
      outs_shape = suits.outs_shape;
      operand_count = suits.operand_count;
      output_count = suits.output_count;
      operand_classes = suits.operand_classes;
      output_classes = suits.output_classes;
      distinct = suits.distinct;
      tied = suits.tied;
      base_apart = suits.base_apart;
    }

-- each example is an instruction of the set
pub example_valid : (form number : ℕ) → form < 8 → number < 64 → IsValid few_isa (example form number)
example_valid form number known small = placed_valid form number (example_ins (form_of form)) (example_outs (form_of form)) None known small (example_suits (form_of form))

-- an x register
abbrev x : ℕ → Reg
x n = record { bank = General; symbolic = false; number = n }

-- an x register is of the class of x registers
has_x : (n : ℕ) → n < 31 → set_has x_registers (record { bank = General; symbolic = false; number = n }) ≡ true
unfolding set_has
has_x n lt = and_from _ _ (eq-eqb _ _ (bit_at_ones 31 n lt)) (lt-ltb n 32 (omega arith))

-- instructions in x registers are of the set
pub sum_valid : (out left right : ℕ) → out < 31 → left < 31 → right < 31 → IsValid few_isa (sum_of out left right)
unfolding set_count all_differ place_from
sum_valid out left right o l r = placed_valid 0 0 _ _ None (omega arith) (omega arith) (record {
  ins_shape = refl;
  outs_shape = refl;
  operand_count = refl;
  output_count = refl;
  operand_classes = and_from _ _ (has_x left l) (and_from _ _ (has_x right r) refl);
  output_classes = and_from _ _ (has_x out o) refl;
  distinct = refl;
  tied = refl;
  base_apart = refl;
})

pub subs_valid : (out from number : ℕ) → out < 31 → from < 31 → number < 64 → IsValid few_isa (subs_of out from number)
unfolding set_has set_count all_differ place_from same_reg
subs_valid out from number o f small = placed_valid 4 number _ _ None (omega arith) small (record {
  ins_shape = refl;
  outs_shape = refl;
  operand_count = refl;
  output_count = refl;
  operand_classes = and_from _ _ (has_x from f) refl;
  output_classes = and_from _ _ (has_x out o) refl;
  distinct = refl;
  tied = refl;
  base_apart = refl;
})

pub load_valid : (out base offset : ℕ) (tag : Option ℕ) → out < 31 → base < 31 → offset < 64 → IsValid few_isa (load_of out base offset tag)
unfolding set_count all_differ place_from
load_valid out base offset tag o b small = placed_valid 6 offset _ _ tag (omega arith) small (record {
  ins_shape = refl;
  outs_shape = refl;
  operand_count = refl;
  output_count = refl;
  operand_classes = and_from _ _ (has_x base b) refl;
  output_classes = and_from _ _ (has_x out o) refl;
  distinct = refl;
  tied = refl;
  base_apart = refl;
})

-- two registers that differ in their numbers are told apart
x_differ : (a b : ℕ) → a ≢ b → same_reg (x a) (x b) ≡ false
unfolding same_reg
x_differ a b apart = ⊎_elim (λ (same : (a == b) ≡ true). absurd (apart (eqb-true a b same))) (λ (other : (a == b) ≡ false). other) (cases_Bool (a == b))

-- a base is alone behind another register
base_alone : (value base : ℕ) → value ≢ base → is_alone same_reg (x value ∷ x base ∷ []) (Some (x base)) ≡ true
base_alone value base apart =
    ap (λ b. length (cond b (x value ∷ filter (same_reg (x base)) (x base ∷ [])) (filter (same_reg (x base)) (x base ∷ []))) == 1) (x_differ base value (λ e. apart (sym e)))
    ∙ ap (λ b. length (cond b (x base ∷ []) []) == 1) (same_reg-refl (x base))

pub store_valid : (value base step : ℕ) (tag : Option ℕ) → value < 31 → base < 31 → value ≢ base → step < 64 → IsValid few_isa (store_of value base step tag)
unfolding set_count all_differ place_from
store_valid value base step tag v b apart small = placed_valid 7 step _ _ tag (omega arith) small (record {
  ins_shape = refl;
  outs_shape = refl;
  operand_count = refl;
  output_count = refl;
  operand_classes = and_from _ _ (has_x value v) (and_from _ _ (has_x base b) refl);
  output_classes = and_from _ _ (has_x base b) refl;
  distinct = refl;
  tied = and_from _ _ (same_reg-refl (record { bank = General; symbolic = false; number = base })) refl;
  base_apart = base_alone value base apart;
})
