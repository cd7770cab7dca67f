-- The registers of operands are of the operands' classes, one each.
use Rattle.std.proofs.Common.{◌≡◌, ◌∙◌, sym, ap, subst, refl, ℕ, zero, suc, ◌≤◌, ◌/◌, ◌%◌, ◌^◌, Bool, true, false, cond, not, ◌&&◌, eqb, List, [], ◌∷◌, ◌++◌, length, arith}
use Rattle.std.specs.Prelude.{Option, Some, None, is_some, nat_lt}
use Rattle.std.specs.Int.{bit_at}
use Rattle.std.specs.List.{list_all, zip}
use Rattle.std.proofs.Math.Logic.{⊎_elim}
use Rattle.std.proofs.lemmas.Bool.{and_parts, eqb-true, cases_Bool, false≢true}
use Rattle.std.proofs.lemmas.Nat.Bits.{bit_at-zero}
use Rattle.sl_model.specs.declared.register.Reg.{Reg}
use Rattle.sl_model.specs.declared.register.RegSet.{RegSet}
use Rattle.sl_model.specs.RegSets.{bit_of, is_in_bank, set_has, set_count}
use Rattle.sl_model.specs.declared.register.Bank.{Bank}
use Rattle.sl_model.specs.declared.register.Bank.TheVariants.{General, Vector, Flags, Stack}
use Rattle.sl_model.specs.Lawful.{suits_set, is_of_bank}
use Rattle.form_table.specs.Rows.{row_operands}
use Rattle.form_table.specs.Reads.{is_picked, kept, picked, register_suits, registers_suit}
use Rattle.form_table.specs.Printed.{has_register}
use Rattle.form_table.specs.declared.rows.Operand.{Operand}
use Rattle.form_table.specs.declared.rows.Row.{Row}
use Rattle.form_table.specs.declared.spells.Held.{Held}
use Rattle.form_table.specs.declared.reader.Pick.{Pick}
use Rattle.form_table.specs.declared.reader.Pick.TheVariants as pick
use Rattle.form_table.proofs.ForCallers.{IsShaped, Shaped}
use Rattle.form_isa.specs.Info.{classes, flags_if, input_classes, output_classes, padded_classes}
use Rattle.form_isa.proofs.Outputs.{count-none, count-suc}
use Rattle.form_isa.proofs.Places.{flags_among, read_regs, written_regs}
use Rattle.sl_laws.proofs.Tests.{then_parts}

-- registers of classes, one each
abbrev pub AreOf : List Reg → List RegSet → Type 0
AreOf [] [] = Unit {0}
AreOf [] (set ∷ sets) = ⊥
AreOf (r ∷ regs) [] = ⊥
AreOf (r ∷ regs) (set ∷ sets) = (suits_set (r, set) ≡ true) × AreOf regs sets

append-of : (regs : List Reg) (sets : List RegSet) (more : List Reg) (others : List RegSet) → AreOf regs sets →
    AreOf more others → AreOf (regs ++ more) (sets ++ others)
append-of [] [] more others a b = b
append-of [] (set ∷ sets) more others a b = absurd a
append-of (r ∷ regs) [] more others a b = absurd a
append-of (r ∷ regs) (set ∷ sets) more others a b = (a.0, append-of regs sets more others a.1 b)

-- an operand's register, where it is picked
kept-of : (has picks : Bool) (o : Option Reg) (operand : Operand) (regs : List Reg) (sets : List RegSet) → is_some o ≡ has →
    register_suits operand o ≡ true →
    AreOf regs sets → AreOf (kept picks o regs) (cond (cond has picks false) (operand.class ∷ sets) sets)
kept-of has false None operand regs sets s e a =
    subst (λ b. AreOf regs (cond (cond b false false) (operand.class ∷ sets) sets)) s a
kept-of has true None operand regs sets s e a = subst (λ b. AreOf regs (cond (cond b true false) (operand.class ∷ sets) sets)) s a
kept-of has false (Some r) operand regs sets s e a =
    subst (λ b. AreOf regs (cond (cond b false false) (operand.class ∷ sets) sets)) s a
kept-of has true (Some r) operand regs sets s e a =
    subst (λ b. AreOf (r ∷ regs) (cond (cond b true false) (operand.class ∷ sets) sets)) s (e, a)

pub picked-of : (which : Pick) (operands : List Operand) (helds : List Held) → Shaped operands helds →
    registers_suit operands helds ≡ true →
    AreOf (picked which operands helds) (classes which operands)
unfolding picked classes registers_suit
picked-of which [] [] s e = tt
picked-of which [] (held ∷ helds) s e = absurd s
picked-of which (operand ∷ operands) [] s e = absurd s
picked-of which (operand ∷ operands) (held ∷ helds) s e =
    let shaped : IsShaped operand held = s.0 in
    let parts = then_parts (register_suits operand held.register) (registers_suit operands helds) e in
    kept-of (has_register operand.shape) (is_picked which operand.role) held.register operand (picked which operands helds)
    (classes which operands)
    shaped.register parts.0 (picked-of which operands helds s.1 parts.1)

flags-of : (wanted : Bool) → AreOf (flags_among wanted) (flags_if wanted)
unfolding set_has
flags-of false = tt
flags-of true = (refl, tt)

-- the registers that a row's operands read and write
pub read-of : (row : Row) (helds : List Held) → Shaped (row_operands row) helds →
    registers_suit (row_operands row) helds ≡ true →
    AreOf (read_regs row helds) (input_classes row)
unfolding input_classes
read-of row helds s e =
    append-of (picked pick.Read (row_operands row) helds) (classes pick.Read (row_operands row)) _ _
    (picked-of pick.Read (row_operands row) helds s e)
    (append-of (picked pick.Tied (row_operands row) helds) (classes pick.Tied (row_operands row)) _ _
    (picked-of pick.Tied (row_operands row) helds s e) (flags-of row.reads_flags))

pub written-of : (row : Row) (helds : List Held) → Shaped (row_operands row) helds →
    registers_suit (row_operands row) helds ≡ true →
    AreOf (written_regs row helds) (output_classes row)
unfolding output_classes
written-of row helds s e =
    append-of (picked pick.Written (row_operands row) helds) (classes pick.Written (row_operands row)) _ _
    (picked-of pick.Written (row_operands row) helds s e)
    (append-of (picked pick.Back (row_operands row) helds) (classes pick.Back (row_operands row)) _ _
    (picked-of pick.Back (row_operands row) helds s e) (flags-of row.sets_flags))

-- There are as many registers as classes.
pub of-count : (regs : List Reg) (sets : List RegSet) → AreOf regs sets → length regs ≡ length sets
of-count [] [] a = refl
of-count [] (set ∷ sets) a = absurd a
of-count (r ∷ regs) [] a = absurd a
of-count (r ∷ regs) (set ∷ sets) a = ap suc (of-count regs sets a.1)

-- an empty class has no register, of no bank
no_register_of : (bank : Bank) (set : RegSet) → set.bits ≡ 0 → is_of_bank bank set ≡ false
no_register_of General set none = ap (λ n. nat_lt 0 (n % 2 ^ 32)) none
no_register_of Vector set none = ap (λ n. nat_lt 0 (n / 2 ^ 32 % 2 ^ 32)) none
no_register_of Flags set none = ap (λ n. nat_lt 0 (n / 2 ^ 64 % 2)) none
no_register_of Stack set none = ap (λ n. nat_lt 0 (n / 2 ^ 65 % 2)) none

has_none : (set : RegSet) (r : Reg) → set_has set r ≡ true → eqb set.bits 0 ≡ true → ⊥
unfolding set_has
has_none set r e none =
    let parts = and_parts (not r.symbolic) (eqb (bit_at set.bits (bit_of r.bank r.number)) 1 && is_in_bank r) e in
    let more = and_parts (eqb (bit_at set.bits (bit_of r.bank r.number)) 1) (is_in_bank r) parts.1 in
    let one : bit_at set.bits (bit_of r.bank r.number) ≡ 1 = eqb-true _ 1 more.0 in
    let zero_bits : bit_at set.bits (bit_of r.bank r.number) ≡ 0 =
    ap (λ n. bit_at n (bit_of r.bank r.number)) (eqb-true set.bits 0 none) ∙ bit_at-zero (bit_of r.bank r.number) in
    differ (bit_at set.bits (bit_of r.bank r.number)) one zero_bits
  where
    differ : (n : ℕ) → n ≡ 1 → n ≡ 0 → ⊥
    differ n e f = omega (arith, e, f)

-- a class that a register suits isn't empty
not_none : (set : RegSet) (r : Reg) → suits_set (r, set) ≡ true → eqb set.bits 0 ≡ true → ⊥
not_none set r e none = by r.symbolic e
  where
    by : (b : Bool) → cond b (is_of_bank r.bank set) (set_has set r) ≡ true → ⊥
    by true e = false≢true (sym (no_register_of r.bank set (eqb-true set.bits 0 none)) ∙ e)
    by false e = has_none set r e none

some-bits : (set : RegSet) (r : Reg) → suits_set (r, set) ≡ true → eqb set.bits 0 ≡ false
some-bits set r e = ⊎_elim (λ none. absurd (not_none set r e none)) (λ some. some) (cases_Bool (eqb set.bits 0))

pub of-counted : (n : ℕ) (regs : List Reg) (sets : List RegSet) → length regs ≤ n → AreOf regs sets →
    length regs ≡ set_count (padded_classes n sets)
unfolding padded_classes
of-counted n [] [] few a = sym (count-none n)
of-counted n [] (set ∷ sets) few a = absurd a
of-counted n (r ∷ regs) [] few a = absurd a
of-counted zero (r ∷ regs) (set ∷ sets) few a = absurd (omega arith)
of-counted (suc n) (r ∷ regs) (set ∷ sets) few a =
    ap suc (of-counted n regs sets (omega arith) a.1) ∙ sym (count-suc set (padded_classes n sets) (some-bits set r a.0))

pub of-suit : (n : ℕ) (regs : List Reg) (sets : List RegSet) → AreOf regs sets →
    list_all suits_set (zip regs (padded_classes n sets)) ≡ true
unfolding padded_classes
of-suit n [] [] a = refl
of-suit n [] (set ∷ sets) a = absurd a
of-suit n (r ∷ regs) [] a = absurd a
of-suit zero (r ∷ regs) (set ∷ sets) a = refl
of-suit (suc n) (r ∷ regs) (set ∷ sets) a =
    ap (λ b. b && list_all suits_set (zip regs (padded_classes n sets))) a.0 ∙ of-suit n regs sets a.1
