-- What the laws of the small instruction set need.
use Rattle.std.proofs.Common.{◌≡◌, ℕ, pos, zero, suc, ◌+◌, ◌-◌, ◌*◌, ◌/◌, ◌%◌, ◌^◌, ◌<◌, ◌≤◌, ◌≤ℤ◌, ◌+ℤ◌, Bool, true, false, ◌&&◌, List, [], ◌∷◌, length, slice_index, refl, sym, ap, subst, ◌∙◌, arith, lit<, lit≤, rules}
use Rattle.std.proofs.lemmas.Bool.{true≢false, and_from, and_parts, ltb-true, lt-ltb, le-leb}
use Rattle.std.proofs.lemmas.Nat.{mod_below, xor_mod}
use Rattle.std.specs.Prelude.{if◌then◌else◌, nat_lt, bit_xor, ◌==◌}
use Rattle.std.proofs.lemmas.Nat.Bits.{bit_at_ones}
use Rattle.std.proofs.Math.Nat.{div-le_self, mod-eq_of_lt}
use Rattle.std.specs.List.{list_all, list_any, zip}
use Rattle.sl_model.specs.declared.register.Bank.{Bank}
use Rattle.sl_model.specs.declared.register.Bank.TheVariants.{General, Vector, Flags, Stack}
use Rattle.sl_model.specs.declared.register.Reg.{Reg}
use Rattle.sl_model.specs.declared.register.RegSet.{RegSet}
use Rattle.sl_model.specs.declared.instruction.ArchName.TheVariants.{Arm64}
use Rattle.sl_model.specs.RegSets.{set_has, set_count}
use Rattle.sl_model.specs.Register.{same_reg}
use Rattle.sl_model.specs.Body.{all_differ}
use Rattle.sl_model.specs.Source.{outputs, place_from}
use Rattle.sl_model.specs.Machine.{limit_of, can_count}
use Rattle.sl_model.specs.Isa.{Op}
use Rattle.sl_model.specs.Exec.{has_access, is_store}
use Rattle.sl_model.specs.Lawful.{IsLawful, IsBelow, fit, are_bytes, suits_set, zero_register}
use Rattle.sl_isa.specs.declared.arch.CounterOp.{CounterOp}
use Rattle.sl_isa.specs.declared.arch.CounterOp.TheVariants.{Sub, Subs, Lsr}
use Rattle.sl_isa.specs.Steps.{IsStep, Steps, flags_register}
use Rattle.sample_set.specs.declared.forms.Form.{Form}
use Rattle.sample_set.specs.declared.forms.Form.TheVariants.{AddRegisters, SubRegisters, EorRegisters, SubNumber, SubsNumber, LsrNumber, LoadHalf, StoreHalf}
use Rattle.sample_set.specs.FewForms.{few_isa, few_step, form_of, info_of, offset_by, values_by, stored_by_form, number_in, operand_in, less, flags_of, x_registers, the_flags}

-- what holds of each form
pub each : (P : Form → Type 0) → P AddRegisters → P SubRegisters → P EorRegisters → P SubNumber → P SubsNumber → P LsrNumber → P LoadHalf → P StoreHalf → (form : Form) → P form
each P a b c d e f g h AddRegisters = a
each P a b c d e f g h SubRegisters = b
each P a b c d e f g h EorRegisters = c
each P a b c d e f g h SubNumber = d
each P a b c d e f g h SubsNumber = e
each P a b c d e f g h LsrNumber = f
each P a b c d e f g h LoadHalf = g
each P a b c d e f g h StoreHalf = h

-- no access has more than 32 bytes
sizes_of : (form : Form) → (info_of form).size ≤ 32
sizes_of = each (λ form. (info_of form).size ≤ 32) (lit≤ tt) (lit≤ tt) (lit≤ tt) (lit≤ tt) (lit≤ tt) (lit≤ tt) (lit≤ tt) (lit≤ tt)

-- offsets are at least -2^20
offset_low_of : (n : ℕ) (form : Form) → pos 0 ≤ℤ (offset_by form n +ℤ pos (2 ^ 20))
offset_low_of n = each (λ form. pos 0 ≤ℤ (offset_by form n +ℤ pos (2 ^ 20))) (search rules) (search rules) (search rules) (search rules) (search rules) (search rules) (search rules) (search rules)

-- and at most 2^20
offset_high_of : (n : ℕ) → n < 64 → (form : Form) → offset_by form n ≤ℤ pos (2 ^ 20)
offset_high_of n small = each (λ form. offset_by form n ≤ℤ pos (2 ^ 20)) (search rules) (search rules) (search rules) (search rules) (search rules) (search rules) (let far : n ≤ 2 ^ 20 = omega (arith, small) in search (rules, far)) (search rules)

-- no form writes the zero register
writable_of : (form : Form) → list_any (λ set. set_has set zero_register) (info_of form).out_sets ≡ false
unfolding set_has
writable_of = each (λ form. list_any (λ set. set_has set zero_register) (info_of form).out_sets ≡ false) refl refl refl refl refl refl refl refl

-- a form without access isn't asked for one
no_access : {P : Type 0} → false ≡ true → P
no_access h = absurd (true≢false (sym h))

-- the base of an access is one of the operands
base_of : (form : Form) → has_access (info_of form) ≡ true → IsBelow (info_of form).base (set_count (info_of form).in_sets)
unfolding set_count
base_of = each (λ form. has_access (info_of form) ≡ true → IsBelow (info_of form).base (set_count (info_of form).in_sets))
    no_access no_access no_access no_access no_access no_access (λ _. lit< tt) (λ _. lit< tt)

-- a form gives as many values as it has outputs
count_of : (n : ℕ) (ins loaded : List ℕ) (form : Form) → length (values_by form n ins loaded) ≡ set_count (info_of form).out_sets
unfolding set_count
count_of n ins loaded = each (λ form. length (values_by form n ins loaded) ≡ set_count (info_of form).out_sets) refl refl refl refl refl refl refl refl

-- and stores as many bytes as its access has
stored_count_of : (ins : List ℕ) (form : Form) → is_store (info_of form) ≡ true → length (stored_by_form form ins) ≡ (info_of form).size
stored_count_of ins = each (λ form. is_store (info_of form) ≡ true → length (stored_by_form form ins) ≡ (info_of form).size)
    no_access no_access no_access no_access no_access no_access no_access (λ _. refl)

-- a remainder of 256 is a byte
byte_below : (n : ℕ) → nat_lt (n % 256) 256 ≡ true
byte_below n = lt-ltb _ _ (mod_below n 256 (lit< tt))

-- what is stored are bytes
stored_fit_of : (ins : List ℕ) (form : Form) → are_bytes (stored_by_form form ins) ≡ true
stored_fit_of ins = each (λ form. are_bytes (stored_by_form form ins) ≡ true) refl refl refl refl refl refl refl
    (and_from _ _ (byte_below (operand_in ins 0)) (and_from _ _ (byte_below (operand_in ins 0 / 256)) refl))

-- what is below a number is below greater ones
wider : (v m n : ℕ) → v < m → m ≤ n → nat_lt v n ≡ true
wider v m n small far = lt-ltb v n (omega (arith, small, far))

-- an x register, of whatever bank it is told, holds numbers of 64 bits
suits_x : (bank : Bank) (symbolic : Bool) (number v : ℕ) → suits_set (record { bank = bank; symbolic = symbolic; number = number }, x_registers) ≡ true → v < 2 ^ 64 → nat_lt v (limit_of Arm64 bank) ≡ true
unfolding set_has
suits_x General symbolic number v suits small = lt-ltb _ _ small
suits_x Vector symbolic number v suits small = wider v (2 ^ 64) (2 ^ 128) small (lit≤ tt)
suits_x Flags true number v suits small = absurd (true≢false (sym suits))
suits_x Flags false number v suits small = absurd (true≢false (sym suits))
suits_x Stack symbolic number v suits small = lt-ltb _ _ small

-- each bank holds numbers below 16
small_fits : (bank : Bank) (v : ℕ) → v < 16 → nat_lt v (limit_of Arm64 bank) ≡ true
small_fits General v small = wider v 16 (2 ^ 64) small (lit≤ tt)
small_fits Vector v small = wider v 16 (2 ^ 128) small (lit≤ tt)
small_fits Flags v small = lt-ltb _ _ small
small_fits Stack v small = wider v 16 (2 ^ 64) small (lit≤ tt)

-- registers with no value are filled
none_left : (regs : List Reg) → list_all (λ (x : Reg × ℕ). nat_lt x.1 (limit_of Arm64 x.0.bank)) (zip regs []) ≡ true
none_left [] = refl
none_left (r ∷ regs) = refl

-- a value of 64 bits fits a form's output
one_fits : (regs : List Reg) (sets : List RegSet) (v : ℕ) → list_all suits_set (zip regs (x_registers ∷ sets)) ≡ true → v < 2 ^ 64 → fit few_isa regs (v ∷ []) ≡ true
unfolding few_isa
one_fits [] sets v suits small = refl
one_fits (r ∷ regs) sets v suits small = and_from _ _ (suits_x r.bank r.symbolic r.number v (and_parts _ _ suits).0 small) (none_left regs)

-- and four flags fit the one behind it
two_fit : (regs : List Reg) (sets : List RegSet) (v w : ℕ) → list_all suits_set (zip regs (x_registers ∷ sets)) ≡ true → v < 2 ^ 64 → w < 16 → fit few_isa regs (v ∷ w ∷ []) ≡ true
unfolding few_isa
two_fit [] sets v w suits small tiny = refl
two_fit (r ∷ []) sets v w suits small tiny = and_from _ _ (suits_x r.bank r.symbolic r.number v (and_parts _ _ suits).0 small) refl
two_fit (r ∷ q ∷ regs) sets v w suits small tiny =
    and_from _ _ (suits_x r.bank r.symbolic r.number v (and_parts _ _ suits).0 small) (and_from _ _ (small_fits q.bank w tiny) (none_left regs))

-- a remainder of 2^64 has 64 bits
below_64 : (n : ℕ) → n % 2 ^ 64 < 2 ^ 64
below_64 n = mod_below n (2 ^ 64) (lit< tt)

-- a number shifted to the right stays as small
shifted_small : (a n : ℕ) → a < 2 ^ 64 → a / 2 ^ n < 2 ^ 64
shifted_small a n small = let h : a / 2 ^ n ≤ a = div-le_self a (2 ^ n) in omega (arith, h, small)

-- of two small numbers each is small
either_small : (b : Bool) (x y m : ℕ) → x ≤ m → y ≤ m → (if b then x else y) ≤ m
either_small true x y m p q = p
either_small false x y m p q = q

-- the four flags, summed, are below 16
sum_of_four : (n z c v : ℕ) → n ≤ 8 → z ≤ 4 → c ≤ 2 → v ≤ 1 → n + z + c + v < 16
sum_of_four n z c v p q r t = omega (arith, p, q, r, t)

-- flags are below 16
flags_small : (a n : ℕ) → flags_of a n < 16
flags_small a n = sum_of_four _ _ _ _
    (either_small (nat_lt (less a n) (2 ^ 63)) 0 8 8 (lit≤ tt) (lit≤ tt))
    (either_small _ 4 0 4 (lit≤ tt) (lit≤ tt))
    (either_small (nat_lt a n) 0 2 2 (lit≤ tt) (lit≤ tt))
    (either_small (nat_lt a (2 ^ 63)) 0 _ 1 (lit≤ tt) (either_small (nat_lt (less a n) (2 ^ 63)) 1 0 1 (lit≤ tt) (lit≤ tt)))

-- each of some bytes is a byte
byte_at_small : (bytes : List ℕ) (k : ℕ) → are_bytes bytes ≡ true → slice_index bytes k < 256
byte_at_small [] k h = lit< tt
byte_at_small (b ∷ bytes) zero h = ltb-true _ _ (and_parts _ _ h).0
byte_at_small (b ∷ bytes) (suc k) h = byte_at_small bytes k (and_parts _ _ h).1

-- two bytes have 16 bits
half_small : (low high : ℕ) → low < 256 → high < 256 → low + 256 * high < 2 ^ 64
half_small low high p q = omega (arith, p, q)

-- the values of each form fit its outputs
values_fit_of : (n : ℕ) (ins loaded : List ℕ) → are_bytes loaded ≡ true → (regs : List Reg) (form : Form) → list_all suits_set (zip regs (info_of form).out_sets) ≡ true → fit few_isa regs (values_by form n ins loaded) ≡ true
values_fit_of n ins loaded bytes regs = each (λ form. list_all suits_set (zip regs (info_of form).out_sets) ≡ true → fit few_isa regs (values_by form n ins loaded) ≡ true)
    (λ suits. one_fits regs _ _ suits (below_64 _))
    (λ suits. one_fits regs _ _ suits (below_64 _))
    (λ suits. one_fits regs _ _ suits (subst (λ v. v < 2 ^ 64) (xor_mod (slice_index ins 0) (slice_index ins 1) 64) (below_64 (bit_xor (slice_index ins 0) (slice_index ins 1)))))
    (λ suits. one_fits regs _ _ suits (below_64 _))
    (λ suits. two_fit regs _ _ _ suits (below_64 _) (flags_small (operand_in ins 0) n))
    (λ suits. one_fits regs _ _ suits (shifted_small (operand_in ins 0) n (below_64 (slice_index ins 0))))
    (λ suits. one_fits regs _ _ suits (half_small _ _ (byte_at_small loaded 0 bytes) (byte_at_small loaded 1 bytes)))
    (λ suits. one_fits regs _ _ suits (below_64 _))

-- the number of a valid instruction is below 64
pub small_number : (o : Op) → few_isa.valid o ≡ true → number_in o.imms < 64
unfolding few_isa
small_number o valid = ltb-true _ _ (and_parts _ _ (and_parts _ _ valid).1).1

-- the small instruction set is lawful
pub few_lawful : IsLawful few_isa
unfolding few_isa
few_lawful = record {
  known = λ o valid. ltb-true _ _ (and_parts _ _ valid).0;
  sizes = λ form. sizes_of (form_of form);
  offset_low = λ o valid. offset_low_of (number_in o.imms) (form_of o.form);
  offset_high = λ o valid. offset_high_of (number_in o.imms) (small_number o valid) (form_of o.form);
  writable = λ form. writable_of (form_of form);
  base = λ form. base_of (form_of form);
  value_count = λ i ins loaded valid all bytes. count_of (number_in i.imms) ins loaded (form_of i.form) ∙ sym valid.output_count;
  values_fit = λ i ins loaded valid all count fits bytes. values_fit_of (number_in i.imms) ins loaded bytes (outputs i) (form_of i.form) valid.output_classes;
  stored_count = λ i ins valid stores all. stored_count_of ins (form_of i.form) stores;
  stored_fit = λ i ins valid stores all. stored_fit_of ins (form_of i.form);
}

-- A counter is one of the x registers.
pub counter_suits : (number : ℕ) → nat_lt number 31 ≡ true → suits_set (record { bank = General; symbolic = false; number = number }, x_registers) ≡ true
unfolding set_has
counter_suits number h = and_from _ _ (ap (λ b. b == 1) (bit_at_ones 31 number (ltb-true _ _ h))) (wider number 31 32 (ltb-true _ _ h) (lit≤ tt))

-- the flags suit their set
flags_suit : suits_set (flags_register, the_flags) && true ≡ true
unfolding set_has
flags_suit = refl

-- a step down of a number of 64 bits
stepped_down : (n by : ℕ) → n < 2 ^ 64 → (n % 2 ^ 64 + 2 ^ 64 - by) % 2 ^ 64 ≡ (n + 2 ^ 64 - by) % 2 ^ 64
stepped_down n by small = ap (λ m. (m + 2 ^ 64 - by) % 2 ^ 64) (mod-eq_of_lt small)

-- a step's number is one that a form takes
small_step : (number most : ℕ) → number ≤ most → most < 64 → nat_lt number 64 ≡ true
small_step number most h small = lt-ltb number 64 (omega (arith, h, small))

-- each step of a counter, bank by bank: only x registers count
steps_of : (op : CounterOp) (bank : Bank) (symbolic : Bool) (number line : ℕ) → can_count Arm64 (record { bank = bank; symbolic = symbolic; number = number }) ≡ true → IsStep op
    → Steps few_isa op (record { bank = bank; symbolic = symbolic; number = number }) line (few_step op (record { bank = bank; symbolic = symbolic; number = number }) line)
unfolding few_isa few_step set_count all_differ place_from same_reg
steps_of op Vector symbolic number line counts step = absurd (true≢false (sym counts))
steps_of op Flags symbolic number line counts step = absurd (true≢false (sym counts))
steps_of op Stack symbolic number line counts step = absurd (true≢false (sym counts))
steps_of op General true number line counts step = absurd (true≢false (sym counts))
steps_of (Sub by) General false number line counts step = record {
  valid = record {
    op = and_from _ _ (le-leb 0 by (omega arith)) (small_step by 2 step.1 (lit< tt));
    ins_shape = refl;
    outs_shape = refl;
    operand_count = refl;
    output_count = refl;
    operand_classes = and_from _ _ (counter_suits number counts) refl;
    output_classes = and_from _ _ (counter_suits number counts) refl;
    distinct = refl;
    tied = refl;
    base_apart = refl;
  };
  plain = (refl, refl, refl, refl);
  no_access = refl;
  reads = refl;
  writes = refl;
  value = λ n small. stepped_down n by small;
}
steps_of Subs General false number line counts step = record {
  valid = record {
    op = refl;
    ins_shape = refl;
    outs_shape = refl;
    operand_count = refl;
    output_count = refl;
    operand_classes = and_from _ _ (counter_suits number counts) refl;
    output_classes = and_from _ _ (counter_suits number counts) (flags_suit);
    distinct = refl;
    tied = refl;
    base_apart = refl;
  };
  plain = (refl, refl, refl, refl);
  no_access = refl;
  reads = refl;
  writes = refl;
  value = λ n small. stepped_down n 1 small;
}
steps_of (Lsr by) General false number line counts step = record {
  valid = record {
    op = and_from _ _ (le-leb 0 by (omega arith)) (small_step by 3 step.1 (lit< tt));
    ins_shape = refl;
    outs_shape = refl;
    operand_count = refl;
    output_count = refl;
    operand_classes = and_from _ _ (counter_suits number counts) refl;
    output_classes = and_from _ _ (counter_suits number counts) refl;
    distinct = refl;
    tied = refl;
    base_apart = refl;
  };
  plain = (refl, refl, refl, refl);
  no_access = refl;
  reads = refl;
  writes = refl;
  value = λ n small. ap (λ m. m / 2 ^ by) (mod-eq_of_lt small);
}

-- each step of a counter is made
pub few_steps : (op : CounterOp) (counter : Reg) (line : ℕ) → can_count few_isa.name counter ≡ true → IsStep op → Steps few_isa op counter line (few_step op counter line)
unfolding few_isa
few_steps op counter line counts step = steps_of op counter.bank counter.symbolic counter.number line counts step
