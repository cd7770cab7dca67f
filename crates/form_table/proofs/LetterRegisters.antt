-- Each register that is spelled with a letter is named so that it is read as itself.
use Rattle.std.proofs.Common.{◌≡◌, ◌∙◌, sym, ap, refl, ℕ, ◌<◌, ◌≤◌, ◌==◌, ◌&&◌, Bool, true, cond, not, max, eqb, arith}
use Rattle.std.specs.Prelude.{bit_or, Some}
use Rattle.std.specs.Int.{bit_at}
use Rattle.std.specs.Fmt.{digits}
use Rattle.std.proofs.Math.Nat.{max-eq_left}
use Rattle.std.proofs.lemmas.Bool.{agree_below_at, and_from, and_parts, eqb-true, not-true, ltb-true}
use Rattle.std.proofs.lemmas.Nat.Bits.{bit_at_or, bit_at-lt}
use Rattle.sl_model.specs.declared.register.Bank.{Bank}
use Rattle.sl_model.specs.declared.register.Bank.TheVariants.{General, Vector, Flags, Stack}
use Rattle.sl_model.specs.declared.register.Reg.{Reg}
use Rattle.sl_model.specs.declared.register.RegSet.{RegSet}
use Rattle.sl_model.specs.Register.{same_reg}
use Rattle.sl_model.specs.RegSets.{bit_of, is_in_bank, set_has}
use Rattle.sl_model.specs.Digits.{decimal_number, digits_number}
use Rattle.form_table.specs.Numerals.{decimal_value}
use Rattle.form_table.specs.Spells.{machine_reg, numbered, register_of, item_register}
use Rattle.form_table.specs.Printed.{register_name}
use Rattle.form_table.specs.Tables.{letter_registers, is_within}
use Rattle.form_table.specs.declared.rows.Letter.{Letter}
use Rattle.form_table.specs.declared.rows.Letter.TheVariants as letter
use Rattle.form_table.proofs.Named.{is_named, named_is, always}
use Rattle.form_table.proofs.SlotItems.{ShowsRegister}

-- Is the register with this number named so, if the letter spells it?
abbrev is_shown : Letter → Bank → ℕ → Bool
is_shown l b n = cond (set_has (letter_registers l) (machine_reg b n)) (is_named l (machine_reg b n)) true

general_shown : (l : Letter) (n : ℕ) → n < 32 → is_shown l General n ≡ true
unfolding is_named item_register register_of register_name numbered decimal_value decimal_number digits_number digits same_reg set_has always
general_shown letter.X n h = agree_below_at (is_shown letter.X General) always 32 n refl h
general_shown letter.W n h = agree_below_at (is_shown letter.W General) always 32 n refl h
general_shown letter.V n h = agree_below_at (is_shown letter.V General) always 32 n refl h
general_shown letter.Q n h = agree_below_at (is_shown letter.Q General) always 32 n refl h
general_shown letter.D n h = agree_below_at (is_shown letter.D General) always 32 n refl h
general_shown letter.S n h = agree_below_at (is_shown letter.S General) always 32 n refl h
general_shown letter.R n h = agree_below_at (is_shown letter.R General) always 32 n refl h

vector_shown : (l : Letter) (n : ℕ) → n < 32 → is_shown l Vector n ≡ true
unfolding is_named item_register register_of register_name numbered decimal_value decimal_number digits_number digits same_reg set_has always
vector_shown letter.X n h = agree_below_at (is_shown letter.X Vector) always 32 n refl h
vector_shown letter.W n h = agree_below_at (is_shown letter.W Vector) always 32 n refl h
vector_shown letter.V n h = agree_below_at (is_shown letter.V Vector) always 32 n refl h
vector_shown letter.Q n h = agree_below_at (is_shown letter.Q Vector) always 32 n refl h
vector_shown letter.D n h = agree_below_at (is_shown letter.D Vector) always 32 n refl h
vector_shown letter.S n h = agree_below_at (is_shown letter.S Vector) always 32 n refl h
vector_shown letter.R n h = agree_below_at (is_shown letter.R Vector) always 32 n refl h

flags_shown : (l : Letter) (n : ℕ) → n < 32 → is_shown l Flags n ≡ true
unfolding is_named item_register register_of register_name numbered decimal_value decimal_number digits_number digits same_reg set_has always
flags_shown letter.X n h = agree_below_at (is_shown letter.X Flags) always 32 n refl h
flags_shown letter.W n h = agree_below_at (is_shown letter.W Flags) always 32 n refl h
flags_shown letter.V n h = agree_below_at (is_shown letter.V Flags) always 32 n refl h
flags_shown letter.Q n h = agree_below_at (is_shown letter.Q Flags) always 32 n refl h
flags_shown letter.D n h = agree_below_at (is_shown letter.D Flags) always 32 n refl h
flags_shown letter.S n h = agree_below_at (is_shown letter.S Flags) always 32 n refl h
flags_shown letter.R n h = agree_below_at (is_shown letter.R Flags) always 32 n refl h

stack_shown : (l : Letter) (n : ℕ) → n < 32 → is_shown l Stack n ≡ true
unfolding is_named item_register register_of register_name numbered decimal_value decimal_number digits_number digits same_reg set_has always
stack_shown letter.X n h = agree_below_at (is_shown letter.X Stack) always 32 n refl h
stack_shown letter.W n h = agree_below_at (is_shown letter.W Stack) always 32 n refl h
stack_shown letter.V n h = agree_below_at (is_shown letter.V Stack) always 32 n refl h
stack_shown letter.Q n h = agree_below_at (is_shown letter.Q Stack) always 32 n refl h
stack_shown letter.D n h = agree_below_at (is_shown letter.D Stack) always 32 n refl h
stack_shown letter.S n h = agree_below_at (is_shown letter.S Stack) always 32 n refl h
stack_shown letter.R n h = agree_below_at (is_shown letter.R Stack) always 32 n refl h

all_shown : (l : Letter) (b : Bank) (n : ℕ) → n < 32 → is_shown l b n ≡ true
all_shown l General n h = general_shown l n h
all_shown l Vector n h = vector_shown l n h
all_shown l Flags n h = flags_shown l n h
all_shown l Stack n h = stack_shown l n h

-- a bank has at most 32 registers
bank_small : (b : Bank) (symbolic : Bool) (n : ℕ) → is_in_bank (record { bank = b; symbolic = symbolic; number = n }) ≡ true → n < 32
bank_small General symbolic n e = ltb-true n 32 e
bank_small Vector symbolic n e = ltb-true n 32 e
bank_small Flags symbolic n e = let one : n < 1 = ltb-true n 1 e in omega arith
bank_small Stack symbolic n e = let one : n < 1 = ltb-true n 1 e in omega arith

-- What is known of a register of a set.
record IsOfSet (set : RegSet) (r : Reg) : Type 0 where
  machine : r ≡ machine_reg r.bank r.number
  bit : bit_at set.bits (bit_of r.bank r.number) ≡ 1
  inside : is_in_bank r ≡ true

of_set : (set : RegSet) (r : Reg) → set_has set r ≡ true → IsOfSet set r
unfolding set_has
of_set set r has =
    let one = and_parts (not r.symbolic) (eqb (bit_at set.bits (bit_of r.bank r.number)) 1 && is_in_bank r) has in
    let two = and_parts (eqb (bit_at set.bits (bit_of r.bank r.number)) 1) (is_in_bank r) one.1 in
    record {
      machine = ap (λ s. let q : Reg = record { bank = r.bank; symbolic = s; number = r.number } in q) (not-true r.symbolic one.0);
      bit = eqb-true (bit_at set.bits (bit_of r.bank r.number)) 1 two.0;
      inside = two.1;
    }

-- Each register that a letter spells is named so that it is read as itself.
letter_shows : (l : Letter) (r : Reg) → set_has (letter_registers l) r ≡ true → ShowsRegister l (Some r)
letter_shows l r has =
    let of : IsOfSet (letter_registers l) r = of_set (letter_registers l) r has in
    let small : r.number < 32 = bank_small r.bank r.symbolic r.number of.inside in
    named_is l r small
    (ap (is_named l) of.machine
    ∙ sym (ap (λ b. cond b (is_named l (machine_reg r.bank r.number)) true) (ap (set_has (letter_registers l)) (sym of.machine) ∙ has))
    ∙ all_shown l r.bank r.number small)

-- a register of a set is one of a greater set
within_has : (set other : RegSet) (r : Reg) → is_within set other ≡ true → set_has set r ≡ true → set_has other r ≡ true
unfolding set_has
within_has set other r within has =
    let of : IsOfSet set r = of_set set r has in
    let k : ℕ = bit_of r.bank r.number in
    let low : bit_at other.bits k < 2 = bit_at-lt other.bits k in
    let bit : bit_at other.bits k ≡ 1 =
    ap (λ n. bit_at n k) (sym (eqb-true (bit_or set.bits other.bits) other.bits within))
    ∙ bit_at_or set.bits other.bits k
    ∙ ap (λ b. max b (bit_at other.bits k)) of.bit
    ∙ max-eq_left (let least : bit_at other.bits k ≤ 1 = omega arith in least) in
    and_from (not r.symbolic) (eqb (bit_at other.bits k) 1 && is_in_bank r)
    (ap (λ (q : Reg). not q.symbolic) of.machine)
    (and_from (eqb (bit_at other.bits k) 1) (is_in_bank r) (ap (λ b. b == 1) bit) of.inside)

-- So is each register of a class whose registers it spells.
pub class_shows : (l : Letter) (set : RegSet) (r : Reg) → is_within set (letter_registers l) ≡ true → set_has set r ≡ true → ShowsRegister l (Some r)
class_shows l set r within has = letter_shows l r (within_has set (letter_registers l) r within has)
