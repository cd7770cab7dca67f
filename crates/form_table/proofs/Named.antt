-- A register that was read, and a condition, is named so that it is read as itself.
use Rattle.std.proofs.Common.{◌≡◌, ◌∙◌, sym, ap, subst, ℕ, suc, ◌+◌, ◌==◌, ◌<◌, ◌≤◌, Bool, true, false, cond, List, [], ◌∷◌, length, arith, refl, ◌⊎◌, inl, inr}
use Rattle.std.specs.Prelude.{pos, nat_lt, Option, Some, None, option_and_then, codes}
use Rattle.std.specs.Char.{to_ascii_lowercase}
use Rattle.std.specs.Str.{str_eq_ignore_ascii_case}
use Rattle.std.specs.Fmt.{digits}
use Rattle.std.proofs.Math.Logic.{⊎_elim}
use Rattle.std.proofs.lemmas.Bool.{agree_below_at, eq-eqb, eqb-true, ltb-true}
use Rattle.std.proofs.lemmas.Option.{option_and_then_some, cond_some, same_Some}
use Rattle.sl_model.specs.declared.register.Bank.{Bank}
use Rattle.sl_model.specs.declared.register.Bank.TheVariants.{General, Vector, Stack}
use Rattle.sl_model.specs.declared.register.Reg.{Reg}
use Rattle.sl_model.specs.Register.{same_reg}
use Rattle.sl_model.specs.Digits.{decimal_number, digits_number}
use Rattle.form_table.specs.Numerals.{decimal_value}
use Rattle.form_table.specs.Spells.{machine_reg, below_count, numbered, unless_r13, register_of, symbolic_reg, item_register, condition_names, name_place, condition_of}
use Rattle.form_table.specs.Printed.{register_name, condition_text}
use Rattle.form_table.specs.Items.{Item, blank, mark, word, symbol, numeral}
use Rattle.form_table.specs.Symbols.{letter_code}
use Rattle.form_table.specs.declared.rows.Letter.{Letter}
use Rattle.form_table.specs.declared.rows.Letter.TheVariants as letter
use Rattle.form_table.proofs.SlotItems.{register_item, ShowsRegister, ShowsCondition}
use Rattle.form_table.proofs.Unique.{test_then}
use Rattle.sl_laws.proofs.Registers.{same_reg-true}

-- Is this register found?
abbrev finds : Option Reg → Reg → Bool
finds None r = false
finds (Some q) r = same_reg q r

finds_is : (o : Option Reg) (r : Reg) → finds o r ≡ true → o ≡ Some r
finds_is None r e = absurd cc
finds_is (Some q) r e = ap Some (same_reg-true q r e)

-- Is a register named so that it is read as itself?
unfoldable pub is_named : Letter → Reg → Bool
is_named letter r = finds (item_register letter (register_item letter (Some r))) r

unfoldable pub always : ℕ → Bool
always n = true

pub named_is : (letter : Letter) (r : Reg) → r.number < 32 → is_named letter r ≡ true → ShowsRegister letter (Some r)
unfolding is_named
named_is letter r small e = record { register = r; is = refl; named = finds_is (item_register letter (register_item letter (Some r))) r e; small = λ t. small }

x_named : (n : ℕ) → n < 31 → is_named letter.X (machine_reg General n) ≡ true
unfolding is_named item_register register_of register_name numbered decimal_value decimal_number digits_number digits same_reg always
x_named n h = agree_below_at (λ n. is_named letter.X (machine_reg General n)) always 31 n refl h

w_named : (n : ℕ) → n < 31 → is_named letter.W (machine_reg General n) ≡ true
unfolding is_named item_register register_of register_name numbered decimal_value decimal_number digits_number digits same_reg always
w_named n h = agree_below_at (λ n. is_named letter.W (machine_reg General n)) always 31 n refl h

v_named : (n : ℕ) → n < 32 → is_named letter.V (machine_reg Vector n) ≡ true
unfolding is_named item_register register_of register_name numbered decimal_value decimal_number digits_number digits same_reg always
v_named n h = agree_below_at (λ n. is_named letter.V (machine_reg Vector n)) always 32 n refl h

q_named : (n : ℕ) → n < 32 → is_named letter.Q (machine_reg Vector n) ≡ true
unfolding is_named item_register register_of register_name numbered decimal_value decimal_number digits_number digits same_reg always
q_named n h = agree_below_at (λ n. is_named letter.Q (machine_reg Vector n)) always 32 n refl h

d_named : (n : ℕ) → n < 32 → is_named letter.D (machine_reg Vector n) ≡ true
unfolding is_named item_register register_of register_name numbered decimal_value decimal_number digits_number digits same_reg always
d_named n h = agree_below_at (λ n. is_named letter.D (machine_reg Vector n)) always 32 n refl h

s_named : (n : ℕ) → n < 32 → is_named letter.S (machine_reg Vector n) ≡ true
unfolding is_named item_register register_of register_name numbered decimal_value decimal_number digits_number digits same_reg always
s_named n h = agree_below_at (λ n. is_named letter.S (machine_reg Vector n)) always 32 n refl h

-- r13 aside
r_named : (n : ℕ) → n < 15 → cond (n == 13) true (is_named letter.R (machine_reg General n)) ≡ true
unfolding is_named item_register register_of register_name numbered decimal_value decimal_number digits_number digits same_reg always
r_named n h = agree_below_at (λ n. cond (n == 13) true (is_named letter.R (machine_reg General n))) always 15 n refl h

-- those with names of their own
own_named : (is_named letter.X (machine_reg General 31) ≡ true) × (is_named letter.X (machine_reg Stack 0) ≡ true)
    × (is_named letter.W (machine_reg General 31) ≡ true) × (is_named letter.R (machine_reg General 14) ≡ true) × (is_named letter.R (machine_reg Stack 0) ≡ true)
unfolding is_named item_register register_of register_name numbered decimal_value decimal_number digits_number digits same_reg
own_named = (refl, refl, refl, refl, refl)

-- a register that is spelled by a number
pub record IsBelow (bank : Bank) (count : ℕ) (r : Reg) : Type 0 where
  pub number : ℕ
  pub below : number < count
  pub is : machine_reg bank number ≡ r

pub numbered_is : (bank : Bank) (letter count : ℕ) (text : List ℕ) (r : Reg) → numbered bank letter count text ≡ Some r → IsBelow bank count r
unfolding numbered
numbered_is bank letter count [] r e = absurd cc
numbered_is bank letter count (c ∷ digits) r e =
    option_and_then_some (λ n. below_count bank count n) (decimal_value digits) r
    (test_then (to_ascii_lowercase c == letter) (option_and_then (λ n. below_count bank count n) (decimal_value digits)) r e).1
    (λ n found made.
    let parts = cond_some (nat_lt n count) (machine_reg bank n) r made in
    record { number = n; below = ltb-true n count parts.0; is = parts.1 })

-- one by its own name
own_shown : (letter : Letter) (q r : Reg) → q.number < 32 → is_named letter q ≡ true → q ≡ r → ShowsRegister letter (Some r)
own_shown letter q r small named e = subst (λ (v : Reg). ShowsRegister letter (Some v)) e (named_is letter q small named)

number_shown : (letter : Letter) (bank : Bank) (count : ℕ) (r : Reg) → count ≤ 32 → ((n : ℕ) → n < count → is_named letter (machine_reg bank n) ≡ true) → IsBelow bank count r → ShowsRegister letter (Some r)
number_shown letter bank count r few all b =
    own_shown letter (machine_reg bank b.number) r (let below = b.below in omega arith) (all b.number b.below) b.is

unless_r13_some : (b : Bool) (q r : Reg) → (q.number == 13) ≡ b → cond b None (Some q) ≡ Some r → (Some q ≡ Some r) × ((r.number == 13) ≡ false)
unless_r13_some true q r t e = absurd cc
unless_r13_some false q r t e = (e, subst (λ (v : Reg). (v.number == 13) ≡ false) (same_Some q r e) t)

pub unless_r13_is : (o : Option Reg) (r : Reg) → unless_r13 o ≡ Some r → (o ≡ Some r) × ((r.number == 13) ≡ false)
unless_r13_is None r e = absurd cc
unless_r13_is (Some q) r e = unless_r13_some (q.number == 13) q r refl e

r_shown : (r : Reg) → (r.number == 13) ≡ false → IsBelow General 15 r → ShowsRegister letter.R (Some r)
r_shown r other b =
    let number : b.number ≡ r.number = ap (λ (v : Reg). v.number) b.is in
    let test : (b.number == 13) ≡ false = ap (λ n. n == 13) number ∙ other in
    own_shown letter.R (machine_reg General b.number) r (let below = b.below in omega arith)
    (ap (λ t. cond t true (is_named letter.R (machine_reg General b.number))) (sym test) ∙ r_named b.number b.below) b.is

r_number_shown : (r : Reg) (text : List ℕ) → unless_r13 (numbered General 114 15 text) ≡ Some r → ShowsRegister letter.R (Some r)
r_number_shown r text e =
    let parts = unless_r13_is (numbered General 114 15 text) r e in
    r_shown r parts.1 (numbered_is General 114 15 text r parts.0)

-- what two tests give that stand one behind the other
pub which : {A : Type 0} (b : Bool) (x : A) (o : Option A) (r : A) → cond b (Some x) o ≡ Some r → (x ≡ r) ⊎ (o ≡ Some r)
which true x o r e = inl (same_Some x r e)
which false x o r e = inr e

-- A register of the machine that was read is named so that it is read as itself.
machine_is_read : (letter : Letter) (text : List ℕ) (r : Reg) → register_of letter text ≡ Some r → ShowsRegister letter (Some r)
unfolding register_of
machine_is_read letter.X text r e =
    ⊎_elim (own_shown letter.X (machine_reg General 31) r (omega arith) own_named.0)
    (λ e'. ⊎_elim (own_shown letter.X (machine_reg Stack 0) r (omega arith) own_named.1)
    (λ h. number_shown letter.X General 31 r (omega arith) x_named (numbered_is General 120 31 text r h))
    (which (str_eq_ignore_ascii_case text (codes "sp")) (machine_reg Stack 0) (numbered General 120 31 text) r e'))
    (which (str_eq_ignore_ascii_case text (codes "xzr")) (machine_reg General 31) _ r e)
machine_is_read letter.W text r e =
    ⊎_elim (own_shown letter.W (machine_reg General 31) r (omega arith) own_named.2)
    (λ h. number_shown letter.W General 31 r (omega arith) w_named (numbered_is General 119 31 text r h))
    (which (str_eq_ignore_ascii_case text (codes "wzr")) (machine_reg General 31) (numbered General 119 31 text) r e)
machine_is_read letter.V text r e = number_shown letter.V Vector 32 r (omega arith) v_named (numbered_is Vector 118 32 text r e)
machine_is_read letter.Q text r e = number_shown letter.Q Vector 32 r (omega arith) q_named (numbered_is Vector 113 32 text r e)
machine_is_read letter.D text r e = number_shown letter.D Vector 32 r (omega arith) d_named (numbered_is Vector 100 32 text r e)
machine_is_read letter.S text r e = number_shown letter.S Vector 32 r (omega arith) s_named (numbered_is Vector 115 32 text r e)
machine_is_read letter.R text r e =
    ⊎_elim (own_shown letter.R (machine_reg General 14) r (omega arith) own_named.3)
    (λ e'. ⊎_elim (own_shown letter.R (machine_reg Stack 0) r (omega arith) own_named.4)
    (r_number_shown r text)
    (which (str_eq_ignore_ascii_case text (codes "sp")) (machine_reg Stack 0) (unless_r13 (numbered General 114 15 text)) r e'))
    (which (str_eq_ignore_ascii_case text (codes "lr")) (machine_reg General 14) _ r e)

-- a symbolic register is read as itself
symbol_is_read : (letter other : Letter) (n : ℕ) (r : Reg) → item_register letter (symbol other n) ≡ Some r → ShowsRegister letter (Some r)
unfolding item_register
symbol_is_read letter other n r e =
    let same : symbolic_reg letter n ≡ r = (cond_some (letter_code other == letter_code letter) (symbolic_reg letter n) r e).1 in
    let test : (letter_code letter == letter_code letter) ≡ true = eq-eqb (letter_code letter) (letter_code letter) refl in
    subst (λ (q : Reg). ShowsRegister letter (Some q)) same (record {
      register = symbolic_reg letter n;
      is = refl;
      named = ap (λ b. cond b (Some (symbolic_reg letter n)) None) test;
      small = λ t. absurd cc;
    })

-- A register that was read is spelled so that it is read as itself.
pub register_is_read : (letter : Letter) (item : Item) (r : Reg) → item_register letter item ≡ Some r → ShowsRegister letter (Some r)
unfolding item_register
register_is_read letter blank r e = absurd cc
register_is_read letter (mark c) r e = absurd cc
register_is_read letter (word text) r e = machine_is_read letter text r e
register_is_read letter (symbol other n) r e = symbol_is_read letter other n r e
register_is_read letter (numeral n) r e = absurd cc

-- the place of a name is one of the names
one_later : (o : Option ℕ) (count n : ℕ) → ((m : ℕ) → o ≡ Some m → m < count) → option_and_then (λ place. Some (place + 1)) o ≡ Some n → n < suc count
one_later None count n below e = absurd cc
one_later (Some m) count n below e = let within : m < count = below m refl in let same : m + 1 ≡ n = same_Some (m + 1) n e in omega (arith, within, same)

name_place_within : (names : List (List ℕ)) (text : List ℕ) (n : ℕ) → name_place names text ≡ Some n → n < length names
unfolding name_place
name_place_within [] text n e = absurd cc
name_place_within (name ∷ names) text n e =
    ⊎_elim (λ (same : 0 ≡ n). let some : 0 < suc (length names) = omega arith in omega (arith, some, same))
    (one_later (name_place names text) (length names) n (name_place_within names text))
    (which (str_eq_ignore_ascii_case text name) 0 (option_and_then (λ place. Some (place + 1)) (name_place names text)) n e)

condition_within : (text : List ℕ) (n : ℕ) → condition_of text ≡ Some n → n < 14
unfolding condition_of
condition_within text n e =
    ⊎_elim (λ (same : 2 ≡ n). omega arith)
    (λ e'. ⊎_elim (λ (same : 3 ≡ n). omega arith)
    (name_place_within condition_names text n)
    (which (str_eq_ignore_ascii_case text (codes "lo")) 3 (name_place condition_names text) n e'))
    (which (str_eq_ignore_ascii_case text (codes "hs")) 2 _ n e)

-- Is this number found?
abbrev finds_number : Option ℕ → ℕ → Bool
finds_number None n = false
finds_number (Some m) n = m == n

finds_number_is : (o : Option ℕ) (n : ℕ) → finds_number o n ≡ true → o ≡ Some n
finds_number_is None n e = absurd cc
finds_number_is (Some m) n e = ap Some (eqb-true m n e)

condition_named : (n : ℕ) → n < 14 → finds_number (condition_of (condition_text (Some (pos n)))) n ≡ true
unfolding condition_of name_place always
condition_named n h = agree_below_at (λ n. finds_number (condition_of (condition_text (Some (pos n)))) n) always 14 n refl h

-- And so is a condition.
pub condition_is_read : (text : List ℕ) (n : ℕ) → condition_of text ≡ Some n → ShowsCondition (Some (pos n))
condition_is_read text n e =
    let small = condition_within text n e in
    record { number = n; is = refl; named = finds_number_is _ n (condition_named n small); small = small }
