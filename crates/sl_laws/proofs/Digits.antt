-- Numbers by their digits, from the first one on; and a number that is printed is read as itself.
use Rattle.std.proofs.Common.{◌≡◌, ◌∙◌, sym, ap, refl, ℕ, zero, suc, ◌+◌, ◌*◌, ◌/◌, ◌%◌, ◌^◌, ◌==◌, ◌<◌, ◌≤◌, Bool, true, false, not, cond, List, [], ◌∷◌, ◌++◌, length, None, Some, arith}
use Rattle.std.specs.Prelude.{Option, option_and_then, nat_lt}
use Rattle.std.specs.Char.{digit_value}
use Rattle.std.specs.Fmt.{decimal}
use Rattle.std.proofs.lemmas.Fmt.{decimal_digit, decimal_by_steps}
use Rattle.std.proofs.lemmas.Option.{same_Some}
use Rattle.std.proofs.lemmas.Bool.{lt-ltb}
use Rattle.std.proofs.lemmas.Bool.Decides.{nat_tests}
use Rattle.std.proofs.Math.Nat.{add-mul, mul_assoc, mul_comm, pow-zero, pow-succ'}
use Rattle.std.proofs.lemmas.Str.{digit_value-digit_char}
use Rattle.sl_model.specs.OptionSteps.{◌>>=◌}
use Rattle.sl_model.specs.Digits.{digit_of, digits_number, zero_alone, decimal_number}

-- the number of digits behind a value
unfoldable pub gone_through : ℕ → ℕ → List ℕ → Option ℕ
gone_through radix value [] = Some value
gone_through radix value (c ∷ text) = do
  digit ← digit_of radix c
  gone_through radix (radix * value + digit) text

-- a digit more, where the digits behind it count for `m` in all
regrouped : (r v d m b : ℕ) → (r * v + d) * m + b ≡ v * (r * m) + (d * m + b)
regrouped r v d m b =
    let cut : (r * v + d) * m ≡ r * v * m + d * m = add-mul (r * v) d m in
    let turned : r * v * m ≡ v * (r * m) = ap (λ k. k * m) (mul_comm r v) ∙ mul_assoc v r m in
    omega (arith, cut, turned)

one_more : (r v d k b : ℕ) → (r * v + d) * r ^ k + b ≡ v * r ^ suc k + (d * r ^ k + b)
one_more r v d k b = regrouped r v d (r ^ k) b ∙ ap (λ p. v * p + (d * r ^ k + b)) (sym (pow-succ' r k))

-- the value so far, and what is behind it
abbrev ended : ℕ → ℕ → ℕ → Option ℕ → Option ℕ
ended radix value count o = option_and_then (λ n. Some (value * radix ^ count + n)) o

digit_more : (radix value d k : ℕ) (o : Option ℕ) →
    ended radix (radix * value + d) k o ≡ ended radix value (suc k) (option_and_then (λ behind. Some (d * radix ^ k + behind)) o)
digit_more radix value d k None = refl
digit_more radix value d k (Some b) = ap Some (one_more radix value d k b)

goes_deeper : (radix value : ℕ) (text : List ℕ) (digit : Option ℕ) →
    ((v : ℕ) → gone_through radix v text ≡ ended radix v (length text) (digits_number radix text)) →
    option_and_then (λ d. gone_through radix (radix * value + d) text) digit
    ≡ ended radix value (suc (length text)) (option_and_then (λ d. option_and_then (λ behind. Some (d * radix ^ length text + behind)) (digits_number radix text)) digit)
goes_deeper radix value text None goes = refl
goes_deeper radix value text (Some d) goes = goes (radix * value + d) ∙ digit_more radix value d (length text) (digits_number radix text)

goes_through : (radix value : ℕ) (text : List ℕ) → gone_through radix value text ≡ ended radix value (length text) (digits_number radix text)
unfolding gone_through digits_number
goes_through radix value [] = let same : value ≡ value * radix ^ 0 + 0 = omega arith ∙ ap (λ p. value * p + 0) (sym (pow-zero radix)) in ap Some same
goes_through radix value (c ∷ text) = goes_deeper radix value text (digit_of radix c) (λ v. goes_through radix v text)

from_zero : (radix k : ℕ) (o : Option ℕ) → ended radix 0 k o ≡ o
from_zero radix k None = refl
from_zero radix k (Some n) = let none : 0 * radix ^ k + n ≡ n = omega arith in ap Some none

-- what is behind no value is the number of all
pub gone_through_all : (radix : ℕ) (text : List ℕ) → gone_through radix 0 text ≡ digits_number radix text
gone_through_all radix text = goes_through radix 0 text ∙ from_zero radix (length text) (digits_number radix text)

-- ---- a number that is printed

digit_made : (d : ℕ) → d < 10 → digit_of 10 (48 + d) ≡ Some d
digit_made d h =
    let small : d < 36 = omega arith in
    let is : digit_value (48 + d) ≡ d = ap digit_value (sym (ap (λ b. cond b (48 + d) (87 + d)) (lt-ltb d 10 h))) ∙ digit_value-digit_char d small in
    ap (λ v. cond (nat_lt v 10) (Some v) None) is ∙ ap (λ b. cond b (Some d) None) (lt-ltb d 10 h)

-- one digit more
digits_deeper : (o : Option ℕ) (value n d : ℕ) (ds : List ℕ) →
    ((v : ℕ) → gone_through 10 v ds ≡ Some n → gone_through 10 v (ds ++ (48 + d) ∷ []) ≡ Some (10 * n + d)) →
    option_and_then (λ digit. gone_through 10 (10 * value + digit) ds) o ≡ Some n →
    option_and_then (λ digit. gone_through 10 (10 * value + digit) (ds ++ (48 + d) ∷ [])) o ≡ Some (10 * n + d)
digits_deeper None value n d ds more e = absurd cc
digits_deeper (Some digit) value n d ds more e = more (10 * value + digit) e

digits_more : (value n d : ℕ) (ds : List ℕ) → d < 10 → gone_through 10 value ds ≡ Some n → gone_through 10 value (ds ++ (48 + d) ∷ []) ≡ Some (10 * n + d)
unfolding gone_through
digits_more value n d [] h e =
    let same : value ≡ n = same_Some value n e in
    ap (λ o. option_and_then (λ digit. Some (10 * value + digit)) o) (digit_made d h) ∙ ap (λ v. Some (10 * v + d)) same
digits_more value n d (c ∷ ds) h e = digits_deeper (digit_of 10 c) value n d ds (λ v f. digits_more v n d ds h f) e

-- Does a text begin with another character than `0`?
leads : List ℕ → Bool
leads [] = false
leads (c ∷ ds) = not (c == 48)

leads_more : (ds more : List ℕ) → leads ds ≡ true → leads (ds ++ more) ≡ true
unfolding leads
leads_more [] more e = absurd cc
leads_more (c ∷ ds) more e = e

leads_digit : (n : ℕ) → 0 < n → leads ((48 + n) ∷ []) ≡ true
unfolding leads
leads_digit n h = grind (arith, nat_tests)

-- what a decimal text is
record IsDecimal (n : ℕ) (ds : List ℕ) : Type 0 where
  value : gone_through 10 0 ds ≡ Some n
  begins : 0 < n → leads ds ≡ true

one_digit : (n : ℕ) → n < 10 → IsDecimal n ((48 + n) ∷ [])
unfolding gone_through
one_digit n h = record {
  value =
      let same : 10 * 0 + n ≡ n = omega arith in
      ap (λ o. option_and_then (λ digit. Some (10 * 0 + digit)) o) (digit_made n h) ∙ ap (λ v. Some v) same;
  begins = leads_digit n;
}

more_digits : (n : ℕ) (ds : List ℕ) → 10 ≤ n → IsDecimal (n / 10) ds → IsDecimal n (ds ++ (48 + n % 10) ∷ [])
more_digits n ds h p = record {
  value =
      let same : 10 * (n / 10) + n % 10 ≡ n = omega arith in
      let last : n % 10 < 10 = omega arith in
      digits_more 0 (n / 10) (n % 10) ds last p.value ∙ ap (λ v. Some v) same;
  begins = λ some. leads_more ds ((48 + n % 10) ∷ []) (p.begins (omega arith));
}

decimal_is : (n : ℕ) → n < 2 ^ 64 → IsDecimal n (decimal n)
decimal_is n h = decimal_by_steps IsDecimal one_digit more_digits n h

leads_value : (ds : List ℕ) → leads ds ≡ true → decimal_number ds ≡ digits_number 10 ds
unfolding decimal_number leads
leads_value [] e = absurd cc
leads_value (c ∷ ds) e =
    let test : (c == 48) ≡ false = grind (arith, nat_tests) in
    ap (λ b. cond b (zero_alone ds) (digits_number 10 (c ∷ ds))) test

zero_is_read : decimal_number (decimal 0) ≡ Some 0
unfolding decimal_number
zero_is_read = ap decimal_number (decimal_digit 0 (omega arith))

-- a number that is printed is read as itself
pub decimal-is_read : (n : ℕ) → n < 2 ^ 64 → decimal_number (decimal n) ≡ Some n
decimal-is_read zero h = zero_is_read
decimal-is_read (suc n) h =
    let p = decimal_is (suc n) h in
    leads_value (decimal (suc n)) (p.begins (omega arith)) ∙ (sym (gone_through_all 10 (decimal (suc n))) ∙ p.value)
