-- The number of digits, one digit after the other.
use Rattle.std.proofs.Common.{◌≡◌, ◌∙◌, sym, ap, refl, ℕ, ◌+◌, ◌*◌, ◌<◌, ◌≤◌, List, length, drop, get_or, None, Some, cond, subst, arith}
use Rattle.std.specs.Prelude.{Option, option_and_then}
use Rattle.std.proofs.lemmas.Bool.{le-leb, lt-leb}
use Rattle.std.proofs.lemmas.List.{at_drop_more, at_drop_all}
use Rattle.sl_model.specs.Digits.{digit_of, digits_number}
use Rattle.sl_laws.proofs.Digits.{gone_through, gone_through_all}
use Rattle.sl_text.specs.declared.digits.Numeral.TheVariants as numeral
use Rattle.sl_text.specs.Numerals.{numeral_of, IsUpTo}

-- ---- one digit after the other

-- So far digits give a value, of which is known what isn't above the most.
pub record IsSoFar (radix most : ℕ) (text : List ℕ) (place : ℕ) (number : Option ℕ) : Type 0 where
  pub value : ℕ
  pub known : IsUpTo most number value
  pub left : gone_through radix value (drop place text) ≡ digits_number radix text

pub so_far_start : (radix most : ℕ) (text : List ℕ) → IsSoFar radix most text 0 (Some 0)
so_far_start radix most text = record { value = 0; known = (refl, omega arith); left = gone_through_all radix text }

-- a digit more
pub so_far_next : (radix most : ℕ) (text : List ℕ) (place c digit : ℕ) (number next : Option ℕ) → IsSoFar radix most text place number
    → (place < length text) × (c ≡ get_or text place 0) → digit_of radix c ≡ Some digit
    → ((value : ℕ) → IsUpTo most number value → IsUpTo most next (radix * value + digit))
    → IsSoFar radix most text (place + 1) next
unfolding gone_through
so_far_next radix most text place c digit number next far at is grows = record {
  value = radix * far.value + digit;
  known = grows far.value far.known;
  left =
      sym (at_drop_more (gone_through radix far.value) text place 0 at.0
      ∙ ap (λ d. option_and_then (λ digit. gone_through radix (radix * far.value + digit) (drop (place + 1) text)) (digit_of radix d)) (sym at.1)
      ∙ ap (option_and_then (λ digit. gone_through radix (radix * far.value + digit) (drop (place + 1) text))) is)
      ∙ far.left;
}

-- a character that is no digit
so_far-stop : (radix most : ℕ) (text : List ℕ) (place c : ℕ) (number : Option ℕ) → IsSoFar radix most text place number
    → (place < length text) × (c ≡ get_or text place 0) → digit_of radix c ≡ None → digits_number radix text ≡ None
unfolding gone_through
so_far-stop radix most text place c number far at is =
    sym far.left
    ∙ at_drop_more (gone_through radix far.value) text place 0 at.0
    ∙ ap (λ d. option_and_then (λ digit. gone_through radix (radix * far.value + digit) (drop (place + 1) text)) (digit_of radix d)) (sym at.1)
    ∙ ap (option_and_then (λ digit. gone_through radix (radix * far.value + digit) (drop (place + 1) text))) is

-- no digit is left
so_far-end : (radix most : ℕ) (text : List ℕ) (place : ℕ) (number : Option ℕ) → length text ≤ place → (far : IsSoFar radix most text place number)
    → digits_number radix text ≡ Some far.value
unfolding gone_through
so_far-end radix most text place number all far = sym far.left ∙ at_drop_all (gone_through radix far.value) text place all

-- ---- what is found

-- no number, at a character that is no digit
pub no_number : (radix most : ℕ) (text : List ℕ) (place c : ℕ) (number : Option ℕ) → IsSoFar radix most text place number
    → (place < length text) × (c ≡ get_or text place 0) → digit_of radix c ≡ None → numeral.Nothing ≡ numeral_of most (digits_number radix text)
no_number radix most text place c number far at is = sym (ap (numeral_of most) (so_far-stop radix most text place c number far at is))

known_is : (most n value : ℕ) (number : Option ℕ) → number ≡ Some n → IsUpTo most number value → IsUpTo most (Some n) value
known_is most n value number is known = subst (λ o. IsUpTo most o value) is known

great_is : (most value : ℕ) (number : Option ℕ) → number ≡ None → IsUpTo most number value → most < value
great_is most value number is known = subst (λ o. IsUpTo most o value) is known

-- a number that isn't above the most
pub a_number : (radix most : ℕ) (text : List ℕ) (place n : ℕ) (number : Option ℕ) → IsSoFar radix most text place number → length text ≤ place
    → number ≡ Some n → numeral.Number n ≡ numeral_of most (digits_number radix text)
a_number radix most text place n number far all is =
    let known = known_is most n far.value number is far.known in
    sym (ap (numeral_of most) (so_far-end radix most text place number all far)
    ∙ ap (λ b. cond b (numeral.Number far.value) numeral.TooGreat) (le-leb far.value most known.1) ∙ ap (λ v. numeral.Number v) (sym known.0))

-- one that is
pub great_number : (radix most : ℕ) (text : List ℕ) (place : ℕ) (number : Option ℕ) → IsSoFar radix most text place number → length text ≤ place
    → number ≡ None → numeral.TooGreat ≡ numeral_of most (digits_number radix text)
great_number radix most text place number far all is =
    sym (ap (numeral_of most) (so_far-end radix most text place number all far)
    ∙ ap (λ b. cond b (numeral.Number far.value) numeral.TooGreat) (lt-leb far.value most (great_is most far.value number is far.known)))
