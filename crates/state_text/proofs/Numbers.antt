-- What is found of a number, beside the largest one that is asked for, is the number if it is below the next one.
use Rattle.std.proofs.Common.{◌≡◌, ℕ, ◌+◌, ◌<◌, ◌≤◌, true, false, cond, Option, None, Some, refl, ap, sym, ◌∙◌, arith}
use Rattle.std.specs.Prelude.{option_and_then, nat_le}
use Rattle.std.proofs.lemmas.Bool.{leb-true, leb-false, lt-ltb, le-ltb}
use Rattle.sl_text.specs.declared.digits.Numeral.TheVariants.{Nothing, TooGreat, Number}
use Rattle.sl_text.specs.Numerals.{numeral_of}
use Rattle.state_text.specs.StateText.{below}

-- a number is one below the next
pub a_number : (most n : ℕ) (o : Option ℕ) → Number n ≡ numeral_of most o → (Some n ≡ option_and_then (below (most + 1)) o) × (n ≤ most)
a_number most n None e = absurd cc
a_number most n (Some v) e = elim (nat_le v most) as (λ b. nat_le v most ≡ b → Number n ≡ cond b (Number v) TooGreat
    → (Some n ≡ option_and_then (below (most + 1)) (Some v)) × (n ≤ most)) [
      | true ↦ λ within is.
          let same : n ≡ v = cc in
          let small : v ≤ most = leb-true v most within in
          let next : v < most + 1 = omega arith in
          (ap (λ m. Some m) same ∙ sym (ap (λ b. cond b (Some v) None) (lt-ltb v (most + 1) next)), omega arith)
      | false ↦ λ past is. absurd cc
    ] refl e

-- a number that is too great is none
pub great_number : (most : ℕ) (o : Option ℕ) → TooGreat ≡ numeral_of most o → None ≡ option_and_then (below (most + 1)) o
great_number most None e = refl
great_number most (Some v) e = elim (nat_le v most) as (λ b. nat_le v most ≡ b → TooGreat ≡ cond b (Number v) TooGreat
    → None ≡ option_and_then (below (most + 1)) (Some v)) [
      | true ↦ λ within is. absurd cc
      | false ↦ λ past is.
          let great : most < v = leb-false v most past in
          let next : most + 1 ≤ v = omega arith in
          sym (ap (λ b. cond b (Some v) None) (le-ltb v (most + 1) next))
    ] refl e

-- and so is what is no number
pub no_number : (most : ℕ) (o : Option ℕ) → Nothing ≡ numeral_of most o → None ≡ option_and_then (below (most + 1)) o
no_number most None e = refl
no_number most (Some v) e = elim (nat_le v most) as (λ b. Nothing ≡ cond b (Number v) TooGreat → None ≡ option_and_then (below (most + 1)) (Some v)) [
  | true ↦ λ is. absurd cc
  | false ↦ λ is. absurd cc
] e
