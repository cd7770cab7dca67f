-- Signed fields of no bits, and of more bits than a word has.
use Rattle.std.proofs.Common.{◌≡◌, ◌∙◌, sym, ap, subst, refl, ℕ, ◌+◌, ◌-◌, ◌/◌, ◌%◌, ◌^◌, ◌<◌, ◌≤◌, cond, arith}
use Rattle.std.proofs.Math.Nat.{mod-one, mod-eq_of_lt}
use Rattle.std.proofs.Math.Pow.{pow_mono}
use Rattle.std.proofs.lemmas.Bool.{lt-leb}
use Rattle.std.proofs.lemmas.Nat.{shr_le}
use Rattle.bit_ops.specs.Bits.{extended}
use Rattle.scalar_ops.specs.Halves.{signed_field}

-- zero of no bits is no negative number
extended-none : extended 0 0 ≡ 0
unfolding extended
extended-none = refl

no_bits : (y : ℕ) → extended 0 (y % 2 ^ 0) % 2 ^ 32 ≡ 0
no_bits y = ap (λ v. extended 0 v % 2 ^ 32) (mod-one y) ∙ ap (λ v. v % 2 ^ 32) extended-none

-- a field of no bits is 0
pub field_none : (x place count : ℕ) → count ≡ 0 → 0 ≡ signed_field x place count
field_none x place count e = subst (λ k. 0 ≡ signed_field x place k) (sym e) (sym (no_bits (x / 2 ^ place)))

wide : (k : ℕ) → 32 ≤ k → 2 ^ 32 ≤ 2 ^ k
wide k h = pow_mono h

within : (y n m : ℕ) → y < n → n ≤ m → y < m
within y n m h g = omega (arith, h, g)

below-power : (y k : ℕ) → y < 2 ^ 32 → 32 ≤ k → y < 2 ^ k
below-power y k fits h = within y (2 ^ 32) (2 ^ k) fits (wide k h)

less-one : (k : ℕ) → 32 < k → 32 ≤ k - 1
less-one k h = omega (arith, h)

not-more : (k : ℕ) → 32 < k → 32 ≤ k
not-more k h = omega (arith, h)

-- a word is no negative number of more bits
extended-word : (y k : ℕ) → y < 2 ^ 32 → 32 < k → extended k y ≡ y
unfolding extended
extended-word y k fits more =
    ap (λ b. cond b (y + 2 ^ 128 - 2 ^ k) y) (lt-leb (2 ^ (k - 1)) y (below-power y (k - 1) fits (less-one k more)))

moved-fits : (x place : ℕ) → x < 2 ^ 32 → x / 2 ^ place < 2 ^ 32
moved-fits x place fits = let less : x / 2 ^ place ≤ x = shr_le x place in omega (arith, less, fits)

-- a field of more bits than a word is the word from its place on
word-field : (y k : ℕ) → y < 2 ^ 32 → 32 < k → y % 2 ^ k ≡ extended k (y % 2 ^ k) % 2 ^ 32
word-field y k fits more =
    let low : y % 2 ^ k ≡ y = mod-eq_of_lt (below-power y k fits (not-more k more)) in
    low
    ∙ sym (ap (λ v. extended k v % 2 ^ 32) low
    ∙ (ap (λ v. v % 2 ^ 32) (extended-word y k fits more) ∙ mod-eq_of_lt fits))

pub field_whole : (x place count : ℕ) → x < 2 ^ 32 → 32 < count → x / 2 ^ place % 2 ^ count ≡ signed_field x place count
field_whole x place count fits more = word-field (x / 2 ^ place) count (moved-fits x place fits) more
