-- Low bits of numbers, and a number with some of its bits replaced.
use Rattle.std.proofs.Common.{◌≡◌, ◌∙◌, sym, ap, ℕ, ◌+◌, ◌-◌, ◌*◌, ◌/◌, ◌%◌, ◌^◌, ◌<◌, ◌≤◌, arith}
use Rattle.std.proofs.Math.Nat.{mod-eq_of_lt, mod-le, add-mod, mod-mod, mul-le-mul_right}
use Rattle.std.proofs.Math.Pow.{mod-mod-pow}
use Rattle.std.proofs.lemmas.Nat.{shr_split}

-- a longer mask before a shorter one
pub low-of_wide : (x k : ℕ) → k ≤ 64 → x % 2 ^ 128 % 2 ^ k ≡ x % 2 ^ k
low-of_wide x k h =
    let e : 128 - k + k ≡ 128 = omega (arith, h) in
    ap (λ n. x % 2 ^ n % 2 ^ k) (sym e) ∙ mod-mod-pow x (128 - k) k

-- the bits of a number from a place on, at their place, are no more than the number
part_le : (d place : ℕ) → d / 2 ^ place % 2 ^ 16 * 2 ^ place ≤ d
part_le d place =
    let short : d / 2 ^ place % 2 ^ 16 * 2 ^ place ≤ d / 2 ^ place * 2 ^ place =
    mul-le-mul_right (2 ^ place) (mod-le (d / 2 ^ place) (2 ^ 16)) in
    let split : d / 2 ^ place * 2 ^ place + d % 2 ^ place ≡ d = shr_split d place in
    omega (arith, short, split)

-- so they fit where the number fits
part_low : (bits d place : ℕ) → d < 2 ^ bits → d / 2 ^ place % 2 ^ 16 * 2 ^ place % 2 ^ bits ≡ d / 2 ^ place % 2 ^ 16 * 2 ^ place
part_low bits d place h = mod-eq_of_lt (let e : d / 2 ^ place % 2 ^ 16 * 2 ^ place ≤ d = part_le d place in omega (arith, e, h))

-- the low bits of a sum need no more than the low bits of what is added
low_sum : (a b m : ℕ) → (a + b % m) % m ≡ (a + b) % m
low_sum a b m = add-mod a (b % m) m ∙ (ap (λ n. (a % m + n) % m) (mod-mod b m) ∙ sym (add-mod a b m))

-- a number with 16 of its bits replaced, by steps that fit
pub with_part-steps : (bits d part place : ℕ) → d < 2 ^ bits
    → (d - d / 2 ^ place % 2 ^ 16 * 2 ^ place % 2 ^ bits + part * 2 ^ place % 2 ^ bits) % 2 ^ bits
    ≡ (d - d / 2 ^ place % 2 ^ 16 * 2 ^ place + part * 2 ^ place) % 2 ^ bits
with_part-steps bits d part place h =
    ap (λ n. (d - n + part * 2 ^ place % 2 ^ bits) % 2 ^ bits) (part_low bits d place h)
    ∙ low_sum (d - d / 2 ^ place % 2 ^ 16 * 2 ^ place) (part * 2 ^ place) (2 ^ bits)
