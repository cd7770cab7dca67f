-- The high half of twice a product is what a halved division gives.
use Rattle.std.proofs.Common.{◌≡◌, ◌∙◌, sym, ap, subst, ℕ, suc, ◌*◌, ◌/◌, ◌%◌, ◌+◌, ◌-◌, ◌^◌, ◌<◌, ◌≤◌, arith, lit<, pos, ℤ, ◌+ℤ◌, ◌*ℤ◌, pow-add}
use Rattle.std.proofs.Math.IntN.{negsuc}
use Rattle.std.proofs.Math.Nat.{div-div-eq-div-mul, mod-eq_of_lt, pow-le-pow_right}
use Rattle.std.proofs.lemmas.Int.{ints}
use Rattle.std.proofs.lemmas.Nat.{pow_pos, one_shl}
use Rattle.std.specs.Int.{int_div_euclid}
use Rattle.lane_ops.specs.Lanes.{signed, saturated, low_bits}
use Rattle.lane_ops.specs.Vector.{doubled_high}

div_twice : (y : ℤ) (d : ℕ) → int_div_euclid (y +ℤ y) (pos (2 * d)) ≡ int_div_euclid y (pos d)
div_twice (pos a) d =
    let half : (a + a) / 2 ≡ a = omega arith in
    ap pos (sym (div-div-eq-div-mul (a + a) 2 d) ∙ ap (λ n. n / d) half)
div_twice (negsuc a) d =
    let half : suc (a + a) / 2 ≡ a = omega arith in
    ap negsuc (sym (div-div-eq-div-mul (suc (a + a)) 2 d) ∙ ap (λ n. n / d) half)

twice_pos : (n : ℕ) (b : ℤ) → pos (n + n) *ℤ b ≡ pos n *ℤ b +ℤ pos n *ℤ b
twice_pos n (pos b) = omega (arith, ints)
twice_pos n (negsuc b) = omega (arith, ints)

twice_negative : (n : ℕ) (b : ℤ) → negsuc (suc (n + n)) *ℤ b ≡ negsuc n *ℤ b +ℤ negsuc n *ℤ b
twice_negative n (pos b) = omega (arith, ints)
twice_negative n (negsuc b) = omega (arith, ints)

twice_product : (a b : ℤ) → pos 2 *ℤ a *ℤ b ≡ a *ℤ b +ℤ a *ℤ b
twice_product (pos n) b =
    let e : pos 2 *ℤ pos n ≡ pos (n + n) = omega (arith, ints) in
    ap (λ z. z *ℤ b) e ∙ twice_pos n b
twice_product (negsuc n) b =
    let e : pos 2 *ℤ negsuc n ≡ negsuc (suc (n + n)) = omega (arith, ints) in
    ap (λ z. z *ℤ b) e ∙ twice_negative n b

twice : (a b : ℤ) (added : ℕ) → pos 2 *ℤ a *ℤ b +ℤ pos (2 * added) ≡ (a *ℤ b +ℤ pos added) +ℤ (a *ℤ b +ℤ pos added)
twice a b added = ap (λ z. z +ℤ pos (2 * added)) (twice_product a b) ∙ omega (arith, ints)

double : (bits : ℕ) → 1 ≤ bits → 2 ^ bits ≡ 2 * 2 ^ (bits - 1)
double bits some =
    let e : bits ≡ 1 + (bits - 1) = omega arith in
    ap (λ k. 2 ^ k) e ∙ pow-add 2 1 (bits - 1)

pub doubled_is : (bits n m added : ℕ) (high : ℤ) → 1 ≤ bits
    → high ≡ int_div_euclid (signed bits n *ℤ signed bits m +ℤ pos added) (pos (2 ^ (bits - 1)))
    → low_bits bits (saturated bits high) ≡ doubled_high bits n m (2 * added)
unfolding doubled_high
doubled_is bits n m added high some e =
    ap (λ z. low_bits bits (saturated bits z))
    (e ∙ (sym (div_twice (signed bits n *ℤ signed bits m +ℤ pos added) (2 ^ (bits - 1)))
    ∙ (ap (λ p. int_div_euclid ((signed bits n *ℤ signed bits m +ℤ pos added) +ℤ (signed bits n *ℤ signed bits m +ℤ pos added)) (pos p)) (sym (double bits some))
    ∙ ap (λ z. int_div_euclid z (pos (2 ^ bits))) (sym (twice (signed bits n) (signed bits m) added)))))

low_below : (bits : ℕ) (z : ℤ) → low_bits bits z < 2 ^ bits
low_below bits (pos a) = let p : 0 < 2 ^ bits = pow_pos bits in omega arith
low_below bits (negsuc a) = let p : 0 < 2 ^ bits = pow_pos bits in omega arith

-- only low bits are in it
pub doubled_low : (bits n m round : ℕ) → doubled_high bits n m round % 2 ^ bits ≡ doubled_high bits n m round
unfolding doubled_high
doubled_low bits n m round =
    mod-eq_of_lt (low_below bits (saturated bits (int_div_euclid (pos 2 *ℤ signed bits n *ℤ signed bits m +ℤ pos round) (pos (2 ^ bits)))))

quarter_below : (bits : ℕ) → bits ≤ 64 → 2 ^ (bits - 2) ≤ 2 ^ 62
quarter_below bits narrow = let e : bits - 2 ≤ 62 = omega arith in pow-le-pow_right (lit< tt) e

quarter : (bits : ℕ) → bits ≤ 64 → 1 * 2 ^ (bits - 2) % 2 ^ 128 ≡ 2 ^ (bits - 2)
quarter bits narrow = one_shl (bits - 2) 128 (omega arith)

-- half of what rounds a product
pub quarter_small : (bits : ℕ) → bits ≤ 64 → 1 * 2 ^ (bits - 2) % 2 ^ 128 ≤ 2 ^ 62
quarter_small bits narrow = subst (λ n. n ≤ 2 ^ 62) (sym (quarter bits narrow)) (quarter_below bits narrow)

pub two_quarters : (bits : ℕ) → 8 ≤ bits → bits ≤ 64 → 2 * (1 * 2 ^ (bits - 2) % 2 ^ 128) ≡ 2 ^ (bits - 1)
two_quarters bits some narrow =
    let e : bits - 1 - 1 ≡ bits - 2 = omega arith in
    ap (λ n. 2 * n) (quarter bits narrow) ∙ (ap (λ k. 2 * 2 ^ k) (sym e) ∙ sym (double (bits - 1) (omega arith)))
