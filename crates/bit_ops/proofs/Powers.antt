-- Powers of 2 from the 128th on, beside numbers of 128 bits.
use Rattle.std.proofs.Common.{◌≡◌, ◌∙◌, sym, ap, ℕ, ◌*◌, ◌/◌, ◌%◌, ◌+◌, ◌-◌, ◌^◌, ◌<◌, ◌≤◌, arith, lit<, pow-add}
use Rattle.std.proofs.Math.Nat.{pow-le-pow_right, div-eq_of_lt, mod-eq_of_lt, mul-mod_left, mul_assoc}

wide : (k : ℕ) → 128 ≤ k → 2 ^ 128 ≤ 2 ^ k
wide k h = pow-le-pow_right (lit< tt) h

pub below_wide : (x k : ℕ) → 128 ≤ k → x < 2 ^ 128 → x < 2 ^ k
below_wide x k h small = let w = wide k h in omega (arith, w, small)

pub none_left : (x k : ℕ) → 128 ≤ k → x < 2 ^ 128 → x / 2 ^ k ≡ 0
none_left x k h small = div-eq_of_lt (below_wide x k h small)

pub all_low : (x k : ℕ) → 128 ≤ k → x < 2 ^ 128 → x % 2 ^ k ≡ x
all_low x k h small = mod-eq_of_lt (below_wide x k h small)

pub none_low : (x k : ℕ) → 128 ≤ k → x * 2 ^ k % 2 ^ 128 ≡ 0
none_low x k h =
    let e : k - 128 + 128 ≡ k = omega (arith, h) in
    let split : x * 2 ^ k ≡ x * 2 ^ (k - 128) * 2 ^ 128 = ap (λ n. x * 2 ^ n) (sym e) ∙ (ap (λ p. x * p) (pow-add 2 (k - 128) 128) ∙ sym (mul_assoc x (2 ^ (k - 128)) (2 ^ 128))) in
    ap (λ n. n % 2 ^ 128) split ∙ mul-mod_left (x * 2 ^ (k - 128)) (2 ^ 128)
