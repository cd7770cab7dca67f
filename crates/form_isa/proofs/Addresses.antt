-- Addresses, and numbers of bytes.
use Rattle.std.proofs.Common.{◌≡◌, ◌∙◌, sym, ap, refl, ℕ, ℤ, pos, negsuc, zero, suc, ◌+◌, ◌-◌, ◌*◌, ◌%◌, ◌^◌, ◌<◌, ◌≤◌, ◌+ℤ◌, unsigned_abs, arith, pow-add}
use Rattle.std.specs.Int.{int_rem_euclid}
use Rattle.std.proofs.Math.Nat.{pow-le-pow_right, mul-le-mul_left}
use Rattle.std.proofs.lemmas.Int.{ints, int_rem_euclid_is}
use native.Mathlib.Nat.{mod-add-mod}
use Rattle.sl_model.specs.declared.instruction.ArchName.{ArchName}
use Rattle.sl_model.specs.declared.instruction.ArchName.TheVariants.{Arm64, M4}
use Rattle.sl_model.specs.Isa.{address_at}
use Rattle.sl_model.specs.Machine.{space_of}

-- an offset as a natural number, a multiple of the space above it
raised-up : (b k m : ℕ) → (pos b +ℤ pos k) +ℤ pos (k * m) ≡ pos (b + (k + k * m))
raised-up b k m = omega (arith, ints)

times : (k m : ℕ) → 1 ≤ m → suc k ≤ suc k * m
times k m h = let step : suc k * 1 ≤ suc k * m = mul-le-mul_left (suc k) h in omega (arith, step)

raised-down : (b k n : ℕ) → suc k ≤ n → (pos b +ℤ negsuc k) +ℤ pos n ≡ pos (b + (n - suc k))
raised-down b k n h = omega (arith, ints, h)

-- The remainder of a sum is that of the low part of its first number.
rem-low : (base m : ℕ) (z : ℤ) → 1 ≤ m →
    int_rem_euclid (pos (base % m) +ℤ z) (pos m) ≡ int_rem_euclid (pos base +ℤ z) (pos m)
rem-low base m (pos k) h =
    int_rem_euclid_is (pos (base % m) +ℤ pos k) (pos m) m k (base % m + (k + k * m)) h refl (raised-up (base % m) k m)
    ∙ (ap pos (mod-add-mod base m (k + k * m))
    ∙ sym (int_rem_euclid_is (pos base +ℤ pos k) (pos m) m k (base + (k + k * m)) h refl (raised-up base k m)))
rem-low base m (negsuc k) h =
    let up : suc k ≤ suc k * m = times k m h in
    int_rem_euclid_is (pos (base % m) +ℤ negsuc k) (pos m) m (suc k) (base % m + (suc k * m - suc k)) h refl
    (raised-down (base % m) k (suc k * m) up)
    ∙ (ap pos (mod-add-mod base m (suc k * m - suc k))
    ∙ sym (int_rem_euclid_is (pos base +ℤ negsuc k) (pos m) m (suc k) (base + (suc k * m - suc k)) h refl
    (raised-down base k (suc k * m) up)))

some-space : (arch : ArchName) → 1 ≤ space_of arch
some-space Arm64 = omega arith
some-space M4 = omega arith

-- the address of a base of which the low part was moved
pub address_is : (arch : ArchName) (base : ℕ) (low moved offset : ℤ) → low ≡ pos (base % space_of arch) →
    moved ≡ low +ℤ offset →
    unsigned_abs (int_rem_euclid moved (pos (space_of arch))) ≡ address_at (space_of arch) base offset
unfolding address_at
address_is arch base low moved offset e f =
    ap (λ z. unsigned_abs (int_rem_euclid z (pos (space_of arch)))) (f ∙ ap (λ z. z +ℤ offset) e)
    ∙ ap unsigned_abs (rem-low base (space_of arch) offset (some-space arch))

-- one byte more
next-power : (n : ℕ) → 1 ≤ n → 2 ^ (8 * n) ≡ 2 ^ 8 * 2 ^ (8 * (n - 1))
next-power n h =
    let more : 8 * n ≡ 8 + 8 * (n - 1) = omega (arith, h) in
    ap (λ k. 2 ^ k) more ∙ pow-add 2 8 (8 * (n - 1))

pub room_above : (n r : ℕ) → n ≤ 16 → r < 2 ^ (8 * (n - 1)) → r < 2 ^ 120
room_above n r few h =
    let less : 8 * (n - 1) ≤ 120 = omega (arith, few) in
    let wide : 2 ^ (8 * (n - 1)) ≤ 2 ^ 120 = pow-le-pow_right (omega arith) less in
    omega (arith, h, wide)

pub byte_fits : (n r x : ℕ) → 1 ≤ n → r < 2 ^ (8 * (n - 1)) → x < 2 ^ 8 * (r + 1) → x < 2 ^ (8 * n)
byte_fits n r x some h g =
    let more : 2 ^ (8 * n) ≡ 2 ^ 8 * 2 ^ (8 * (n - 1)) = next-power n some in
    let p : ℕ = 2 ^ (8 * (n - 1)) in
    within p r x (2 ^ (8 * n)) h g more
  where
    within : (p r x q : ℕ) → r < p → x < 2 ^ 8 * (r + 1) → q ≡ 2 ^ 8 * p → x < q
    within p r x q h g e = omega (arith, h, g, e)

pub not_none : (n : ℕ) → (n ≡ 0 → ⊥) → 1 ≤ n
not_none zero e = absurd (e refl)
not_none (suc n) e = omega arith
