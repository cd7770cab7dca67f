-- Disjoint ranges on one base give disjoint addresses.
use Rattle.std.proofs.Common.{◌≡◌, ℕ, ◌+◌, ◌-◌, ◌*◌, ◌%◌, ◌^◌, ◌<◌, ◌≤◌, ◌⊎◌, true, ℤ, pos, negsuc, ◌+ℤ◌, ◌≤ℤ◌, int_le, unsigned_abs, refl, sym, ◌∙◌, ap, ⊎_elim, arith, mod-lt, mod-eq_of_lt}
use Rattle.std.proofs.lemmas.Bool.{or_cases}
use Rattle.std.proofs.lemmas.Bool.{cases_lt, cases_order}
use Rattle.std.proofs.lemmas.Int.{ints, int_rem_euclid_is}
use native.Mathlib.Nat.{mod-add-mod, mod-eq-sub-mod}
use Rattle.sl_model.specs.Isa.{address_at}
use Rattle.sl_model.specs.Body.{ranges_disjoint}
use Rattle.sl_laws.proofs.State.{IsWithin}

-- Numbers that are less than a modulus apart have different remainders.
apart_mod : (space x d : ℕ) → 0 < d → d < space → (x + d) % space ≡ x % space → ⊥
apart_mod space x d some small same =
    let bound : x % space < space = mod-lt x (omega arith) in
    let moved : (x % space + d) % space ≡ x % space = mod-add-mod x space d ∙ same in
    ⊎_elim
    (λ (below : x % space + d < space).
    let is : x % space + d ≡ x % space = sym (mod-eq_of_lt below) ∙ moved in
    omega arith)
    (λ (above : space ≤ x % space + d).
    let less : x % space + d - space < space = omega arith in
    let is : x % space + d - space ≡ x % space = sym (mod-eq_of_lt less) ∙ sym (mod-eq-sub-mod above) ∙ moved in
    omega arith)
    (cases_lt (x % space + d) space)

-- So two numbers with one remainder that are near are one number.
near_mod : (space x y : ℕ) → x < y + space → y < x + space → x % space ≡ y % space → x ≡ y
near_mod space x y left right same = ⊎_elim
    (λ (is : x ≡ y). is)
    (λ (rest : (x < y) ⊎ (y < x)). ⊎_elim
    (λ (less : x < y).
    let y_is : x + (y - x) ≡ y = omega arith in
    absurd (apart_mod space x (y - x) (omega arith) (omega arith) (ap (λ n. n % space) y_is ∙ sym same)))
    (λ (more : y < x).
    let x_is : y + (x - y) ≡ x = omega arith in
    absurd (apart_mod space y (x - y) (omega arith) (omega arith) (ap (λ n. n % space) x_is ∙ same)))
    rest)
    (cases_order x y)

-- A number that is not negative is its own absolute value.
not_negative : (z : ℤ) → pos 0 ≤ℤ z → z ≡ pos (unsigned_abs z)
not_negative (pos n) e = refl
not_negative (negsuc n) e = absurd (omega (arith, ints))

-- an offset, raised above zero
abbrev raised : ℤ → ℕ
raised offset = unsigned_abs (offset +ℤ pos (2 ^ 20))

-- a raised offset is a natural number
raised-is : (offset : ℤ) → pos 0 ≤ℤ (offset +ℤ pos (2 ^ 20)) → offset +ℤ pos (2 ^ 20) ≡ pos (raised offset)
raised-is offset low = not_negative (offset +ℤ pos (2 ^ 20)) low

-- a base and an offset, moved by the size of the space, as a natural number
sum_is : (base space u : ℕ) (offset : ℤ) → 2 ^ 32 ≤ space → offset +ℤ pos (2 ^ 20) ≡ pos u → (pos base +ℤ offset) +ℤ pos (1 * space) ≡ pos (base + (space - 2 ^ 20) + u)
sum_is base space u offset large e = omega (arith, ints)

-- an address as the remainder of a sum of natural numbers
address-is : (space base : ℕ) (offset : ℤ) → 2 ^ 32 ≤ space → pos 0 ≤ℤ (offset +ℤ pos (2 ^ 20)) → address_at space base offset ≡ (base + (space - 2 ^ 20) + raised offset) % space
unfolding address_at
address-is space base offset large low = ap unsigned_abs (int_rem_euclid_is (pos base +ℤ offset) (pos space) space 1 (base + (space - 2 ^ 20) + raised offset) (omega arith) refl
    (sum_is base space (raised offset) offset large (raised-is offset low)))

-- What is asked of an offset and a size.
pub record IsSmall (offset : ℤ) (size : ℕ) : Type 0 where
  pub low : pos 0 ≤ℤ (offset +ℤ pos (2 ^ 20))
  pub high : offset ≤ℤ pos (2 ^ 20)
  pub short : size ≤ 32

-- a raised offset is small
raised_high : (offset : ℤ) (u : ℕ) → offset +ℤ pos (2 ^ 20) ≡ pos u → offset ≤ℤ pos (2 ^ 20) → u ≤ 2 ^ 21
raised_high offset u e high = omega (arith, ints)

-- raised offsets keep the order of their ranges
raised_before : (a b : ℤ) (u v m : ℕ) → a +ℤ pos (2 ^ 20) ≡ pos u → b +ℤ pos (2 ^ 20) ≡ pos v → int_le (a +ℤ pos m) b ≡ true → u + m ≤ v
raised_before a b u v m ea eb before = omega (arith, ints)

-- Places in two ranges, one of which ends before the other begins, are not one address.
clash : (c u v i j m n space : ℕ) → 2 ^ 32 ≤ space → u ≤ 2 ^ 21 → v ≤ 2 ^ 21 → u + m ≤ v → i < m → j < n → m ≤ 32 → n ≤ 32 → (c + u + i) % space ≡ (c + v + j) % space → ⊥
clash c u v i j m n space large hu hv order hi hj hm hn same =
    let is : c + u + i ≡ c + v + j = near_mod space (c + u + i) (c + v + j) (omega arith) (omega arith) same in
    omega arith

-- Where one of two small ranges on one base ends before the other begins, no address is in both.
ranges-apart_before : (space base m n at : ℕ) (a b : ℤ) → 2 ^ 32 ≤ space → IsSmall a m → IsSmall b n → int_le (a +ℤ pos m) b ≡ true → IsWithin space (address_at space base a) m at → IsWithin space (address_at space base b) n at → ⊥
ranges-apart_before space base m n at a b large x y before inside there =
    let ea : a +ℤ pos (2 ^ 20) ≡ pos (raised a) = raised-is a x.low in
    let eb : b +ℤ pos (2 ^ 20) ≡ pos (raised b) = raised-is b y.low in
    let ha : raised a ≤ 2 ^ 21 = raised_high a (raised a) ea x.high in
    let hb : raised b ≤ 2 ^ 21 = raised_high b (raised b) eb y.high in
    let order : raised a + m ≤ raised b = raised_before a b (raised a) (raised b) m ea eb before in
    let at_a : (base + (space - 2 ^ 20) + raised a + inside.place) % space ≡ at = sym (mod-add-mod (base + (space - 2 ^ 20) + raised a) space inside.place) ∙ ap (λ n. (n + inside.place) % space) (sym (address-is space base a large x.low)) ∙ inside.is in
    let at_b : (base + (space - 2 ^ 20) + raised b + there.place) % space ≡ at = sym (mod-add-mod (base + (space - 2 ^ 20) + raised b) space there.place) ∙ ap (λ n. (n + there.place) % space) (sym (address-is space base b large y.low)) ∙ there.is in
    clash (base + (space - 2 ^ 20)) (raised a) (raised b) inside.place there.place m n space large ha hb order inside.below there.below x.short y.short (at_a ∙ sym at_b)

-- Where two small ranges on one base are disjoint, no address is in both.
pub ranges-apart : (space base m n at : ℕ) (a b : ℤ) → 2 ^ 32 ≤ space → IsSmall a m → IsSmall b n → ranges_disjoint a m b n ≡ true → IsWithin space (address_at space base a) m at → IsWithin space (address_at space base b) n at → ⊥
ranges-apart space base m n at a b large x y disjoint inside there = ⊎_elim
    (λ (before : int_le (a +ℤ pos m) b ≡ true). ranges-apart_before space base m n at a b large x y before inside there)
    (λ (after : int_le (b +ℤ pos n) a ≡ true). ranges-apart_before space base n m at b a large y x after there inside)
    (or_cases (int_le (a +ℤ pos m) b) (int_le (b +ℤ pos n) a) disjoint)
