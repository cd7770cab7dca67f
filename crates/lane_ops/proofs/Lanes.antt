-- Lists of lanes: how long they are, and that the number which they make fits.
use Rattle.std.proofs.Common.{◌≡◌, ◌∙◌, refl, sym, ap, subst, ℕ, zero, suc, ◌*◌, ◌/◌, ◌%◌, ◌+◌, ◌-◌, ◌^◌, ◌<◌, ◌≤◌, List, [], ◌∷◌, length, arith, pow-add}
use Rattle.std.proofs.lemmas.Nat.{pow_pos, mul-add-lt, mod-mul-add, mod-pow-add}
use Rattle.std.proofs.Math.Nat.{pow-le-pow_right, mul-le-mul_left, mod-mod, mod-one}
use Rattle.lane_ops.specs.Lanes.{lanes_of, joined}

-- one lane more in front of others that fit
pub one_more : (bits count lane above : ℕ) → above < 2 ^ (bits * count)
    → lane % 2 ^ bits + 2 ^ bits * above < 2 ^ (bits * suc count)
one_more bits count lane above h =
    let e : bits * suc count ≡ bits + bits * count = omega arith in
    let p : 0 < 2 ^ bits = pow_pos bits in
    let low : lane % 2 ^ bits < 2 ^ bits = omega arith in
    let all : above * 2 ^ bits + lane % 2 ^ bits < 2 ^ bits * 2 ^ (bits * count) =
    mul-add-lt above (2 ^ bits) (lane % 2 ^ bits) (2 ^ (bits * count)) h low in
    subst (λ n. lane % 2 ^ bits + 2 ^ bits * above < n) (sym (ap (λ k. 2 ^ k) e ∙ pow-add 2 bits (bits * count))) (omega (arith, all))

pub joined_below : (bits : ℕ) (lanes : List ℕ) (count : ℕ) → length lanes ≤ count → joined bits lanes < 2 ^ (bits * count)
unfolding joined
joined_below bits [] count h = pow_pos (bits * count)
joined_below bits (lane ∷ lanes) zero h = absurd (omega arith)
joined_below bits (lane ∷ lanes) (suc count) h = one_more bits count lane (joined bits lanes) (joined_below bits lanes count (omega arith))

-- there is room for one lane more
pub room : (bits count above : ℕ) → bits * suc count ≤ 128 → above < 2 ^ (bits * count) → above * 2 ^ bits + 2 ^ bits ≤ 2 ^ 128
room bits count above fits h =
    let e : bits * suc count ≡ bits + bits * count = omega arith in
    let all : 2 ^ bits * suc above ≤ 2 ^ bits * 2 ^ (bits * count) = mul-le-mul_left (2 ^ bits) h in
    let wide : 2 ^ (bits * suc count) ≤ 2 ^ 128 = pow-le-pow_right (omega arith) fits in
    let w : 2 ^ bits * 2 ^ (bits * count) ≤ 2 ^ 128 = subst (λ n. n ≤ 2 ^ 128) (ap (λ k. 2 ^ k) e ∙ pow-add 2 bits (bits * count)) wide in
    omega (arith, all, w)

pub room_for : (bits count rest_bits rest_count rest : ℕ) (lanes : List ℕ) → rest_bits ≡ bits → count ≡ suc rest_count
    → bits * count ≤ 128 → length lanes ≤ rest_count → rest ≡ joined rest_bits lanes → rest * 2 ^ bits + 2 ^ bits ≤ 2 ^ 128
room_for bits count rest_bits rest_count rest lanes b e fits h is =
    let small : joined rest_bits lanes < 2 ^ (bits * rest_count) =
    subst (λ k. joined rest_bits lanes < 2 ^ (k * rest_count)) b (joined_below rest_bits lanes rest_count h) in
    room bits rest_count rest (subst (λ k. bits * k ≤ 128) e fits) (subst (λ v. v < 2 ^ (bits * rest_count)) (sym is) small)

pub room_within : (bits count left rest : ℕ) (lanes : List ℕ) → suc left ≤ count → bits * count ≤ 128
    → length lanes ≤ left → rest ≡ joined bits lanes → rest * 2 ^ bits + 2 ^ bits ≤ 2 ^ 128
room_within bits count left rest lanes e fits h is =
    let less : bits * suc left ≤ bits * count = mul-le-mul_left bits e in
    room_for bits (suc left) bits left rest lanes refl refl (omega (arith, less, fits)) h is

pub length-lanes_of : (bits count x : ℕ) → length (lanes_of bits count x) ≡ count
unfolding lanes_of
length-lanes_of bits zero x = omega arith
length-lanes_of bits (suc count) x = ap suc (length-lanes_of bits count (x / 2 ^ bits))

-- The lanes of a register make the register's low bits.
pub joined-lanes_of : (bits count x : ℕ) → joined bits (lanes_of bits count x) ≡ x % 2 ^ (bits * count)
unfolding joined lanes_of
joined-lanes_of bits zero x =
    let e : bits * zero ≡ 0 = omega arith in
    sym (ap (λ k. x % 2 ^ k) e ∙ mod-one x)
joined-lanes_of bits (suc count) x =
    let e : bits * suc count ≡ bits * count + bits = omega arith in
    let low : x % 2 ^ bits % 2 ^ bits ≡ x % 2 ^ bits = mod-mod x (2 ^ bits) in
    let high : joined bits (lanes_of bits count (x / 2 ^ bits)) ≡ x / 2 ^ bits % 2 ^ (bits * count) =
    joined-lanes_of bits count (x / 2 ^ bits) in
    let both : x % 2 ^ (bits * count + bits) ≡ x / 2 ^ bits % 2 ^ (bits * count) * 2 ^ bits + x % 2 ^ bits =
    mod-pow-add x (bits * count) bits in
    let whole : x % 2 ^ (bits * suc count) ≡ x / 2 ^ bits % 2 ^ (bits * count) * 2 ^ bits + x % 2 ^ bits =
    ap (λ k. x % 2 ^ k) e ∙ both in
    ap (λ n. n + 2 ^ bits * joined bits (lanes_of bits count (x / 2 ^ bits))) low
    ∙ (ap (λ n. x % 2 ^ bits + 2 ^ bits * n) high ∙ (omega arith ∙ sym whole))

-- what is low of low bits is low
pub low_low : (x k w : ℕ) → k ≤ w → x % 2 ^ w % 2 ^ k ≡ x % 2 ^ k
low_low x k w h =
    let e : w ≡ w - k + k = omega arith in
    let p : 0 < 2 ^ k = pow_pos k in
    let r : x % 2 ^ k < 2 ^ k = omega arith in
    ap (λ j. x % 2 ^ j % 2 ^ k) e
    ∙ (ap (λ n. n % 2 ^ k) (mod-pow-add x (w - k) k) ∙ mod-mul-add (x / 2 ^ k % 2 ^ (w - k)) (2 ^ k) (x % 2 ^ k) r)
