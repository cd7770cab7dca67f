-- Lanes in other places: with one lane more, with none, and how many there are.
use Rattle.std.proofs.Common.{◌≡◌, ◌∙◌, sym, ap, refl, ℕ, zero, suc, ◌*◌, ◌/◌, ◌%◌, ◌+◌, ◌-◌, ◌^◌, ◌<◌, ◌≤◌, List, [], ◌∷◌, ◌++◌, length, take, drop, arith, add-one}
use Rattle.std.specs.Prelude.{slice_index, slice_set}
use Rattle.std.proofs.Math.Nat.{mod-mod, zero-mod, mod-eq_of_lt}
use Rattle.std.proofs.Math.ListN.{get_or-append, get_or-eq_default}
use Rattle.std.proofs.lemmas.List.{get_or-append_right, length-set, length-take}
use Rattle.std.proofs.lemmas.Nat.{pow_pos, shr-shr, mod_below, mod-mul-add, div-mul-add}
use Rattle.sl_isa.specs.declared.meaning.Permutation.{Permutation}
use Rattle.lane_ops.specs.Lanes.{lanes_of, joined, repeated}
use Rattle.lane_ops.specs.Vector.{taken_from, permuted}
use Rattle.lane_ops.proofs.Lanes.{length-lanes_of, low_low}

-- the lane at a place
pub lane_at : (bits count x place : ℕ) → place < count
    → slice_index (lanes_of bits count x) place ≡ x / 2 ^ (bits * place) % 2 ^ bits
unfolding lanes_of
lane_at bits zero x place h = absurd (omega arith)
lane_at bits (suc count) x zero h =
    let e : bits * zero ≡ 0 = omega arith in
    let one : x / 2 ^ 0 ≡ x = omega arith in
    sym (ap (λ k. x / 2 ^ k % 2 ^ bits) e ∙ ap (λ n. n % 2 ^ bits) one)
lane_at bits (suc count) x (suc place) h =
    let e : bits + bits * place ≡ bits * suc place = omega arith in
    lane_at bits count (x / 2 ^ bits) place (omega arith)
    ∙ ap (λ n. n % 2 ^ bits) (shr-shr x bits (bits * place) ∙ ap (λ k. x / 2 ^ k) e)

pub lane_past : (bits count x place : ℕ) → count ≤ place → slice_index (lanes_of bits count x) place ≡ 0
lane_past bits count x place h =
    let l = length-lanes_of bits count x in
    get_or-eq_default (lanes_of bits count x) 0 (omega arith)

pub lane_below : (bits count x place : ℕ) → slice_index (lanes_of bits count x) place < 2 ^ bits
unfolding lanes_of
lane_below bits zero x place = pow_pos bits
lane_below bits (suc count) x zero = mod_below x (2 ^ bits) (pow_pos bits)
lane_below bits (suc count) x (suc place) = lane_below bits count (x / 2 ^ bits) place

-- the lanes of two registers, one behind the other
abbrev pub both : ℕ → ℕ → ℕ → ℕ → List ℕ
both bits count n m = lanes_of bits count n ++ lanes_of bits count m

pub lane_of_first : (bits count n m place : ℕ) → place < count → slice_index (both bits count n m) place ≡ slice_index (lanes_of bits count n) place
lane_of_first bits count n m place h =
    let l = length-lanes_of bits count n in
    get_or-append (lanes_of bits count n) (lanes_of bits count m) 0 place (omega arith)

pub lane_of_second : (bits count n m place : ℕ) → count ≤ place → slice_index (both bits count n m) place ≡ slice_index (lanes_of bits count m) (place - count)
lane_of_second bits count n m place h =
    get_or-append_right (lanes_of bits count n) (lanes_of bits count m) count place 0 (length-lanes_of bits count n) h

-- one number in each lane
pub repeated_none : (bits x : ℕ) → joined bits (repeated 0 x) ≡ 0
unfolding joined repeated
repeated_none bits x = refl

pub repeated_more : (bits count x : ℕ) → joined bits (repeated (suc count) x)
    ≡ x % 2 ^ bits + 2 ^ bits * joined bits (repeated count x)
unfolding joined repeated
repeated_more bits count x = refl

pub length-repeated : (count x : ℕ) → length (repeated count x) ≤ count
unfolding repeated
length-repeated zero x = omega arith
length-repeated (suc count) x = let h = length-repeated count x in omega arith

pub lanes_of-repeated : (bits count x : ℕ) → x < 2 ^ bits → lanes_of bits count (joined bits (repeated count x)) ≡ repeated count x
unfolding lanes_of joined repeated
lanes_of-repeated bits zero x h = refl
lanes_of-repeated bits (suc count) x h =
    let e : x % 2 ^ bits ≡ x = mod-eq_of_lt h in
    let turned : x % 2 ^ bits + 2 ^ bits * joined bits (repeated count x) ≡ joined bits (repeated count x) * 2 ^ bits + x = omega arith in
    let front : (x % 2 ^ bits + 2 ^ bits * joined bits (repeated count x)) % 2 ^ bits ≡ x =
    ap (λ n. n % 2 ^ bits) turned ∙ mod-mul-add (joined bits (repeated count x)) (2 ^ bits) x h in
    let rest : (x % 2 ^ bits + 2 ^ bits * joined bits (repeated count x)) / 2 ^ bits ≡ joined bits (repeated count x) =
    ap (λ n. n / 2 ^ bits) turned ∙ div-mul-add (joined bits (repeated count x)) (2 ^ bits) x h in
    ap (λ v. v ∷ lanes_of bits count ((x % 2 ^ bits + 2 ^ bits * joined bits (repeated count x)) / 2 ^ bits)) front
    ∙ ap (λ l. x ∷ l) (ap (lanes_of bits count) rest ∙ lanes_of-repeated bits count x h)

-- the low halves of lanes
pub narrowed_none : (bits wide x : ℕ) → joined bits (lanes_of wide 0 x) ≡ 0
unfolding joined lanes_of
narrowed_none bits wide x = refl

pub narrowed_more : (bits count x : ℕ) → joined bits (lanes_of (2 * bits) (suc count) x)
    ≡ x % 2 ^ bits + 2 ^ bits * joined bits (lanes_of (2 * bits) count (x / 2 ^ (2 * bits)))
unfolding joined lanes_of
narrowed_more bits count x =
    ap (λ n. n + 2 ^ bits * joined bits (lanes_of (2 * bits) count (x / 2 ^ (2 * bits)))) (low_low x bits (2 * bits) (omega arith))

pub length-narrowed : (wide count x : ℕ) → length (lanes_of wide count x) ≤ count
length-narrowed wide count x = let l = length-lanes_of wide count x in omega arith

-- another lane at a place
pub inserted_none : (bits x place lane : ℕ) → joined bits (slice_set (lanes_of bits 0 x) place lane) ≡ 0
unfolding joined lanes_of
inserted_none bits x place lane = refl

pub inserted_here : (bits count x lane : ℕ) → joined bits (slice_set (lanes_of bits (suc count) x) 0 lane)
    ≡ lane % 2 ^ bits + 2 ^ bits * joined bits (lanes_of bits count (x / 2 ^ bits))
unfolding joined lanes_of
inserted_here bits count x lane = refl

pub inserted_above : (bits count x place lane : ℕ) → joined bits (slice_set (lanes_of bits (suc count) x) (suc place) lane)
    ≡ x % 2 ^ bits + 2 ^ bits * joined bits (slice_set (lanes_of bits count (x / 2 ^ bits)) place lane)
unfolding joined lanes_of
inserted_above bits count x place lane =
    ap (λ n. n + 2 ^ bits * joined bits (slice_set (lanes_of bits count (x / 2 ^ bits)) place lane)) (mod-mod x (2 ^ bits))

pub length-inserted : (bits count x place lane : ℕ) → length (slice_set (lanes_of bits count x) place lane) ≤ count
length-inserted bits count x place lane =
    let e = length-set (lanes_of bits count x) place lane in
    let l = length-lanes_of bits count x in
    omega arith

-- lanes from a place on
pub extracted_none : (bits place : ℕ) (lanes : List ℕ) → joined bits (take 0 (drop place lanes)) ≡ 0
unfolding joined
extracted_none bits place lanes = refl

none_taken : (bits count : ℕ) → 0 ≡ 0 % 2 ^ bits + 2 ^ bits * joined bits (take count [])
unfolding joined
none_taken bits zero = let e = zero-mod (2 ^ bits) in omega arith
none_taken bits (suc count) = let e = zero-mod (2 ^ bits) in omega arith

extracted_suc : (bits count place : ℕ) (lanes : List ℕ) → joined bits (take (suc count) (drop place lanes))
    ≡ slice_index lanes place % 2 ^ bits + 2 ^ bits * joined bits (take count (drop (suc place) lanes))
unfolding joined
extracted_suc bits count zero [] = none_taken bits count
extracted_suc bits count (suc place) [] = none_taken bits count
extracted_suc bits count zero (lane ∷ lanes) = refl
extracted_suc bits count (suc place) (lane ∷ lanes) = extracted_suc bits count place lanes

pub extracted_more : (bits count place : ℕ) (lanes : List ℕ) → joined bits (take (suc count) (drop place lanes))
    ≡ slice_index lanes place % 2 ^ bits + 2 ^ bits * joined bits (take count (drop (place + 1) lanes))
extracted_more bits count place lanes =
    extracted_suc bits count place lanes
    ∙ ap (λ p. slice_index lanes place % 2 ^ bits + 2 ^ bits * joined bits (take count (drop p lanes))) (sym (add-one place))

pub length-extracted : (count place : ℕ) (lanes : List ℕ) → length (take count (drop place lanes)) ≤ count
length-extracted count place lanes = let e = length-take count (drop place lanes) in omega arith

-- lanes in the places of a permutation
pub permuted_none : (op : Permutation) (bits count place : ℕ) (both : List ℕ) → joined bits (permuted op count both place 0) ≡ 0
unfolding joined permuted
permuted_none op bits count place both = refl

pub permuted_more : (op : Permutation) (bits count place left : ℕ) (both : List ℕ) → joined bits (permuted op count both place (suc left))
    ≡ slice_index both (taken_from op count place) % 2 ^ bits + 2 ^ bits * joined bits (permuted op count both (place + 1) left)
unfolding joined permuted
permuted_more op bits count place left both = refl

pub length-permuted : (op : Permutation) (count place left : ℕ) (both : List ℕ) → length (permuted op count both place left) ≤ left
unfolding permuted
length-permuted op count place zero both = omega arith
length-permuted op count place (suc left) both = let h = length-permuted op count (place + 1) left both in omega arith
