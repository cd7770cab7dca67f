-- A list whose last element is changed.
use Rattle.std.proofs.Common.{◌≡◌, ℕ, zero, suc, ◌-◌, ◌<◌, Bool, true, List, [], ◌∷◌, ◌++◌, length, take, drop, slice_index_or, slice_set, refl, ap, ◌∙◌, arith}
use Rattle.std.proofs.Math.Seq.{take-append_seam}
use Rattle.std.specs.List.{list_all}
use Rattle.std.proofs.lemmas.Bool.{and_parts, and_from}
use Rattle.asm_reader.specs.Drafts.{with_last}

-- it is set at its place
set_place : {X : Type 0} (f : X → X) (xs : List X) (k : ℕ) (none value : X) → length xs ≡ suc k → value ≡ f (slice_index_or xs k none) → slice_set xs k value ≡ with_last f xs
unfolding with_last
set_place f [] k none value some is = absurd (omega arith)
set_place f (x ∷ []) zero none value some is = ap (λ v. v ∷ []) is
set_place f (x ∷ []) (suc k) none value some is = absurd (omega arith)
set_place f (x ∷ y ∷ xs) zero none value some is = absurd (omega arith)
set_place f (x ∷ y ∷ xs) (suc k) none value some is = ap (λ rest. x ∷ rest) (set_place f (y ∷ xs) k none value (omega arith) is)

pub set_last : {X : Type 0} (f : X → X) (xs : List X) (none value : X) → 0 < length xs → value ≡ f (slice_index_or xs (length xs - 1) none) → slice_set xs (length xs - 1) value ≡ with_last f xs
set_last f xs none value some is =
    let whole : length xs ≡ suc (length xs - 1) = omega arith in
    set_place f xs (length xs - 1) none value whole is

-- and nothing is where there is none
pub none_last : {X : Type 0} (f : X → X) (xs : List X) → length xs ≡ 0 → xs ≡ with_last f xs
unfolding with_last
none_last f [] e = refl
none_last f (x ∷ xs) e = absurd (omega arith)

-- it has as many elements
pub length_last : {X : Type 0} (f : X → X) (xs : List X) → length (with_last f xs) ≡ length xs
unfolding with_last
length_last f [] = refl
length_last f (x ∷ []) = refl
length_last f (x ∷ y ∷ xs) = ap suc (length_last f (y ∷ xs))

-- a list that is put in the place of one as long
pub put_back : {X : Type 0} (count : ℕ) (xs ys : List X) → count ≡ length ys → length xs ≡ length ys → take count (xs ++ drop (length xs) ys) ≡ xs
put_back count xs ys all same =
    let whole : count ≡ length xs = omega arith in
    ap (λ n. take n (xs ++ drop (length xs) ys)) whole ∙ take-append_seam xs (drop (length xs) ys)

-- behind others it is the last one
pub last_of_front : {X : Type 0} (f : X → X) (front : List X) (x : X) → with_last f (front ++ x ∷ []) ≡ front ++ f x ∷ []
unfolding with_last
last_of_front f [] x = refl
last_of_front f (y ∷ []) x = refl
last_of_front f (y ∷ z ∷ front) x = ap (λ rest. y ∷ rest) (last_of_front f (z ∷ front) x)

pub all_last : {X : Type 0} (p : X → Bool) (x : X) (xs : List X) → p x ≡ true → list_all p xs ≡ true → list_all p (with_last (λ old. x) xs) ≡ true
unfolding with_last
all_last p x [] is all = refl
all_last p x (y ∷ []) is all = and_from (p x) true is refl
all_last p x (y ∷ z ∷ xs) is all =
    let both = and_parts (p y) (list_all p (z ∷ xs)) all in
    and_from (p y) (list_all p (with_last (λ old. x) (z ∷ xs))) both.0 (all_last p x (z ∷ xs) is both.1)
