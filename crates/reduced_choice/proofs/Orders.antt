-- The order of lists of numbers, by their first difference.
use Rattle.std.proofs.Common.{◌≡◌, ℕ, zero, suc, ◌+◌, ◌<◌, ◌≤◌, Bool, true, false, cond, eqb, nat_lt, List, [], ◌∷◌, ◌++◌, map, length, drop, slice_get, Some, None, ⊎_elim, refl, sym, ap, ◌∙◌, true≢false, add-one, arith}
use Rattle.std.specs.Ordering.{nat_cmp, ordering_then, is_lt}
use Rattle.std.specs.declared.cmp.Ordering.{Ordering}
use Rattle.std.specs.declared.cmp.Ordering.TheVariants.{Less, Equal, Greater}
use Rattle.std.specs.Cmp.Lexicographic.{slice_cmp}
use Rattle.std.proofs.lemmas.Bool.{cases_Bool, ltb-true, le-ltb, eq-eqb, eqb-true, ne_eqb, cond-false, cond-true}
use Rattle.reduced_choice.specs.Early.{is_lower}

-- a number compared with itself, a lower and a higher one
nat_cmp-same : (n : ℕ) → nat_cmp n n ≡ Equal
nat_cmp-same n =
    cond-false (nat_lt n n) Less (cond (eqb n n) Equal Greater) (le-ltb n n (omega arith))
    ∙ cond-true (eqb n n) Equal Greater (eq-eqb n n refl)

nat_cmp-above : (m n : ℕ) → n < m → nat_cmp m n ≡ Greater
nat_cmp-above m n above =
    cond-false (nat_lt m n) Less (cond (eqb m n) Equal Greater) (le-ltb m n (omega arith))
    ∙ cond-false (eqb m n) Equal Greater (ne_eqb m n (λ (e : m ≡ n). omega arith))

-- the order of two numbers that differ is that of the test
nat_cmp-other : (m n : ℕ) → eqb m n ≡ false → (o : Ordering) → is_lt (ordering_then (nat_cmp m n) o) ≡ nat_lt m n
nat_cmp-other m n differ o = by (nat_lt m n) refl
  where
    by : (b : Bool) → nat_lt m n ≡ b → is_lt (ordering_then (nat_cmp m n) o) ≡ b
    by true less = ap (λ c. is_lt (ordering_then c o)) (cond-true (nat_lt m n) Less (cond (eqb m n) Equal Greater) less)
    by false other = ap (λ c. is_lt (ordering_then c o)) (cond-false (nat_lt m n) Less (cond (eqb m n) Equal Greater) other ∙ cond-false (eqb m n) Equal Greater differ)

-- ---- the first numbers

-- where they differ, they decide
pub lower-head : (ends : Bool) (x y : ℕ) (xs ys : List ℕ) → (x ≡ y → ⊥) → is_lower ends (x ∷ xs) (y ∷ ys) ≡ nat_lt x y
unfolding is_lower
lower-head ends x y xs ys differ = cond-false (eqb x y) (is_lower ends xs ys) (nat_lt x y) (ne_eqb x y differ)

-- where they don't, the rest does
pub lower-tail : (ends : Bool) (x y : ℕ) (xs ys : List ℕ) → x ≡ y → is_lower ends (x ∷ xs) (y ∷ ys) ≡ is_lower ends xs ys
unfolding is_lower
lower-tail ends x y xs ys same = cond-true (eqb x y) (is_lower ends xs ys) (nat_lt x y) (eq-eqb x y same)

-- ---- the test is the order

-- two lists by their first difference, where one that ends comes before those that go on
pub lower-before : (xs ys : List ℕ) → is_lower true xs ys ≡ is_lt (slice_cmp nat_cmp xs ys)
unfolding is_lower
lower-before [] [] = refl
lower-before [] (y ∷ ys) = refl
lower-before (x ∷ xs) [] = refl
lower-before (x ∷ xs) (y ∷ ys) = ⊎_elim
    (λ (same : eqb x y ≡ true).
    let here : x ≡ y = eqb-true x y same in
    lower-tail true x y xs ys here ∙ lower-before xs ys
    ∙ sym (ap (λ n. is_lt (ordering_then (nat_cmp x n) (slice_cmp nat_cmp xs ys))) (sym here) ∙ ap (λ o. is_lt (ordering_then o (slice_cmp nat_cmp xs ys))) (nat_cmp-same x)))
    (λ (differ : eqb x y ≡ false).
    cond-false (eqb x y) (is_lower true xs ys) (nat_lt x y) differ ∙ sym (nat_cmp-other x y differ (slice_cmp nat_cmp xs ys)))
    (cases_Bool (eqb x y))

-- a list whose first difference from another is lower doesn't come behind it, nor does one that begins so
pub lower-never : (xs ys zs : List ℕ) → is_lower false xs zs ≡ true → is_lt (slice_cmp nat_cmp zs (xs ++ ys)) ≡ false
unfolding is_lower
lower-never [] ys [] lower = absurd (true≢false (sym lower))
lower-never [] ys (z ∷ zs) lower = absurd (true≢false (sym lower))
lower-never (x ∷ xs) ys [] lower = absurd (true≢false (sym lower))
lower-never (x ∷ xs) ys (z ∷ zs) lower = ⊎_elim
    (λ (same : eqb x z ≡ true).
    let here : x ≡ z = eqb-true x z same in
    ap (λ n. is_lt (ordering_then (nat_cmp n x) (slice_cmp nat_cmp zs (xs ++ ys)))) (sym here)
    ∙ ap (λ o. is_lt (ordering_then o (slice_cmp nat_cmp zs (xs ++ ys)))) (nat_cmp-same x)
    ∙ lower-never xs ys zs (sym (cond-true (eqb x z) (is_lower false xs zs) (nat_lt x z) same) ∙ lower))
    (λ (differ : eqb x z ≡ false).
    let less : x < z = ltb-true x z (sym (cond-false (eqb x z) (is_lower false xs zs) (nat_lt x z) differ) ∙ lower) in
    ap (λ o. is_lt (ordering_then o (slice_cmp nat_cmp zs (xs ++ ys)))) (nat_cmp-above z x less))
    (cases_Bool (eqb x z))

-- ---- the test place by place

module _ {X : Type 0} (key : X → ℕ) (ends : Bool) where
  -- what is left of two lists from a place on
  abbrev pub lower_from : ℕ → List X → List X → Bool
  lower_from k xs ys = is_lower ends (map key (drop k xs)) (map key (drop k ys))

  -- nothing is left of no list
  none_left : (k : ℕ) → ◌≡◌ {A = List X} (drop k []) []
  none_left zero = refl
  none_left (suc k) = refl

  -- where the second list has ended
  pub lower-past : (k : ℕ) (xs ys : List X) → slice_get ys k ≡ None → lower_from k xs ys ≡ false
  unfolding is_lower
  lower-past zero [] [] none = refl
  lower-past zero (x ∷ xs) [] none = refl
  lower-past zero xs (y ∷ ys) none = absurd (cc)
  lower-past (suc k) [] [] none = refl
  lower-past (suc k) (x ∷ xs) [] none = none-right (map key (drop k xs))
    where
      none-right : (ns : List ℕ) → is_lower ends ns [] ≡ false
      none-right [] = refl
      none-right (n ∷ ns) = refl
  lower-past (suc k) [] (y ∷ ys) none = ap (λ zs. is_lower ends (map key zs) (map key (drop k ys))) (sym (none_left k)) ∙ lower-past k [] ys none
  lower-past (suc k) (x ∷ xs) (y ∷ ys) none = lower-past k xs ys none

  -- where the first alone has
  pub lower-ended : (k : ℕ) (xs ys : List X) (y : X) → slice_get xs k ≡ None → slice_get ys k ≡ Some y → lower_from k xs ys ≡ ends
  unfolding is_lower
  lower-ended k xs [] y none some = absurd (cc)
  lower-ended zero [] (z ∷ ys) y none some = refl
  lower-ended zero (x ∷ xs) (z ∷ ys) y none some = absurd (cc)
  lower-ended (suc k) [] (z ∷ ys) y none some = ap (λ zs. is_lower ends (map key zs) (map key (drop k ys))) (sym (none_left k)) ∙ lower-ended k [] ys y none some
  lower-ended (suc k) (x ∷ xs) (z ∷ ys) y none some = lower-ended k xs ys y none some

  -- where they differ
  pub lower-differ : (k : ℕ) (xs ys : List X) (x y : X) → slice_get xs k ≡ Some x → slice_get ys k ≡ Some y → (key x ≡ key y → ⊥) → lower_from k xs ys ≡ nat_lt (key x) (key y)
  unfolding is_lower
  lower-differ k [] ys x y left right differ = absurd (cc)
  lower-differ k (u ∷ xs) [] x y left right differ = absurd (cc)
  lower-differ zero (u ∷ xs) (v ∷ ys) x y left right differ =
      let here : u ≡ x = cc in
      let there : v ≡ y = cc in
      ap (λ z. is_lower ends (key z ∷ map key xs) (key v ∷ map key ys)) here ∙ ap (λ z. is_lower ends (key x ∷ map key xs) (key z ∷ map key ys)) there
      ∙ cond-false (eqb (key x) (key y)) (is_lower ends (map key xs) (map key ys)) (nat_lt (key x) (key y)) (ne_eqb (key x) (key y) differ)
  lower-differ (suc k) (u ∷ xs) (v ∷ ys) x y left right differ = lower-differ k xs ys x y left right differ

  -- and where they don't
  lower-next : (k : ℕ) (xs ys : List X) (x y : X) → slice_get xs k ≡ Some x → slice_get ys k ≡ Some y → key x ≡ key y → lower_from k xs ys ≡ lower_from (suc k) xs ys
  unfolding is_lower
  lower-next k [] ys x y left right same = absurd (cc)
  lower-next k (u ∷ xs) [] x y left right same = absurd (cc)
  lower-next zero (u ∷ xs) (v ∷ ys) x y left right same =
      let here : u ≡ x = cc in
      let there : v ≡ y = cc in
      let keys : key u ≡ key v = ap key here ∙ same ∙ ap key (sym there) in
      cond-true (eqb (key u) (key v)) (is_lower ends (map key xs) (map key ys)) (nat_lt (key u) (key v)) (eq-eqb (key u) (key v) keys)
  lower-next (suc k) (u ∷ xs) (v ∷ ys) x y left right same = lower-next k xs ys x y left right same

  pub lower-same : (k : ℕ) (xs ys : List X) (x y : X) → slice_get xs k ≡ Some x → slice_get ys k ≡ Some y → key x ≡ key y → lower_from k xs ys ≡ lower_from (k + 1) xs ys
  lower-same k xs ys x y left right same = lower-next k xs ys x y left right same ∙ ap (λ n. lower_from n xs ys) (sym (add-one k))

  -- behind both ends
  pub lower-behind : (k : ℕ) (xs ys : List X) → length xs ≤ k → length ys ≤ k → lower_from k xs ys ≡ false
  unfolding is_lower
  lower-behind k [] [] left right = ap (λ zs. is_lower ends (map key zs) (map key zs)) (none_left k)
  lower-behind zero (x ∷ xs) ys left right = absurd (omega arith)
  lower-behind zero [] (y ∷ ys) left right = absurd (omega arith)
  lower-behind (suc k) (x ∷ xs) [] left right = ap (λ zs. is_lower ends (map key (drop k xs)) (map key zs)) (sym (none_left k)) ∙ lower-behind k xs [] (omega arith) (omega arith)
  lower-behind (suc k) [] (y ∷ ys) left right = ap (λ zs. is_lower ends (map key zs) (map key (drop k ys))) (sym (none_left k)) ∙ lower-behind k [] ys (omega arith) (omega arith)
  lower-behind (suc k) (x ∷ xs) (y ∷ ys) left right = lower-behind k xs ys (omega arith) (omega arith)
