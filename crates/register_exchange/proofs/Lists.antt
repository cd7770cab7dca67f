-- Elements of lists, and what lists of tests pass.
use Rattle.std.proofs.Common.{◌≡◌, ℕ, zero, suc, ◌+◌, ◌<◌, Bool, true, false, List, [], ◌∷◌, length, slice_get, Some, inl, inr, ⊎_elim, refl, sym, ap, ◌∙◌, subst, arith}
use Rattle.std.specs.List.{list_all, list_any, zip, enumerate_from}
use Rattle.std.proofs.lemmas.Bool.{cases_Bool, false_from_ne_true, both_ways}
use Rattle.std.proofs.lemmas.List.FromFn.{length-enumerate_from}
use Rattle.sl_laws.proofs.Elements.{list_any-at, list_any-from_each, element_at, enumerate_from-at}
use Rattle.sl_laws.proofs.Members.{Has, has-place, place-has, passes, has-all}

-- tests that pass where the other does are equal
pub bool_same : (p q : Bool) → (p ≡ true → q ≡ true) → (q ≡ true → p ≡ true) → p ≡ q
bool_same true q there back = sym (there refl)
bool_same false true there back = back refl
bool_same false false there back = refl

-- what passes one test and so another
pub carry : {X : Type 0} (p q : X → Bool) (xs : List X) → ((x : X) → Has x xs → p x ≡ true → q x ≡ true) → list_all p xs ≡ true → list_all q xs ≡ true
carry p q xs each all = has-all q xs (λ x h. each x h (passes p x xs h all))

-- what stands side by side stands in both lists
pub zip-has : {X Y : Type 0} (x : X) (y : Y) (xs : List X) (ys : List Y) → Has (x, y) (zip xs ys) → Has x xs × Has y ys
zip-has x y [] ys h = absurd h
zip-has x y (a ∷ xs) [] h = absurd h
zip-has x y (a ∷ xs) (b ∷ ys) h = ⊎_elim
    (λ (here : (a, b) ≡ (x, y)). (inl (ap (λ z. z.0) here), inl (ap (λ z. z.1) here)))
    (λ (there : Has (x, y) (zip xs ys)). let r = zip-has x y xs ys there in (inr r.0, inr r.1))
    h

module _ {X : Type 0} where
  -- a place at which something stands is within the list
  pub at-within : (n : ℕ) (x : X) (xs : List X) → slice_get xs n ≡ Some x → n < length xs
  at-within n x [] at = absurd (cc)
  at-within zero x (y ∷ xs) at = omega arith
  at-within (suc n) x (y ∷ xs) at = let less : n < length xs = at-within n x xs at in omega arith

module _ {X : Type 0} where
  -- where one passes, some do
  pub some-pass : (p : X → Bool) (x : X) (xs : List X) → Has x xs → p x ≡ true → list_any p xs ≡ true
  some-pass p x xs h ok = ⊎_elim
      (λ (any : list_any p xs ≡ true). any)
      (λ (none : list_any p xs ≡ false). let at = has-place x xs h in absurd (both_ways (p x) (list_any-at p xs at.0 x none at.1) ok))
      (cases_Bool (list_any p xs))

  -- and where none can, none do
  pub none-passes : (p : X → Bool) (xs : List X) → ((x : X) → Has x xs → p x ≡ true → ⊥) → list_any p xs ≡ false
  none-passes p xs each = list_any-from_each p xs (λ k x at. false_from_ne_true (p x) (λ ok. each x (place-has x xs k at) ok))

  -- what stands at a place is listed with it
  pub beside-place : (n : ℕ) (x : X) (xs : List X) → slice_get xs n ≡ Some x → Has (n, x) (enumerate_from 0 xs)
  beside-place n x xs at =
      let sum : 0 + n ≡ n = omega arith in
      subst (λ m. Has (m, x) (enumerate_from 0 xs)) sum (place-has (0 + n, x) (enumerate_from 0 xs) n (enumerate_from-at 0 xs n x at))

  -- and only that is
  pub place-beside : (y : ℕ × X) (xs : List X) → Has y (enumerate_from 0 xs) → slice_get xs y.0 ≡ Some y.1
  place-beside y xs h =
      let at = has-place y (enumerate_from 0 xs) h in
      let less : at.0 < length (enumerate_from 0 xs) = at-within at.0 y (enumerate_from 0 xs) at.1 in
      let e = element_at xs at.0 (subst (λ n. at.0 < n) (length-enumerate_from 0 xs) less) in
      let same : (0 + at.0, e.0) ≡ y = some-is (0 + at.0, e.0) y (sym (enumerate_from-at 0 xs at.0 e.0 e.1) ∙ at.1) in
      let sum : at.0 ≡ 0 + at.0 = omega arith in
      subst (λ (z : ℕ × X). slice_get xs z.0 ≡ Some z.1) same (subst (λ n. slice_get xs n ≡ Some e.0) sum e.1)
    where
      some-is : (a b : ℕ × X) → Some a ≡ Some b → a ≡ b
      some-is a b e = cc
