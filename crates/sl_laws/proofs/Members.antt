-- Elements of lists, and lists in which each element stands in a relation to those behind it.
use Rattle.std.proofs.Common.{◌≡◌, ℕ, zero, suc, ◌<◌, ◌≤◌, ◌⊎◌, Bool, true, false, cond, List, [], ◌∷◌, ◌++◌, map, filter, slice_get, Some, inl, inr, ⊎_elim, refl, sym, ap, ◌∙◌, subst, arith}
use Rattle.std.specs.List.{list_all, flat_map}
use Rattle.std.proofs.lemmas.Bool.{cases_Bool, and_parts, and_from, cases_lt, cond-true}
use Rattle.sl_model.specs.Source.{numbers_below}

-- an element is one of a list
abbrev pub Has : {X : Type 0} → X → List X → Type 0
Has x [] = ⊥
Has x (y ∷ ys) = (y ≡ x) ⊎ Has x ys

-- each element stands in a relation to those behind it
abbrev pub Ordered : {X : Type 0} → (X → X → Type 0) → List X → Type 0
Ordered R [] = Unit {0}
Ordered {X} R (x ∷ xs) = ((y : X) → Has y xs → R x y) × Ordered R xs

module _ {X : Type 0} where
  pub has-left : (x : X) (xs ys : List X) → Has x xs → Has x (xs ++ ys)
  has-left x [] ys h = absurd h
  has-left x (y ∷ xs) ys h = ⊎_elim (λ (here : y ≡ x). inl here) (λ (there : Has x xs). inr (has-left x xs ys there)) h

  pub has-right : (x : X) (xs ys : List X) → Has x ys → Has x (xs ++ ys)
  has-right x [] ys h = h
  has-right x (y ∷ xs) ys h = inr (has-right x xs ys h)

  pub has-cases : (x : X) (xs ys : List X) → Has x (xs ++ ys) → Has x xs ⊎ Has x ys
  has-cases x [] ys h = inr h
  has-cases x (y ∷ xs) ys h = ⊎_elim
      (λ (here : y ≡ x). inl (inl here))
      (λ (there : Has x (xs ++ ys)). ⊎_elim (λ (left : Has x xs). inl (inr left)) (λ (right : Has x ys). inr right) (has-cases x xs ys there))
      h

  -- an element stands at a place
  pub has-place : (x : X) (xs : List X) → Has x xs → (k : ℕ) × (slice_get xs k ≡ Some x)
  has-place x [] h = absurd h
  has-place x (y ∷ xs) h = ⊎_elim
      (λ (here : y ≡ x). (0, ap Some here))
      (λ (there : Has x xs). let r = has-place x xs there in (suc r.0, r.1))
      h

  -- and what stands at a place is one
  pub place-has : (x : X) (xs : List X) (k : ℕ) → slice_get xs k ≡ Some x → Has x xs
  place-has x [] k at = absurd (cc)
  place-has x (y ∷ xs) zero at = inl (cc)
  place-has x (y ∷ xs) (suc k) at = inr (place-has x xs k at)

  -- a test that all pass is passed by each
  pub passes : (p : X → Bool) (x : X) (xs : List X) → Has x xs → list_all p xs ≡ true → p x ≡ true
  passes p x [] h all = absurd h
  passes p x (y ∷ xs) h all =
      let parts = and_parts (p y) (list_all p xs) all in
      ⊎_elim (λ (here : y ≡ x). subst (λ z. p z ≡ true) here parts.0) (λ (there : Has x xs). passes p x xs there parts.1) h

  -- where each passes, all do
  pub has-all : (p : X → Bool) (xs : List X) → ((x : X) → Has x xs → p x ≡ true) → list_all p xs ≡ true
  has-all p [] each = refl
  has-all p (x ∷ xs) each = and_from (p x) (list_all p xs) (each x (inl refl)) (has-all p xs (λ y h. each y (inr h)))

  pub ordered-append : (R : X → X → Type 0) (xs ys : List X) → Ordered R xs → Ordered R ys → ((x y : X) → Has x xs → Has y ys → R x y) → Ordered R (xs ++ ys)
  ordered-append R [] ys left right between = right
  ordered-append R (x ∷ xs) ys left right between = (
    λ y h. ⊎_elim (λ (before : Has y xs). left.0 y before) (λ (after : Has y ys). between x y (inl refl) after) (has-cases y xs ys h),
    ordered-append R xs ys left.1 right (λ a b ha hb. between a b (inr ha) hb),
  )

  -- what passes a test stays, in the same order
  pub has-filter : (p : X → Bool) (x : X) (xs : List X) → Has x xs → p x ≡ true → Has x (filter p xs)
  has-filter p x [] h ok = absurd h
  has-filter p x (y ∷ xs) h ok = ⊎_elim
      (λ (here : y ≡ x).
      let kept : p y ≡ true = ap p here ∙ ok in
      subst (Has x) (sym (cond-true (p y) (y ∷ filter p xs) (filter p xs) kept)) (inl here))
      (λ (there : Has x xs). later (p y) y (filter p xs) (has-filter p x xs there ok))
      h
    where
      later : (b : Bool) (y : X) (ys : List X) → Has x ys → Has x (cond b (y ∷ ys) ys)
      later true y ys h = inr h
      later false y ys h = h

  pub from-filter : (p : X → Bool) (x : X) (xs : List X) → Has x (filter p xs) → Has x xs
  from-filter p x [] h = absurd h
  from-filter p x (y ∷ xs) h = ⊎_elim (λ (here : y ≡ x). inl here) (λ (there : Has x (filter p xs)). inr (from-filter p x xs there)) (by (p y) y (filter p xs) h)
    where
      by : (b : Bool) (y : X) (ys : List X) → Has x (cond b (y ∷ ys) ys) → (y ≡ x) ⊎ Has x ys
      by true y ys h = h
      by false y ys h = inr h

  -- what a filter leaves passes the test
  pub passes-filter : (p : X → Bool) (x : X) (xs : List X) → Has x (filter p xs) → p x ≡ true
  passes-filter p x [] h = absurd h
  passes-filter p x (y ∷ xs) h = ⊎_elim
      (λ (pass : p y ≡ true).
      ⊎_elim
      (λ (here : y ≡ x). subst (λ z. p z ≡ true) here pass)
      (λ (there : Has x (filter p xs)). passes-filter p x xs there)
      (subst (λ b. Has x (cond b (y ∷ filter p xs) (filter p xs))) pass h))
      (λ (fail : p y ≡ false). passes-filter p x xs (subst (λ b. Has x (cond b (y ∷ filter p xs) (filter p xs))) fail h))
      (cases_Bool (p y))

  pub ordered-filter : (R : X → X → Type 0) (p : X → Bool) (xs : List X) → Ordered R xs → Ordered R (filter p xs)
  ordered-filter R p [] ordered = tt
  ordered-filter R p (y ∷ xs) ordered = by (p y) (λ z h. ordered.0 z (from-filter p z xs h)) (ordered-filter R p xs ordered.1)
    where
      by : (b : Bool) → ((z : X) → Has z (filter p xs) → R y z) → Ordered R (filter p xs) → Ordered R (cond b (y ∷ filter p xs) (filter p xs))
      by true before rest = (before, rest)
      by false before rest = rest

module _ {X Y : Type 0} where
  pub has-flat_map : (g : X → List Y) (y : Y) (x : X) (xs : List X) → Has x xs → Has y (g x) → Has y (flat_map g xs)
  has-flat_map g y x [] h there = absurd h
  has-flat_map g y x (z ∷ xs) h there = ⊎_elim
      (λ (here : z ≡ x). has-left y (g z) (flat_map g xs) (subst (λ w. Has y (g w)) (sym here) there))
      (λ (later : Has x xs). has-right y (g z) (flat_map g xs) (has-flat_map g y x xs later there))
      h

  pub from-flat_map : (g : X → List Y) (y : Y) (xs : List X) → Has y (flat_map g xs) → (x : X) × Has x xs × Has y (g x)
  from-flat_map g y [] h = absurd h
  from-flat_map g y (z ∷ xs) h = ⊎_elim
      (λ (here : Has y (g z)). (z, inl refl, here))
      (λ (later : Has y (flat_map g xs)). let r = from-flat_map g y xs later in (r.0, inr r.1, r.2))
      (has-cases y (g z) (flat_map g xs) h)

  pub ordered-flat_map : (S : X → X → Type 0) (R : Y → Y → Type 0) (g : X → List Y) (xs : List X) → Ordered S xs
      → ((x : X) → Has x xs → Ordered R (g x))
      → ((a b : X) (y z : Y) → S a b → Has y (g a) → Has z (g b) → R y z)
      → Ordered R (flat_map g xs)
  ordered-flat_map S R g [] ordered inside between = tt
  ordered-flat_map S R g (x ∷ xs) ordered inside between =
      ordered-append R (g x) (flat_map g xs) (inside x (inl refl))
      (ordered-flat_map S R g xs ordered.1 (λ a h. inside a (inr h)) between)
      (λ y z hy hz. let r = from-flat_map g z xs hz in between x r.0 y z (ordered.0 r.0 r.1) hy r.2)

  pub has-map : (f : X → Y) (x : X) (xs : List X) → Has x xs → Has (f x) (map f xs)
  has-map f x [] h = absurd h
  has-map f x (z ∷ xs) h = ⊎_elim (λ (here : z ≡ x). inl (ap f here)) (λ (later : Has x xs). inr (has-map f x xs later)) h

  pub from-map : (f : X → Y) (y : Y) (xs : List X) → Has y (map f xs) → (x : X) × Has x xs × (f x ≡ y)
  from-map f y [] h = absurd h
  from-map f y (z ∷ xs) h = ⊎_elim
      (λ (here : f z ≡ y). (z, inl refl, here))
      (λ (later : Has y (map f xs)). let r = from-map f y xs later in (r.0, inr r.1, r.2))
      h

  pub ordered-map : (S : X → X → Type 0) (R : Y → Y → Type 0) (f : X → Y) (xs : List X) → Ordered S xs → ((a b : X) → S a b → R (f a) (f b)) → Ordered R (map f xs)
  ordered-map S R f [] ordered keeps = tt
  ordered-map S R f (x ∷ xs) ordered keeps = (
    λ y h. (let r = from-map f y xs h in subst (R (f x)) r.2 (keeps x r.0 (ordered.0 r.0 r.1))),
    ordered-map S R f xs ordered.1 keeps,
  )

-- The numbers below a number are those, in ascending order.
pub from-numbers : (n k : ℕ) → Has k (numbers_below n) → k < n
unfolding numbers_below
from-numbers zero k h = absurd h
from-numbers (suc n) k h = ⊎_elim
    (λ (before : Has k (numbers_below n)). let lt : k < n = from-numbers n k before in omega arith)
    (λ (last : (n ≡ k) ⊎ ⊥). ⊎_elim (λ (e : n ≡ k). omega arith) (λ (no : ⊥). absurd no) last)
    (has-cases k (numbers_below n) (n ∷ []) h)

pub has-numbers : (n k : ℕ) → k < n → Has k (numbers_below n)
unfolding numbers_below
has-numbers zero k lt = absurd (omega arith)
has-numbers (suc n) k lt = ⊎_elim
    (λ (before : k < n). has-left k (numbers_below n) (n ∷ []) (has-numbers n k before))
    (λ (from : n ≤ k). has-right k (numbers_below n) (n ∷ []) (inl (omega arith)))
    (cases_lt k n)

pub ordered-numbers : (n : ℕ) → Ordered (λ a b. a < b) (numbers_below n)
unfolding numbers_below
ordered-numbers zero = tt
ordered-numbers (suc n) =
    ordered-append (λ a b. a < b) (numbers_below n) (n ∷ []) (ordered-numbers n) (λ y h. absurd h, tt)
    (λ a b ha hb. let lt : a < n = from-numbers n a ha in ⊎_elim (λ (e : n ≡ b). let le : n ≡ b = e in omega arith) (λ (no : ⊥). absurd no) hb)
