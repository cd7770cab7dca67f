-- Lists that are filtered, flattened and searched.
use Rattle.std.proofs.Common.{◌≡◌, ℕ, zero, suc, ◌+◌, ◌⊎◌, Bool, true, false, ◌&&◌, cond, List, [], ◌∷◌, ◌++◌, filter, slice_get, Some, None, inl, inr, ⊎_elim, refl, sym, ap, ◌∙◌, subst, true≢false, arith}
use Rattle.std.specs.List.{list_any, flat_map, find, enumerate_from}
use Rattle.std.proofs.lemmas.List.Elements.{filter-append}
use Rattle.std.proofs.lemmas.Bool.{or_cases, or_left, or_right, cond-true, cond-false}
use Rattle.sl_laws.proofs.Members.{Has, Ordered}

-- a test that is joined with one that fails
pub fails-behind : (a b : Bool) → b ≡ false → (a && b) ≡ false
fails-behind true b e = e
fails-behind false b e = refl

module _ {X : Type 0} where
  -- a test that some element passes is passed by one of the list
  pub any-has : (p : X → Bool) (xs : List X) → list_any p xs ≡ true → (x : X) × Has x xs × (p x ≡ true)
  any-has p [] any = absurd (true≢false (sym any))
  any-has p (x ∷ xs) any = ⊎_elim
      (λ (here : p x ≡ true). (x, inl refl, here))
      (λ (rest : list_any p xs ≡ true). let r = any-has p xs rest in (r.0, inr r.1, r.2))
      (or_cases (p x) (list_any p xs) any)

  -- and the other way
  pub has-any : (p : X → Bool) (x : X) (xs : List X) → Has x xs → p x ≡ true → list_any p xs ≡ true
  has-any p x [] h ok = absurd h
  has-any p x (y ∷ xs) h ok = ⊎_elim
      (λ (here : y ≡ x). or_left (p y) (list_any p xs) (ap p here ∙ ok))
      (λ (there : Has x xs). or_right (p y) (list_any p xs) (has-any p x xs there ok))
      h

  -- a filter that none passes leaves none
  pub filter-none : (p : X → Bool) (xs : List X) → ((x : X) → Has x xs → p x ≡ false) → filter p xs ≡ []
  filter-none p [] each = refl
  filter-none p (x ∷ xs) each = cond-false (p x) (x ∷ filter p xs) (filter p xs) (each x (inl refl)) ∙ filter-none p xs (λ y h. each y (inr h))

  -- one that all pass leaves all
  pub filter-all : (p : X → Bool) (xs : List X) → ((x : X) → Has x xs → p x ≡ true) → filter p xs ≡ xs
  filter-all p [] each = refl
  filter-all p (x ∷ xs) each = cond-true (p x) (x ∷ filter p xs) (filter p xs) (each x (inl refl)) ∙ ap (λ ys. x ∷ ys) (filter-all p xs (λ y h. each y (inr h)))

  -- a list in which nothing stands is empty
  pub empty-from : (xs : List X) → ((x : X) → Has x xs → ⊥) → xs ≡ []
  empty-from [] none = refl
  empty-from (x ∷ xs) none = absurd (none x (inl refl))

  -- what is found is one of the list
  pub find-has : (p : X → Bool) (xs : List X) (x : X) → find p xs ≡ Some x → Has x xs
  find-has p [] x found = absurd (cc)
  find-has p (y ∷ xs) x found = by (p y) found (find-has p xs x)
    where
      by : (b : Bool) → cond b (Some y) (find p xs) ≡ Some x → (find p xs ≡ Some x → Has x xs) → (y ≡ x) ⊎ Has x xs
      by true e rest = inl (cc)
      by false e rest = inr (rest e)

  -- where nothing is found, a filter leaves none
  pub find-none : (p : X → Bool) (xs : List X) → find p xs ≡ None → filter p xs ≡ []
  find-none p [] none = refl
  find-none p (y ∷ xs) none = by (p y) none (find-none p xs)
    where
      by : (b : Bool) → cond b (Some y) (find p xs) ≡ None → (find p xs ≡ None → filter p xs ≡ []) → cond b (y ∷ filter p xs) (filter p xs) ≡ []
      by true e rest = absurd (cc)
      by false e rest = rest e

  -- where none passes, nothing is found
  pub find-never : (p : X → Bool) (xs : List X) → ((x : X) → Has x xs → p x ≡ false) → find p xs ≡ None
  find-never p [] each = refl
  find-never p (x ∷ xs) each = ap (λ b. cond b (Some x) (find p xs)) (each x (inl refl)) ∙ find-never p xs (λ y h. each y (inr h))

  -- what is found among those that pass a test
  pub find-filter : (p q : X → Bool) (xs : List X) → find p (filter q xs) ≡ find (λ x. p x && q x) xs
  find-filter p q [] = refl
  find-filter p q (y ∷ xs) = by (q y) (find-filter p q xs)
    where
      kept : (a : Bool) → find p (filter q xs) ≡ find (λ x. p x && q x) xs → cond a (Some y) (find p (filter q xs)) ≡ cond (a && true) (Some y) (find (λ x. p x && q x) xs)
      kept true e = refl
      kept false e = e

      never : (a : Bool) → cond (a && false) (Some y) (find (λ x. p x && q x) xs) ≡ find (λ x. p x && q x) xs
      never true = refl
      never false = refl

      by : (b : Bool) → find p (filter q xs) ≡ find (λ x. p x && q x) xs → find p (cond b (y ∷ filter q xs) (filter q xs)) ≡ cond (p y && b) (Some y) (find (λ x. p x && q x) xs)
      by true e = kept (p y) e
      by false e = e ∙ sym (never (p y))

  -- a list that goes by one relation goes by each that follows from it
  pub ordered-weaker : (R S : X → X → Type 0) → ((x y : X) → R x y → S x y) → (xs : List X) → Ordered R xs → Ordered S xs
  ordered-weaker R S weaker [] ordered = tt
  ordered-weaker R S weaker (x ∷ xs) ordered = (λ y h. weaker x y (ordered.0 y h), ordered-weaker R S weaker xs ordered.1)

  -- what holds of each element holds of those that stand in a relation
  pub ordered-among : (R : X → X → Type 0) (P : X → Type 0) (xs : List X) → ((x : X) → Has x xs → P x) → Ordered R xs → Ordered (λ x y. P x × P y × R x y) xs
  ordered-among R P [] each ordered = tt
  ordered-among R P (x ∷ xs) each ordered =
      (λ y h. (each x (inl refl), each y (inr h), ordered.0 y h), ordered-among R P xs (λ y h. each y (inr h)) ordered.1)

module _ {X Y : Type 0} where
  -- a filter of flattened lists filters each
  pub filter-flat_map : (p : Y → Bool) (f : X → List Y) (xs : List X) → filter p (flat_map f xs) ≡ flat_map (λ x. filter p (f x)) xs
  filter-flat_map p f [] = refl
  filter-flat_map p f (x ∷ xs) = filter-append p (f x) (flat_map f xs) ∙ ap (λ ys. filter p (f x) ++ ys) (filter-flat_map p f xs)

module _ {X : Type 0} where
  -- an element that is listed with its place stands there
  pub listed-at : (k place : ℕ) (x : X) (xs : List X) → Has (place, x) (enumerate_from k xs) → (n : ℕ) × (place ≡ k + n) × (slice_get xs n ≡ Some x)
  listed-at k place x [] h = absurd h
  listed-at k place x (y ∷ xs) h = ⊎_elim
      (λ (here : (k, y) ≡ (place, x)).
      let at : k ≡ place = ap (λ z. z.0) here in
      let same : y ≡ x = ap (λ z. z.1) here in
      (0, omega arith, ap (λ z. Some z) same))
      (λ (there : Has (place, x) (enumerate_from (k + 1) xs)).
      let rest = listed-at (k + 1) place x xs there in
      let e : place ≡ k + 1 + rest.0 = rest.1 in
      (suc rest.0, omega arith, rest.2))
      h

  -- and the other way
  pub at-listed : (k n : ℕ) (x : X) (xs : List X) → slice_get xs n ≡ Some x → Has (k + n, x) (enumerate_from k xs)
  at-listed k n x [] at = absurd (cc)
  at-listed k zero x (y ∷ xs) at = let same : y ≡ x = cc in let sum : k ≡ k + 0 = omega arith in inl (λ i. (sum i, same i))
  at-listed k (suc n) x (y ∷ xs) at =
      let sum : k + 1 + n ≡ k + suc n = omega arith in
      inr (subst (λ m. Has (m, x) (enumerate_from (k + 1) xs)) sum (at-listed (k + 1) n x xs at))
