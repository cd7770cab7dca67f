-- Lists by place: tests of a whole list, lists side by side, filtered and joined.
use Rattle.std.proofs.Common.{◌≡◌, ℕ, zero, suc, ◌+◌, ◌<◌, ◌≤◌, Bool, true, false, ◌&&◌, ◌||◌, not, cond, filter, List, [], ◌∷◌, ◌++◌, map, length, Option, None, Some, refl, sym, ap, ◌∙◌, arith, slice_get, zip, option_map, get_or, take, reverse}
use Rattle.std.proofs.lemmas.List.{take_more, reverse-append}
use Rattle.std.specs.List.{list_all, list_any, enumerate_from, filter_map, cons_option}
use Rattle.std.proofs.lemmas.Bool.{and_parts, and_from, or_parts}

module _ {A : Type 0} where
  -- a test of a whole list is one of each of its places
  pub list_all-at : (p : A → Bool) (xs : List A) (k : ℕ) (x : A) → list_all p xs ≡ true → slice_get xs k ≡ Some x → p x ≡ true
  list_all-at p [] k x all at = absurd (cc)
  list_all-at p (y ∷ xs) zero x all at = let e : y ≡ x = cc in ap p (sym e) ∙ (and_parts (p y) (list_all p xs) all).0
  list_all-at p (y ∷ xs) (suc k) x all at = list_all-at p xs k x (and_parts (p y) (list_all p xs) all).1 at

  -- and the other way round
  pub list_all-from_each : (p : A → Bool) (xs : List A) → ((k : ℕ) (x : A) → slice_get xs k ≡ Some x → p x ≡ true) → list_all p xs ≡ true
  list_all-from_each p [] each = refl
  list_all-from_each p (y ∷ xs) each = and_from (p y) (list_all p xs) (each 0 y refl) (list_all-from_each p xs (λ k x at. each (suc k) x at))

  -- where a test of any element fails, it fails at each place
  pub list_any-at : (p : A → Bool) (xs : List A) (k : ℕ) (x : A) → list_any p xs ≡ false → slice_get xs k ≡ Some x → p x ≡ false
  list_any-at p [] k x none at = absurd (cc)
  list_any-at p (y ∷ xs) zero x none at = let e : y ≡ x = cc in ap p (sym e) ∙ (or_parts (p y) (list_any p xs) none).0
  list_any-at p (y ∷ xs) (suc k) x none at = list_any-at p xs k x (or_parts (p y) (list_any p xs) none).1 at

  -- and the other way round
  pub list_any-from_each : (p : A → Bool) (xs : List A) → ((k : ℕ) (x : A) → slice_get xs k ≡ Some x → p x ≡ false) → list_any p xs ≡ false
  list_any-from_each p [] each = refl
  list_any-from_each p (y ∷ xs) each = ap (λ b. b || list_any p xs) (each 0 y refl) ∙ list_any-from_each p xs (λ k x at. each (suc k) x at)

  -- a test of those that pass another is one of each that does
  pub list_all-filter : (p t : A → Bool) (xs : List A) → list_all p (filter t xs) ≡ list_all (λ x. not (t x) || p x) xs
  list_all-filter p t [] = refl
  list_all-filter p t (x ∷ xs) = by (list_all-filter p t xs) (t x)
    where
      by : list_all p (filter t xs) ≡ list_all (λ y. not (t y) || p y) xs → (b : Bool) → list_all p (cond b (x ∷ filter t xs) (filter t xs)) ≡ ((not b || p x) && list_all (λ x. not (t x) || p x) xs)
      by rest true = ap (λ b. p x && b) rest
      by rest false = rest

  -- there is an element at each place within a list
  pub element_at : (xs : List A) (k : ℕ) → k < length xs → (x : A) × (slice_get xs k ≡ Some x)
  element_at [] k lt = absurd (omega arith)
  element_at (y ∷ xs) zero lt = (y, refl)
  element_at (y ∷ xs) (suc k) lt = element_at xs k (omega arith)

  -- an element beside its number
  pub enumerate_from-at : (n : ℕ) (xs : List A) (k : ℕ) (x : A) → slice_get xs k ≡ Some x → slice_get (enumerate_from n xs) k ≡ Some (n + k, x)
  enumerate_from-at n [] k x at = absurd (cc)
  enumerate_from-at n (y ∷ xs) zero x at = let e : y ≡ x = cc in let f : n ≡ n + 0 = omega arith in cc
  enumerate_from-at n (y ∷ xs) (suc k) x at = enumerate_from-at (n + 1) xs k x at ∙ ap (λ m. Some (m, x)) (let f : n + 1 + k ≡ n + suc k = omega arith in f)

  -- what stands in the first of two lists stands in both joined
  pub slice_get-front : (xs ys : List A) (k : ℕ) (x : A) → slice_get xs k ≡ Some x → slice_get (xs ++ ys) k ≡ Some x
  slice_get-front [] ys k x at = absurd (cc)
  slice_get-front (z ∷ xs) ys zero x at = at
  slice_get-front (z ∷ xs) ys (suc k) x at = slice_get-front xs ys k x at

  -- one more element stands last
  pub slice_get-seam : (xs : List A) (y : A) → slice_get (xs ++ y ∷ []) (length xs) ≡ Some y
  slice_get-seam [] y = refl
  slice_get-seam (x ∷ xs) y = slice_get-seam xs y

  -- one more element of a front, the last first
  pub reverse_take-more : (xs : List A) (k : ℕ) (d : A) → k < length xs → reverse (take (k + 1) xs) ≡ get_or xs k d ∷ reverse (take k xs)
  reverse_take-more xs k d within = ap reverse (take_more xs k d within) ∙ reverse-append (take k xs) (get_or xs k d ∷ [])

module _ {A B : Type 0} where
  -- a test of any image is one of any element
  pub list_any-map : (p : B → Bool) (f : A → B) (xs : List A) → list_any p (map f xs) ≡ list_any (λ x. p (f x)) xs
  list_any-map p f [] = refl
  list_any-map p f (x ∷ xs) = ap (λ b. p (f x) || b) (list_any-map p f xs)

  -- elements of one place side by side
  pub zip-at : (xs : List A) (ys : List B) (k : ℕ) (x : A) (y : B) → slice_get xs k ≡ Some x → slice_get ys k ≡ Some y → slice_get (zip xs ys) k ≡ Some (x, y)
  zip-at [] ys k x y at beside = absurd (cc)
  zip-at (a ∷ xs) [] k x y at beside = absurd (cc)
  zip-at (a ∷ xs) (b ∷ ys) zero x y at beside = let e : a ≡ x = cc in let f : b ≡ y = cc in cc
  zip-at (a ∷ xs) (b ∷ ys) (suc k) x y at beside = zip-at xs ys k x y at beside

  -- what stands side by side stands in both lists
  pub zip-parts : (xs : List A) (ys : List B) (k : ℕ) (x : A) (y : B) → slice_get (zip xs ys) k ≡ Some (x, y) → (slice_get xs k ≡ Some x) × (slice_get ys k ≡ Some y)
  zip-parts [] ys k x y at = absurd (cc)
  zip-parts (a ∷ xs) [] k x y at = absurd (cc)
  zip-parts (a ∷ xs) (b ∷ ys) zero x y at = (ap (option_map (λ (p : A × B). p.0)) at, ap (option_map (λ (p : A × B). p.1)) at)
  zip-parts (a ∷ xs) (b ∷ ys) (suc k) x y at = zip-parts xs ys k x y at

module _ {X Y : Type 0} (h : X → Option Y) where
  -- what one element adds
  one_more : (o : Option Y) (ys : List Y) (n : ℕ) → length ys ≤ n → length (cons_option o ys) ≤ suc n
  one_more None ys n fits = omega arith
  one_more (Some y) ys n fits = omega arith

  -- No more is given than there are elements.
  pub length-filter_map : (xs : List X) → length (filter_map h xs) ≤ length xs
  length-filter_map [] = omega arith
  length-filter_map (x ∷ xs) = one_more (h x) (filter_map h xs) (length xs) (length-filter_map xs)

  -- where something is given for each element, there are as many
  pub filter_map-length : (xs : List X) → ((k : ℕ) (x : X) → slice_get xs k ≡ Some x → (y : Y) × (h x ≡ Some y)) → length (filter_map h xs) ≡ length xs
  filter_map-length [] all = refl
  filter_map-length (x ∷ xs) all =
      ap (λ o. length (cons_option o (filter_map h xs))) (all 0 x refl).1
      ∙ ap (λ n. suc n) (filter_map-length xs (λ k y at. all (suc k) y at))

  -- and each stands at its element's place
  pub filter_map-at : (xs : List X) → ((k : ℕ) (x : X) → slice_get xs k ≡ Some x → (y : Y) × (h x ≡ Some y)) → (k : ℕ) (x : X) → slice_get xs k ≡ Some x → slice_get (filter_map h xs) k ≡ h x
  filter_map-at [] all k x at = absurd (cc)
  filter_map-at (z ∷ xs) all zero x at =
      let same : z ≡ x = cc in
      ap (λ o. slice_get (cons_option o (filter_map h xs)) 0) (all 0 z refl).1 ∙ sym (all 0 z refl).1 ∙ ap h same
  filter_map-at (z ∷ xs) all (suc k) x at =
      ap (λ o. slice_get (cons_option o (filter_map h xs)) (suc k)) (all 0 z refl).1 ∙ filter_map-at xs (λ n y there. all (suc n) y there) k x at
