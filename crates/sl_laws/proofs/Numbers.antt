-- The numbers below a number, in their order.
use Rattle.std.proofs.Common.{List, ap₂, ◌&&◌, cond, filter, ◌≡◌, ◌≢◌, ℕ, zero, suc, ◌+◌, ◌<◌, ◌≤◌, true, false, ◌||◌, eqb, [], ◌∷◌, ◌++◌, map, length, length-append, Some, ◌⊎◌, inl, inr, ⊎_elim, refl, sym, ap, subst, ◌∙◌, true≢false, arith, slice_get, add-one, Bool}
use Rattle.std.proofs.lemmas.Bool.{cases_Bool, or_cases, or_right, or_parts, or_from, eqb-true, eq-eqb, ne_eqb, and_from}
use Rattle.std.proofs.lemmas.List.{append-nil, map-append}
use Rattle.std.proofs.lemmas.List.Elements.{filter-append}
use Rattle.sl_model.specs.Graph.{IsOnce}
use Rattle.sl_model.specs.Body.{above, stands_in}
use Rattle.sl_model.specs.Source.{numbers_below}
use Rattle.sl_laws.proofs.Elements.{slice_get-front, slice_get-seam}
use Rattle.sl_laws.proofs.Orders.{stands_in-push, stands_in-filter, above-in, above-last}
use Rattle.std.specs.List.{list_all}
use Rattle.std.proofs.lemmas.List.Folds.{list_all-append}

-- no number is below 0
pub numbers-none : numbers_below 0 ≡ []
unfolding numbers_below
numbers-none = refl

-- one more number
pub numbers-next : (n : ℕ) → numbers_below (n + 1) ≡ numbers_below n ++ n ∷ []
unfolding numbers_below
numbers-next n = ap (λ k. numbers_below k) (add-one n)

-- what is told of one more number
pub map_numbers-next : {X : Type 0} (f : ℕ → X) (n : ℕ) → map f (numbers_below (n + 1)) ≡ map f (numbers_below n) ++ f n ∷ []
map_numbers-next {X} f n = ap (λ ns. map f ns) (numbers-next n) ∙ map-append f (numbers_below n) (n ∷ [])

-- there are as many
pub length-numbers : (n : ℕ) → length (numbers_below n) ≡ n
unfolding numbers_below
length-numbers zero = refl
length-numbers (suc n) = length-append (numbers_below n) (n ∷ []) ∙ ap (λ k. k + 1) (length-numbers n) ∙ add-one n

-- the numbers that stand below a number are less than it
pub below-lt : (n item : ℕ) → stands_in item (numbers_below n) ≡ true → item < n
unfolding numbers_below stands_in
below-lt zero item stands = absurd (true≢false (sym stands))
below-lt (suc n) item stands =
    ⊎_elim
    (λ before. let lt : item < n = below-lt n item before in let le : item < suc n = omega arith in le)
    (λ last. let same : n ≡ item = eqb-true n item last in let le : item < suc n = omega arith in le)
    (or_cases (stands_in item (numbers_below n)) (eqb n item) (sym (stands_in-push item (numbers_below n) n) ∙ stands))

-- a number below the next one is below this one or is this one
below_or_last : (n k : ℕ) → k < suc n → (k < n) ⊎ (n ≡ k)
below_or_last n k lt = now (cases_Bool (eqb n k))
  where
    now : (eqb n k ≡ true) ⊎ (eqb n k ≡ false) → (k < n) ⊎ (n ≡ k)
    now (inl e) = inr (eqb-true n k e)
    now (inr e) =
        let other : n ≢ k = λ same. true≢false (sym (eq-eqb n k same) ∙ e) in
        inl (omega arith)

-- and each that is less stands there
pub lt-below : (n item : ℕ) → item < n → stands_in item (numbers_below n) ≡ true
unfolding numbers_below
lt-below zero item lt = absurd (omega arith)
lt-below (suc n) item lt =
    stands_in-push item (numbers_below n) n
    ∙ ⊎_elim
    (λ less. ap (λ b. b || eqb n item) (lt-below n item less))
    (λ last. or_right (stands_in item (numbers_below n)) (eqb n item) (eq-eqb n item last))
    (below_or_last n item lt)

-- a number doesn't stand among those below it
pub not-below : (n item : ℕ) → n ≤ item → stands_in item (numbers_below n) ≡ false
not-below n item le = ⊎_elim (λ t. let lt : item < n = below-lt n item t in absurd (omega arith)) (λ f. f) (cases_Bool (stands_in item (numbers_below n)))

-- above a number stand the numbers below it
pub above-below : (n item : ℕ) → item < n → above item (numbers_below n) ≡ numbers_below item
unfolding numbers_below
above-below zero item lt = absurd (omega arith)
above-below (suc n) item lt =
    ⊎_elim
    (λ less. above-in item (numbers_below n) (n ∷ []) (lt-below n item less) ∙ above-below n item less)
    (λ last. subst (λ m. above m (numbers_below n ++ n ∷ []) ≡ numbers_below m) last (above-last n (numbers_below n) (not-below n n (omega arith))))
    (below_or_last n item lt)

-- each number stands at its own place
pub at-below : (n k : ℕ) → k < n → slice_get (numbers_below n) k ≡ Some k
unfolding numbers_below
at-below zero k lt = absurd (omega arith)
at-below (suc n) k lt =
    let seam : slice_get (numbers_below n ++ n ∷ []) n ≡ Some n = subst (λ m. slice_get (numbers_below n ++ n ∷ []) m ≡ Some n) (length-numbers n) (slice_get-seam (numbers_below n) n) in
    ⊎_elim
    (λ less. slice_get-front (numbers_below n) (n ∷ []) k k (at-below n k less))
    (λ last. subst (λ m. slice_get (numbers_below n ++ n ∷ []) m ≡ Some m) last seam)
    (below_or_last n k lt)

-- what holds of each number below another
pub all-below : (p : ℕ → Bool) (n : ℕ) → ((k : ℕ) → k < n → p k ≡ true) → list_all p (numbers_below n) ≡ true
unfolding numbers_below
all-below p zero each = refl
all-below p (suc n) each =
    list_all-append p (numbers_below n) (n ∷ [])
    ∙ and_from (list_all p (numbers_below n)) (list_all p (n ∷ [])) (all-below p n (λ k less. each k (omega arith))) (and_from (p n) true (each n (omega arith)) refl)

-- one more number, which is new, stands once
IsOnce-push : (order : List ℕ) (last : ℕ) → IsOnce order → stands_in last order ≡ false → IsOnce (order ++ last ∷ [])
unfolding stands_in
IsOnce-push [] last once lacks = (refl, tt)
IsOnce-push (p ∷ order) last once lacks =
    let differ : eqb p last ≡ false = (or_parts (eqb p last) (stands_in last order) lacks).0 in
    let turned : eqb last p ≡ false = ⊎_elim (λ t. absurd (true≢false (sym (eq-eqb p last (sym (eqb-true last p t))) ∙ differ))) (λ f. f) (cases_Bool (eqb last p)) in
    (stands_in-push p order last ∙ or_from (stands_in p order) (eqb last p) once.0 turned, IsOnce-push order last once.1 (or_parts (eqb p last) (stands_in last order) lacks).1)

-- each number below a number stands there once
pub once-below : (n : ℕ) → IsOnce (numbers_below n)
unfolding numbers_below
once-below zero = tt
once-below (suc n) = IsOnce-push (numbers_below n) n (once-below n) (not-below n n (omega arith))

-- those that pass a test, of one more number
filter_numbers-next : (t : ℕ → Bool) (n : ℕ) → filter t (numbers_below (n + 1)) ≡ filter t (numbers_below n) ++ cond (t n) (n ∷ []) []
filter_numbers-next t n = ap (filter t) (numbers-next n) ∙ filter-append t (numbers_below n) (n ∷ [])

-- one more that passes, and one more that doesn't
pub filter_numbers-more : (t : ℕ → Bool) (n : ℕ) → t n ≡ true → filter t (numbers_below (n + 1)) ≡ filter t (numbers_below n) ++ n ∷ []
filter_numbers-more t n pass = filter_numbers-next t n ∙ ap (λ b. filter t (numbers_below n) ++ cond b (n ∷ []) []) pass

pub filter_numbers-same : (t : ℕ → Bool) (n : ℕ) → t n ≡ false → filter t (numbers_below (n + 1)) ≡ filter t (numbers_below n)
filter_numbers-same t n fail = filter_numbers-next t n ∙ ap (λ b. filter t (numbers_below n) ++ cond b (n ∷ []) []) fail ∙ append-nil (filter t (numbers_below n))

-- tests that agree on the numbers below a number leave the same ones
pub filter_numbers-agree : (f g : ℕ → Bool) (n : ℕ) → ((k : ℕ) → k < n → f k ≡ g k) → filter f (numbers_below n) ≡ filter g (numbers_below n)
unfolding numbers_below
filter_numbers-agree f g zero same = refl
filter_numbers-agree f g (suc n) same =
    filter-append f (numbers_below n) (n ∷ [])
    ∙ ap₂ (λ xs b. xs ++ cond b (n ∷ []) []) (filter_numbers-agree f g n (λ k less. same k (omega arith))) (same n (omega arith))
    ∙ sym (filter-append g (numbers_below n) (n ∷ []))

-- a number stands among those below another that pass a test where it passes
pub stands_in-numbers : (t : ℕ → Bool) (n item : ℕ) → item < n → stands_in item (filter t (numbers_below n)) ≡ t item
stands_in-numbers t n item less =
    stands_in-filter t item (numbers_below n) ∙ ap (λ b. b && t item) (lt-below n item less)

-- and none does that isn't below it
pub stands_in-past : (t : ℕ → Bool) (n item : ℕ) → n ≤ item → stands_in item (filter t (numbers_below n)) ≡ false
stands_in-past t n item past =
    stands_in-filter t item (numbers_below n) ∙ ap (λ b. b && t item) (not-below n item past)

-- Numbers of a longer front that are a number behind those of a list, or of the list, are both.
module _ (t : ℕ → Bool) (q : ℕ) where
  abbrev among : ℕ → Bool
  among p = eqb p q || stands_in p (filter t (numbers_below q))

  among-before : filter among (numbers_below q) ≡ filter t (numbers_below q)
  among-before = filter_numbers-agree among t q (λ k less.
      ap (λ b. b || stands_in k (filter t (numbers_below q))) (ne_eqb k q (λ (same : k ≡ q). omega arith)) ∙ stands_in-numbers t q k less)

  pub filter_numbers-with : (m : ℕ) → q < m → filter (λ p. eqb p q || stands_in p (filter t (numbers_below q))) (numbers_below m) ≡ filter t (numbers_below q) ++ q ∷ []
  unfolding numbers_below
  filter_numbers-with zero less = absurd (omega arith)
  filter_numbers-with (suc n) less = ⊎_elim
      (λ (before : q < n).
      filter-append among (numbers_below n) (n ∷ [])
      ∙ ap₂ (λ xs b. xs ++ cond b (n ∷ []) []) (filter_numbers-with n before)
      (ap₂ (λ a b. a || b) (ne_eqb n q (λ (same : n ≡ q). omega arith)) (stands_in-past t q n (omega arith)))
      ∙ append-nil (filter t (numbers_below q) ++ q ∷ []))
      (λ (last : n ≡ q).
      filter-append among (numbers_below n) (n ∷ [])
      ∙ ap (λ b. filter among (numbers_below n) ++ cond b (n ∷ []) []) (ap (λ b. b || stands_in n (filter t (numbers_below q))) (eq-eqb n q last))
      ∙ subst (λ m. filter among (numbers_below m) ++ m ∷ [] ≡ filter t (numbers_below q) ++ q ∷ []) (sym last) (ap (λ xs. xs ++ q ∷ []) among-before))
      (below_or_last n q less)
