-- Orders of items: which numbers stand in them, and which above one of them.
use Rattle.std.proofs.Common.{◌≡◌, ℕ, Bool, true, false, ◌&&◌, ◌||◌, filter, cond, eqb, ◌⊎◌, List, [], ◌∷◌, ◌++◌, if◌then◌else◌, refl, sym, ap, ◌∙◌, subst, inl, inr, ⊎_elim, true≢false}
use Rattle.std.specs.List.{list_all}
use Rattle.std.proofs.Math.Bool.{or-false, or_assoc}
use Rattle.std.proofs.lemmas.Bool.{cases_Bool, and_parts, or_parts, or_cases, or_left, or_right, eqb-true, eqb-false, eq-eqb, ne_eqb, cond-true, cond-false, both_ways}
use Rattle.sl_model.specs.Body.{above, stands_in}
use Rattle.sl_laws.proofs.Members.{Has}

-- the first number stands in an order
pub stands_first : (p : ℕ) (order : List ℕ) → stands_in p (p ∷ order) ≡ true
unfolding stands_in
stands_first p order = or_left (eqb p p) (stands_in p order) (eq-eqb p p refl)

-- so do those behind it
pub stands_behind : (p q : ℕ) (order : List ℕ) → stands_in q order ≡ true → stands_in q (p ∷ order) ≡ true
unfolding stands_in
stands_behind p q order h = or_right (eqb p q) (stands_in q order) h

-- and no others
pub stands-cases : (p q : ℕ) (order : List ℕ) → stands_in q (p ∷ order) ≡ true → (p ≡ q) ⊎ (stands_in q order ≡ true)
unfolding stands_in
stands-cases p q order h = ⊎_elim
    (λ (here : eqb p q ≡ true). inl (eqb-true p q here))
    (λ (rest : stands_in q order ≡ true). inr rest)
    (or_cases (eqb p q) (stands_in q order) h)

-- nothing stands in an empty order
pub stands-none : (q : ℕ) → stands_in q [] ≡ true → ⊥
unfolding stands_in
stands-none q h = true≢false (sym h)

-- a number that stands behind another of an order without repetition is not it
pub differs : (p q : ℕ) (order : List ℕ) → stands_in p order ≡ false → stands_in q order ≡ true → eqb p q ≡ false
differs p q order fresh there = ne_eqb p q (λ (same : p ≡ q). both_ways (stands_in q order) (subst (λ x. stands_in x order ≡ false) same fresh) there)

-- one more number stands in an order
pub stands_in-push : (item : ℕ) (order : List ℕ) (last : ℕ) → stands_in item (order ++ last ∷ []) ≡ (stands_in item order || eqb last item)
unfolding stands_in
stands_in-push item [] last = or-false (eqb last item)
stands_in-push item (p ∷ order) last =
    ap (λ b. eqb p item || b) (stands_in-push item order last) ∙ sym (or_assoc (eqb p item) (stands_in item order) (eqb last item))

-- a number stands among those of an order that pass a test where it stands there and passes
pub stands_in-filter : (t : ℕ → Bool) (item : ℕ) (order : List ℕ) → stands_in item (filter t order) ≡ (stands_in item order && t item)
unfolding stands_in
stands_in-filter t item [] = refl
stands_in-filter t item (p ∷ order) = by (stands_in-filter t item order) (t p) refl (cases_Bool (eqb p item))
  where
    never : (b : Bool) → (b && false) ≡ false
    never true = refl
    never false = refl

    by : stands_in item (filter t order) ≡ (stands_in item order && t item) → (b : Bool) → t p ≡ b → (eqb p item ≡ true) ⊎ (eqb p item ≡ false) → stands_in item (cond b (p ∷ filter t order) (filter t order)) ≡ ((eqb p item || stands_in item order) && t item)
    by rest true pass (inl same) =
        ap (λ b. b || stands_in item (filter t order)) same
        ∙ sym (ap (λ b. (b || stands_in item order) && t item) same ∙ ap t (sym (eqb-true p item same)) ∙ pass)
    by rest true pass (inr other) =
        ap (λ b. b || stands_in item (filter t order)) other ∙ rest ∙ sym (ap (λ b. (b || stands_in item order) && t item) other)
    by rest false fail (inl same) =
        let lacks : t item ≡ false = ap t (sym (eqb-true p item same)) ∙ fail in
        rest ∙ ap (λ b. stands_in item order && b) lacks ∙ never (stands_in item order)
        ∙ sym (ap (λ b. (eqb p item || stands_in item order) && b) lacks ∙ never (eqb p item || stands_in item order))
    by rest false fail (inr other) = rest ∙ sym (ap (λ b. (b || stands_in item order) && t item) other)

-- a test that all numbers of an order pass, at one of them
pub standing-passes : (test : ℕ → Bool) (order : List ℕ) (q : ℕ) → list_all test order ≡ true → stands_in q order ≡ true → test q ≡ true
standing-passes test [] q all h = absurd (stands-none q h)
standing-passes test (p ∷ order) q all h =
    let parts = and_parts (test p) (list_all test order) all in
    ⊎_elim
    (λ (same : p ≡ q). subst (λ x. test x ≡ true) same parts.0)
    (λ (rest : stands_in q order ≡ true). standing-passes test order q parts.1 rest)
    (stands-cases p q order h)

-- an item that stands in an order is one of it
pub standing-has : (item : ℕ) (order : List ℕ) → stands_in item order ≡ true → Has item order
unfolding stands_in
standing-has item [] stands = absurd (true≢false (sym stands))
standing-has item (q ∷ order) stands = ⊎_elim
    (λ (here : eqb q item ≡ true). inl (eqb-true q item here))
    (λ (there : stands_in item order ≡ true). inr (standing-has item order there))
    (or_cases (eqb q item) (stands_in item order) stands)

-- and the other way
pub has-standing : (item : ℕ) (order : List ℕ) → Has item order → stands_in item order ≡ true
unfolding stands_in
has-standing item [] h = absurd h
has-standing item (q ∷ order) h = ⊎_elim
    (λ (here : q ≡ item). or_left (eqb q item) (stands_in item order) (eq-eqb q item here))
    (λ (there : Has item order). or_right (eqb q item) (stands_in item order) (has-standing item order there))
    h

-- What is above an item of a longer order.
pub above-later : (p q : ℕ) (order : List ℕ) → eqb p q ≡ false → above q (p ∷ order) ≡ p ∷ above q order
unfolding above
above-later p q order other = cond-false (eqb p q) [] (p ∷ above q order) other

-- and of one that begins with it
pub above-first : (p q : ℕ) (order : List ℕ) → eqb p q ≡ true → above q (p ∷ order) ≡ []
unfolding above
above-first p q order same = cond-true (eqb p q) [] (p ∷ above q order) same

-- What stands above an item stands in the order.
pub above-stands : (c q : ℕ) (order : List ℕ) → stands_in q (above c order) ≡ true → stands_in q order ≡ true
unfolding above
above-stands c q [] h = h
above-stands c q (p ∷ order) h = ⊎_elim
    (λ (here : eqb p c ≡ true). absurd (stands-none q (subst (λ t. stands_in q (cond t [] (p ∷ above c order)) ≡ true) here h)))
    (λ (other : eqb p c ≡ false).
    let later : stands_in q (p ∷ above c order) ≡ true = subst (λ t. stands_in q (cond t [] (p ∷ above c order)) ≡ true) other h in
    ⊎_elim
    (λ (same : p ≡ q). subst (λ x. stands_in x (p ∷ order) ≡ true) same (stands_first p order))
    (λ (rest : stands_in q (above c order) ≡ true). stands_behind p q order (above-stands c q order rest))
    (stands-cases p q (above c order) later))
    (cases_Bool (eqb p c))

-- An item doesn't stand above itself.
pub above-not_itself : (c : ℕ) (order : List ℕ) → stands_in c (above c order) ≡ true → ⊥
unfolding above
above-not_itself c [] h = stands-none c h
above-not_itself c (p ∷ order) h = ⊎_elim
    (λ (here : eqb p c ≡ true). stands-none c (subst (λ t. stands_in c (cond t [] (p ∷ above c order)) ≡ true) here h))
    (λ (other : eqb p c ≡ false).
    let later : stands_in c (p ∷ above c order) ≡ true = subst (λ t. stands_in c (cond t [] (p ∷ above c order)) ≡ true) other h in
    ⊎_elim
    (λ (same : p ≡ c). eqb-false p c other same)
    (λ (rest : stands_in c (above c order) ≡ true). above-not_itself c order rest)
    (stands-cases p c (above c order) later))
    (cases_Bool (eqb p c))

-- what stands above a number that is there already stays above it
pub above-in : (item : ℕ) (order rest : List ℕ) → stands_in item order ≡ true → above item (order ++ rest) ≡ above item order
unfolding above stands_in
above-in item [] rest stands = absurd (true≢false (sym stands))
above-in item (p ∷ order) rest stands =
    elim (eqb p item) as (λ b. (b || stands_in item order) ≡ true → (if b then [] else p ∷ above item (order ++ rest)) ≡ (if b then [] else p ∷ above item order)) [
      | true ↦ λ e. refl
      | false ↦ λ e. ap (λ l. p ∷ l) (above-in item order rest e)
    ] stands

-- above the last number stand all others
pub above-last : (item : ℕ) (order : List ℕ) → stands_in item order ≡ false → above item (order ++ item ∷ []) ≡ order
unfolding above stands_in
above-last item [] lacks = ap (λ b. if b then [] else item ∷ []) (eq-eqb item item refl)
above-last item (p ∷ order) lacks =
    ap (λ b. if b then [] else p ∷ above item (order ++ item ∷ [])) (or_parts (eqb p item) (stands_in item order) lacks).0
    ∙ ap (λ l. p ∷ l) (above-last item order (or_parts (eqb p item) (stands_in item order) lacks).1)
