-- Orders of items, cut at one of them; and what is gathered over the placed items of an order.
use Rattle.std.proofs.Common.{◌≡◌, ℕ, true, false, cond, eqb, List, [], ◌∷◌, ◌++◌, sym, ap, subst, ⊎_elim}
use Rattle.std.proofs.lemmas.Bool.{cases_Bool, eqb-true, eqb-false}
use Rattle.sl_model.specs.Body.{above, stands_in}
use Rattle.sl_model.specs.Graph.{IsOnce}
use Rattle.sl_laws.proofs.Orders.{above-later, above-not_itself, differs, stands-cases, stands-none, stands_behind, stands_first}

-- the numbers that stand below an item in an order
unfoldable pub below : ℕ → List ℕ → List ℕ
below item [] = []
below item (p ∷ order) = cond (eqb p item) order (below item order)

-- An order is what is above one of its items, the item, and what is below it.
pub cut_at_item : (c : ℕ) (order : List ℕ) → stands_in c order ≡ true → order ≡ above c order ++ (c ∷ below c order)
unfolding above below
cut_at_item c [] h = absurd (stands-none c h)
cut_at_item c (p ∷ order) h = ⊎_elim
    (λ (here : eqb p c ≡ true). rw here (ap (λ x. x ∷ order) (eqb-true p c here)))
    (λ (other : eqb p c ≡ false).
    let there : stands_in c order ≡ true = ⊎_elim
    (λ (same : p ≡ c). absurd (eqb-false p c other same))
    (λ (rest : stands_in c order ≡ true). rest)
    (stands-cases p c order h) in
    rw other (ap (λ xs. p ∷ xs) (cut_at_item c order there)))
    (cases_Bool (eqb p c))

-- What stands below an item stands in the order, and the item stands above it.
pub below-stands : (c q : ℕ) (order : List ℕ) → IsOnce order → stands_in q (below c order) ≡ true → (stands_in q order ≡ true) × (stands_in c (above q order) ≡ true)
unfolding below
below-stands c q [] once h = absurd (stands-none q h)
below-stands c q (p ∷ order) once h = ⊎_elim
    (λ (here : eqb p c ≡ true).
    let behind : stands_in q order ≡ true = subst (λ t. stands_in q (cond t order (below c order)) ≡ true) here h in
    let first : stands_in c (p ∷ above q order) ≡ true = subst (λ x. stands_in x (p ∷ above q order) ≡ true) (eqb-true p c here) (stands_first p (above q order)) in
    (stands_behind p q order behind, subst (λ xs. stands_in c xs ≡ true) (sym (above-later p q order (differs p q order once.0 behind))) first))
    (λ (other : eqb p c ≡ false).
    let rest = below-stands c q order once.1 (subst (λ t. stands_in q (cond t order (below c order)) ≡ true) other h) in
    (stands_behind p q order rest.0, subst (λ xs. stands_in c xs ≡ true) (sym (above-later p q order (differs p q order once.0 rest.0))) (stands_behind p c (above q order) rest.1)))
    (cases_Bool (eqb p c))

-- An item doesn't stand below itself.
pub below-not_itself : (c : ℕ) (order : List ℕ) → IsOnce order → stands_in c (below c order) ≡ true → ⊥
below-not_itself c order once h = above-not_itself c order (below-stands c c order once h).1
