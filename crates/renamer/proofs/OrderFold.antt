-- What is gathered over the placed items of an order: the byte that they leave, and how often they access.
use Rattle.std.proofs.Common.{◌≡◌, ℕ, ◌+◌, Bool, true, false, cond, eqb, ◌⊎◌, List, [], ◌∷◌, ◌++◌, Option, Some, None, unwrap_or, refl, sym, ◌∙◌, ap, ap₂, subst, inl, ⊎_elim, arith}
use Rattle.std.proofs.lemmas.Bool.{cases_Bool, ne_eqb, cond-true, cond-false}
use Rattle.sl_model.specs.Body.{above, stands_in}
use Rattle.sl_model.specs.Graph.{IsOnce}
use Rattle.renamer.proofs.OrderLists.{below, cut_at_item, below-not_itself}
use Rattle.sl_laws.proofs.Orders.{above-not_itself, stands_behind, stands_first}

-- The last value that the items of an order which pass a test leave, where each may leave one.
unfoldable pub folded : (ℕ → Option ℕ) → (ℕ → Bool) → ℕ → List ℕ → ℕ
folded leaves test old [] = old
folded leaves test old (p ∷ order) = folded leaves test (cond (test p) (unwrap_or (leaves p) old) old) order

-- the sum of the weights of the items of an order that pass a test
unfoldable pub counted : (ℕ → ℕ) → (ℕ → Bool) → List ℕ → ℕ
counted weight test [] = 0
counted weight test (p ∷ order) = cond (test p) (weight p) 0 + counted weight test order

-- the test that each item passes
abbrev pub everything : ℕ → Bool
everything p = true

-- two choices between equal numbers
either_way : (s t : Bool) (old new : ℕ) → new ≡ old → cond s new old ≡ cond t new old
either_way true true old new e = refl
either_way false false old new e = refl
either_way true false old new e = e
either_way false true old new e = sym e

-- An item above another isn't it, nor is one below it.
not_above : (c q : ℕ) (order : List ℕ) → stands_in q (above c order) ≡ true → eqb c q ≡ false
not_above c q order h = ne_eqb c q (λ (same : c ≡ q). above-not_itself c order (subst (λ x. stands_in x (above c order) ≡ true) (sym same) h))

-- and the same below
not_below : (c q : ℕ) (order : List ℕ) → IsOnce order → stands_in q (below c order) ≡ true → eqb c q ≡ false
not_below c q order once h = ne_eqb c q (λ (same : c ≡ q). below-not_itself c order once (subst (λ x. stands_in x (below c order) ≡ true) (sym same) h))

module _ (leaves : ℕ → Option ℕ) where
  -- over two orders, one after the other
  folded-append : (test : ℕ → Bool) (old : ℕ) (xs ys : List ℕ) → folded leaves test old (xs ++ ys) ≡ folded leaves test (folded leaves test old xs) ys
  unfolding folded
  folded-append test old [] ys = refl
  folded-append test old (p ∷ xs) ys = folded-append test (cond (test p) (unwrap_or (leaves p) old) old) xs ys

  -- by tests that agree on all items that leave a value
  folded-same : (test other : ℕ → Bool) (old : ℕ) (xs : List ℕ) → ((q : ℕ) → stands_in q xs ≡ true → (test q ≡ other q) ⊎ (leaves q ≡ None)) → folded leaves test old xs ≡ folded leaves other old xs
  unfolding folded
  folded-same test other old [] same = refl
  folded-same test other old (p ∷ xs) same =
      let here : cond (test p) (unwrap_or (leaves p) old) old ≡ cond (other p) (unwrap_or (leaves p) old) old = ⊎_elim
      (λ (e : test p ≡ other p). ap (λ t. cond t (unwrap_or (leaves p) old) old) e)
      (λ (e : leaves p ≡ None). either_way (test p) (other p) old (unwrap_or (leaves p) old) (ap (λ o. unwrap_or o old) e))
      (same p (stands_first p xs)) in
      folded-same test other (cond (test p) (unwrap_or (leaves p) old) old) xs (λ q h. same q (stands_behind p q xs h)) ∙ ap (λ v. folded leaves other v xs) here

  -- where no item that passes leaves a value
  pub folded-none : (test : ℕ → Bool) (old : ℕ) (xs : List ℕ) → ((q : ℕ) → stands_in q xs ≡ true → test q ≡ true → leaves q ≡ None) → folded leaves test old xs ≡ old
  unfolding folded
  folded-none test old [] none = refl
  folded-none test old (p ∷ xs) none =
      let here : cond (test p) (unwrap_or (leaves p) old) old ≡ old = ⊎_elim
      (λ (passes : test p ≡ true). cond-true (test p) (unwrap_or (leaves p) old) old passes ∙ ap (λ o. unwrap_or o old) (none p (stands_first p xs) passes))
      (λ (fails : test p ≡ false). cond-false (test p) (unwrap_or (leaves p) old) old fails)
      (cases_Bool (test p)) in
      ap (λ v. folded leaves test v xs) here ∙ folded-none test old xs (λ q h. none q (stands_behind p q xs h))

  -- Where all items pass, it is what all items leave.
  pub folded-all : (test : ℕ → Bool) (old : ℕ) (order : List ℕ) → ((q : ℕ) → stands_in q order ≡ true → test q ≡ true) → folded leaves test old order ≡ folded leaves everything old order
  folded-all test old order all = folded-same test everything old order (λ q h. inl (all q h))

  -- What an item finds that isn't placed: what all items above it leave, if each of them that leaves a value is placed,
  -- and no item below it that is placed leaves a value.
  pub folded-found : (test : ℕ → Bool) (old c : ℕ) (order : List ℕ) → stands_in c order ≡ true → test c ≡ false
      → ((q : ℕ) → stands_in q (above c order) ≡ true → (test q ≡ true) ⊎ (leaves q ≡ None))
      → ((q : ℕ) → stands_in q (below c order) ≡ true → test q ≡ true → leaves q ≡ None)
      → folded leaves test old order ≡ folded leaves everything old (above c order)
  unfolding folded
  folded-found test old c order here fresh up down =
      ap (folded leaves test old) (cut_at_item c order here)
      ∙ folded-append test old (above c order) (c ∷ below c order)
      ∙ ap (λ v. folded leaves test v (below c order)) (cond-false (test c) (unwrap_or (leaves c) (folded leaves test old (above c order))) (folded leaves test old (above c order)) fresh)
      ∙ folded-none test (folded leaves test old (above c order)) (below c order) down
      ∙ folded-same test everything old (above c order) (λ q h. up q h)

  -- a fold from what an item leaves, over items of which none leaves a value where the item does
  folded-after : (test : ℕ → Bool) (o : Option ℕ) (old : ℕ) (xs : List ℕ) → ((v : ℕ) → o ≡ Some v → (q : ℕ) → stands_in q xs ≡ true → test q ≡ true → leaves q ≡ None) → folded leaves test (unwrap_or o old) xs ≡ unwrap_or o (folded leaves test old xs)
  folded-after test None old xs down = refl
  folded-after test (Some v) old xs down = folded-none test v xs (down v refl)

  -- What is left once an item is placed: what it leaves over what was left, if no placed item below it leaves a value
  -- where it does.
  pub folded-placed : (test after : ℕ → Bool) (old c : ℕ) (order : List ℕ) → IsOnce order → stands_in c order ≡ true → test c ≡ false → after c ≡ true
      → ((q : ℕ) → eqb c q ≡ false → after q ≡ test q)
      → ((v : ℕ) → leaves c ≡ Some v → (q : ℕ) → stands_in q (below c order) ≡ true → test q ≡ true → leaves q ≡ None)
      → folded leaves after old order ≡ unwrap_or (leaves c) (folded leaves test old order)
  unfolding folded
  folded-placed test after old c order once here fresh placed others down =
      let up_same : folded leaves after old (above c order) ≡ folded leaves test old (above c order) = folded-same after test old (above c order) (λ q h. inl (others q (not_above c q order h))) in
      let left : folded leaves after old order ≡ folded leaves after (unwrap_or (leaves c) (folded leaves test old (above c order))) (below c order) =
      ap (folded leaves after old) (cut_at_item c order here)
      ∙ folded-append after old (above c order) (c ∷ below c order)
      ∙ ap (λ v. folded leaves after v (below c order)) (cond-true (after c) (unwrap_or (leaves c) (folded leaves after old (above c order))) (folded leaves after old (above c order)) placed)
      ∙ ap (λ v. folded leaves after (unwrap_or (leaves c) v) (below c order)) up_same in
      let right : folded leaves test old order ≡ folded leaves test (folded leaves test old (above c order)) (below c order) =
      ap (folded leaves test old) (cut_at_item c order here)
      ∙ folded-append test old (above c order) (c ∷ below c order)
      ∙ ap (λ v. folded leaves test v (below c order)) (cond-false (test c) (unwrap_or (leaves c) (folded leaves test old (above c order))) (folded leaves test old (above c order)) fresh) in
      left
      ∙ folded-same after test (unwrap_or (leaves c) (folded leaves test old (above c order))) (below c order) (λ q h. inl (others q (not_below c q order once h)))
      ∙ folded-after test (leaves c) (folded leaves test old (above c order)) (below c order) down
      ∙ ap (unwrap_or (leaves c)) (sym right)

module _ (weight : ℕ → ℕ) where
  -- over two orders, one after the other
  counted-append : (test : ℕ → Bool) (xs ys : List ℕ) → counted weight test (xs ++ ys) ≡ counted weight test xs + counted weight test ys
  unfolding counted
  counted-append test [] ys = omega arith
  counted-append test (p ∷ xs) ys =
      let rest : counted weight test (xs ++ ys) ≡ counted weight test xs + counted weight test ys = counted-append test xs ys in
      omega arith

  -- by tests that agree
  counted-same : (test other : ℕ → Bool) (xs : List ℕ) → ((q : ℕ) → stands_in q xs ≡ true → test q ≡ other q) → counted weight test xs ≡ counted weight other xs
  unfolding counted
  counted-same test other [] same = refl
  counted-same test other (p ∷ xs) same = ap₂ (λ t n. cond t (weight p) 0 + n) (same p (stands_first p xs)) (counted-same test other xs (λ q h. same q (stands_behind p q xs h)))

  -- Where all items pass, it is the sum of all weights.
  pub counted-all : (test : ℕ → Bool) (order : List ℕ) → ((q : ℕ) → stands_in q order ≡ true → test q ≡ true) → counted weight test order ≡ counted weight everything order
  counted-all test order all = counted-same test everything order all

  -- where no item passes
  pub counted-none : (order : List ℕ) → counted weight (λ p. false) order ≡ 0
  unfolding counted
  counted-none [] = refl
  counted-none (p ∷ order) = let rest : counted weight (λ p. false) order ≡ 0 = counted-none order in omega arith

  -- The sum once an item is placed.
  pub counted-placed : (test after : ℕ → Bool) (c : ℕ) (order : List ℕ) → IsOnce order → stands_in c order ≡ true → test c ≡ false → after c ≡ true
      → ((q : ℕ) → eqb c q ≡ false → after q ≡ test q) → counted weight after order ≡ weight c + counted weight test order
  unfolding counted
  counted-placed test after c order once here fresh placed others =
      let up : counted weight after (above c order) ≡ counted weight test (above c order) = counted-same after test (above c order) (λ q h. others q (not_above c q order h)) in
      let down : counted weight after (below c order) ≡ counted weight test (below c order) = counted-same after test (below c order) (λ q h. others q (not_below c q order once h)) in
      let left : counted weight after order ≡ counted weight after (above c order) + (cond (after c) (weight c) 0 + counted weight after (below c order)) = ap (counted weight after) (cut_at_item c order here) ∙ counted-append after (above c order) (c ∷ below c order) in
      let right : counted weight test order ≡ counted weight test (above c order) + (cond (test c) (weight c) 0 + counted weight test (below c order)) = ap (counted weight test) (cut_at_item c order here) ∙ counted-append test (above c order) (c ∷ below c order) in
      let more : cond (after c) (weight c) 0 ≡ weight c = cond-true (after c) (weight c) 0 placed in
      let less : cond (test c) (weight c) 0 ≡ 0 = cond-false (test c) (weight c) 0 fresh in
      omega arith
