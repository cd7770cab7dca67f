-- Lists that go on from choices made so far: which there are, and their order.
use Rattle.std.proofs.Common.{◌≡◌, ℕ, zero, suc, ◌≤◌, ◌==◌, ◌||◌, List, [], ◌∷◌, ◌++◌, reverse, length, inl, inr, ⊎_elim, refl, sym, ap, ◌∙◌, subst, append_assoc, arith}
use Rattle.std.specs.List.{list_all, list_any, flat_map}
use Rattle.std.proofs.lemmas.List.{append-nil, reverse-append}
use Rattle.std.proofs.lemmas.List.Sorted.{list_any-IsPermutation, IsPermutation-reverse}
use Rattle.sl_model.specs.declared.schedule.Choice.{Choice}
use Rattle.sl_model.specs.Body.{is_placed, is_full}
use Rattle.sl_laws.proofs.Members.{Has, Ordered, has-flat_map, from-flat_map, ordered-flat_map}
use Rattle.search_space.specs.Going.{going_on}
use Rattle.search_space.proofs.Keys.{Before, Comes, branch-comes, root-comes}

-- one more choice in front, put behind those before
pub reverse-more : (done rest : List Choice) (c : Choice) → reverse (c ∷ done) ++ rest ≡ reverse done ++ c ∷ rest
reverse-more done rest c = ap (λ xs. xs ++ rest) (reverse-append (c ∷ []) done) ∙ append_assoc (reverse done) (c ∷ []) rest

-- Each choice of a list is one of the next, after those before it.
abbrev pub GoesBy : (List Choice → List Choice) → List Choice → List Choice → Type 0
GoesBy next done [] = Unit {0}
GoesBy next done (c ∷ rest) = Has c (next done) × GoesBy next (c ∷ done) rest

module _ (next : List Choice → List Choice) where
  -- A list goes on from the choices made so far, by at most so many.
  pub record GoesOn (more : ℕ) (done x : List Choice) : Type 0 where
    pub rest : List Choice
    pub is : x ≡ reverse done ++ rest
    pub goes : GoesBy next done rest
    pub few : length rest ≤ more

  -- the choices made so far do
  goes-root : (more : ℕ) (done x : List Choice) → reverse done ≡ x → GoesOn more done x
  goes-root more done x e = record { rest = []; is = sym e ∙ sym (append-nil (reverse done)); goes = tt; few = omega arith }

  -- Each list that is listed goes on so.
  pub from-going : (more : ℕ) (done x : List Choice) → Has x (going_on next more done) → GoesOn more done x
  unfolding going_on
  from-going zero done x h = ⊎_elim (λ (e : reverse done ≡ x). goes-root zero done x e) (λ (none : ⊥). absurd none) h
  from-going (suc more) done x h = ⊎_elim
      (λ (e : reverse done ≡ x). goes-root (suc more) done x e)
      (λ (later : Has x (flat_map (λ c. going_on next more (c ∷ done)) (next done))).
      let r = from-flat_map (λ c. going_on next more (c ∷ done)) x (next done) later in
      let g = from-going more (r.0 ∷ done) x r.2 in
      let few : length g.rest ≤ more = g.few in
      record { rest = r.0 ∷ g.rest; is = g.is ∙ reverse-more done g.rest r.0; goes = (r.1, g.goes); few = omega arith })
      h

  -- And each that goes on so is listed.
  pub has-going : (more : ℕ) (done rest : List Choice) → GoesBy next done rest → length rest ≤ more → Has (reverse done ++ rest) (going_on next more done)
  unfolding going_on
  has-going zero done [] goes few = inl (sym (append-nil (reverse done)))
  has-going zero done (c ∷ rest) goes few = absurd (omega arith)
  has-going (suc more) done [] goes few = inl (sym (append-nil (reverse done)))
  has-going (suc more) done (c ∷ rest) goes few =
      inr (has-flat_map (λ d. going_on next more (d ∷ done)) (reverse done ++ c ∷ rest) c (next done) goes.0
      (subst (λ x. Has x (going_on next more (c ∷ done))) (reverse-more done rest c) (has-going more (c ∷ done) rest goes.1 (omega arith))))

  -- Where the next choices stand in their order, so do the lists.
  pub ordered-going : ((done : List Choice) → Ordered Before (next done)) → (more : ℕ) (done : List Choice) → Ordered Comes (going_on next more done)
  unfolding going_on
  ordered-going ordered zero done = (λ y h. absurd h, tt)
  ordered-going ordered (suc more) done = (
    λ y h. (let r = from-flat_map (λ c. going_on next more (c ∷ done)) y (next done) h in
        let g = from-going more (r.0 ∷ done) y r.2 in
        subst (λ a. Comes a y) (append-nil (reverse done)) (subst (λ b. Comes (reverse done ++ []) b) (sym (g.is ∙ reverse-more done g.rest r.0)) (root-comes (reverse done) r.0 g.rest))),
    ordered-flat_map Before Comes (λ c. going_on next more (c ∷ done)) (next done) (ordered done)
        (λ c h. ordered-going ordered more (c ∷ done))
        (λ c d x y before hx hy.
        let gx = from-going more (c ∷ done) x hx in
        let gy = from-going more (d ∷ done) y hy in
        subst (λ a. Comes a y) (sym (gx.is ∙ reverse-more done gx.rest c))
        (subst (λ b. Comes (reverse done ++ c ∷ gx.rest) b) (sym (gy.is ∙ reverse-more done gy.rest d)) (branch-comes (reverse done) c d gx.rest gy.rest before))),
  )

-- ---- Whichever way choices are listed, they place the same items.

placed-any : (done : List Choice) (item : ℕ) → is_placed done item ≡ list_any (λ c. c.item == item) done
unfolding is_placed
placed-any [] item = refl
placed-any (c ∷ done) item = ap (λ b. c.item == item || b) (placed-any done item)

reverse-placed : (done : List Choice) (item : ℕ) → is_placed (reverse done) item ≡ is_placed done item
reverse-placed done item =
    placed-any (reverse done) item ∙ sym (list_any-IsPermutation (λ c. c.item == item) done (reverse done) (IsPermutation-reverse done)) ∙ sym (placed-any done item)

-- A list places all items where it does turned round.
pub reverse-full : (order : List ℕ) (done : List Choice) → is_full order (reverse done) ≡ is_full order done
reverse-full order done = λ i. list_all (λ p. reverse-placed done p i) order
