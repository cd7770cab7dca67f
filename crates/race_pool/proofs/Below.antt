-- A tree of the list that is below another.
use Rattle.std.proofs.Common.{◌≡◌, ℕ, ◌<◌, List, [], ◌∷◌, Bool, true, false, ◌||◌, true≢false, refl, sym, ap, ◌∙◌, subst, inl, inr, ⊎_elim, arith}
use Rattle.std.proofs.lemmas.Bool.{lt-ltb, ltb-true, or_left}
use Rattle.std.proofs.Math.Bool.{or-true}
use Rattle.std.specs.Prelude.{nat_lt}
use Rattle.race_pool.specs.Decisive.{Has}
use Rattle.race_pool.specs.declared.key.Level.{Level}
use Rattle.race_pool.specs.Race.{IsMark}
use Rattle.race_pool.specs.Told.{has_below}

pub below_found : (tree found : ℕ) (xs : List ℕ) → Has xs found → found < tree → has_below tree xs ≡ true
below_found tree found [] h lt = absurd h
below_found tree found (x ∷ xs) h lt =
    ⊎_elim
    (λ (e : found ≡ x). or_left (nat_lt x tree) (has_below tree xs) (lt-ltb x tree (subst (λ (n : ℕ). n < tree) e lt)))
    (λ (t : Has xs found). ap (λ b. nat_lt x tree || b) (below_found tree found xs t lt) ∙ or-true (nat_lt x tree))
    h

pub found_below : (tree : ℕ) (xs : List ℕ) → has_below tree xs ≡ true → (t : ℕ) × (t < tree) × Has xs t
found_below tree [] e = absurd (true≢false (sym e))
found_below tree (x ∷ xs) e = pick (nat_lt x tree) refl (λ later. found_below tree xs later)
  where
    pick : (b : Bool) → nat_lt x tree ≡ b → (has_below tree xs ≡ true → (t : ℕ) × (t < tree) × Has xs t) → (t : ℕ) × (t < tree) × Has (x ∷ xs) t
    pick true is again = (x, ltb-true x tree is, inl refl)
    pick false is again = let r = again (sym (ap (λ b. b || has_below tree xs) is) ∙ e) in (r.0, r.1, inr r.2)

-- a word that is below a tree is a decisive tree
pub is_decisive : (level : Level) (found tree : ℕ) → IsMark level found → tree < level.count → found < tree → Has level.decisive found
is_decisive level found tree mark low lt = ⊎_elim (λ (e : found ≡ level.count). absurd (omega (arith, e, low, lt))) (λ (h : Has level.decisive found). h) mark.1
