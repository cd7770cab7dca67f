-- The decisive trees of a level, and what a search tells of them.
use Rattle.std.proofs.Common.{◌≡◌, ◌≢◌, ◌⊎◌, ◌↔◌, ℕ, zero, suc, ◌<◌, ◌≤◌, ◌∷◌, Bool, true, false, cond, true≢false, refl, sym, ap, ◌∙◌, subst, inl, inr, ⊎_elim, arith}
use native.Mathlib.Decide.{dec_le}
use Rattle.race_pool.specs.declared.forest.Outcome.{Outcome}
use Rattle.race_pool.specs.declared.forest.Outcome.TheVariants.{Found, Nothing, Spent, Cancelled}
use Rattle.race_pool.specs.Decisive.{is_nothing, decisive_below, Has}
use Rattle.race_pool.specs.Told.{has_below}
use Rattle.race_pool.specs.Turn.{Searched, decided}
use Rattle.race_pool.proofs.Below.{found_below}

pub nothing_from_test : (x : Outcome) → is_nothing x ≡ true → x ≡ Nothing
nothing_from_test Nothing e = refl
nothing_from_test Found e = absurd (true≢false (sym e))
nothing_from_test Spent e = absurd (true≢false (sym e))
nothing_from_test Cancelled e = absurd (true≢false (sym e))

pub not_nothing : (x y : Outcome) → is_nothing y ≡ false → x ≡ y → x ≢ Nothing
not_nothing x y f e n = true≢false (ap is_nothing (sym n ∙ e) ∙ f)

pub below_or_last : (n t : ℕ) → t < suc n → (t < n) ⊎ (t ≡ n)
below_or_last n t lt = go (dec_le n t)
  where
    go : Dec (n ≤ t) → (t < n) ⊎ (t ≡ n)
    go (yes d) = inr (omega (arith, lt, d))
    go (no d) = inl (omega (arith, d))

module _ (outcome : ℕ → Outcome) where
  pub has_sound : (n t : ℕ) → Has (decisive_below outcome n) t → (t < n) × (outcome t ≢ Nothing)
  has_sound zero t h = absurd h
  has_sound (suc n) t h = go (is_nothing (outcome n)) refl h (λ k. has_sound n t k)
    where
      go : (b : Bool) → is_nothing (outcome n) ≡ b → Has (cond b (decisive_below outcome n) (n ∷ decisive_below outcome n)) t → (Has (decisive_below outcome n) t → (t < n) × (outcome t ≢ Nothing)) → (t < suc n) × (outcome t ≢ Nothing)
      go true is k again = let r = again k in (omega (arith, r.0), r.1)
      go false is k again =
          ⊎_elim
          (λ (e : t ≡ n). (omega (arith, e), not_nothing (outcome t) (outcome n) is (ap outcome e)))
          (λ (k' : Has (decisive_below outcome n) t). let r = again k' in (omega (arith, r.0), r.1))
          k

  pub has_complete : (n t : ℕ) → t < n → is_nothing (outcome t) ≡ false → Has (decisive_below outcome n) t
  has_complete zero t lt f = absurd (omega (arith, lt))
  has_complete (suc n) t lt f = go (is_nothing (outcome n)) refl (λ k. has_complete n t k f)
    where
      go : (b : Bool) → is_nothing (outcome n) ≡ b → (t < n → Has (decisive_below outcome n) t) → Has (cond b (decisive_below outcome n) (n ∷ decisive_below outcome n)) t
      go true is again = ⊎_elim (λ (l : t < n). again l) (λ (e : t ≡ n). absurd (true≢false (sym is ∙ ap (λ k. is_nothing (outcome k)) (sym e) ∙ f))) (below_or_last n t lt)
      go false is again = ⊎_elim (λ (l : t < n). inr (again l)) (λ (e : t ≡ n). inl e) (below_or_last n t lt)

-- what a search told, where its stop was told only of a decisive tree below
pub searched_by : (outcome : ℕ → Outcome) (holds : ℕ → Type 0) (count tree : ℕ) (told : Bool) (result : Outcome) → ((result ≡ Cancelled) ↔ (told ≡ true)) → (told ≡ false → result ≡ outcome tree) → (result ≡ Found → holds tree) → (told ≡ true → has_below tree (decisive_below outcome count) ≡ true) → Searched outcome holds count tree result
searched_by outcome holds count tree true result c o h l =
    let r = found_below tree (decisive_below outcome count) (l refl) in
    let s = has_sound outcome count r.0 r.2 in
    subst (Searched outcome holds count tree) (sym (c.1 refl)) (r.0, r.1, s.0, s.1)
searched_by outcome holds count tree false Found c o h l = (sym (o refl), h refl)
searched_by outcome holds count tree false Spent c o h l = sym (o refl)
searched_by outcome holds count tree false Nothing c o h l = sym (o refl)
searched_by outcome holds count tree false Cancelled c o h l = absurd (true≢false (sym (c.0 refl)))

pub decided_has : (outcome : ℕ → Outcome) (holds : ℕ → Type 0) (count tree : ℕ) (result : Outcome) → tree < count → Searched outcome holds count tree result → decided result ≡ true → Has (decisive_below outcome count) tree
decided_has outcome holds count tree Found lt s d = has_complete outcome count tree lt (ap is_nothing s.0)
decided_has outcome holds count tree Spent lt s d = has_complete outcome count tree lt (ap is_nothing s)
decided_has outcome holds count tree Nothing lt s d = absurd (true≢false (sym d))
decided_has outcome holds count tree Cancelled lt s d = absurd (true≢false (sym d))
