-- After all workers have ended, the least tree that was published is the first decisive one.
use Rattle.std.proofs.Common.{◌≡◌, ◌≢◌, ◌⊎◌, ℕ, zero, suc, ◌+◌, ◌%◌, ◌<◌, ◌≤◌, List, [], ◌∷◌, length, Option, Some, None, Bool, true, false, true≢false, refl, sym, ap, ◌∙◌, subst, inl, inr, ⊎_elim, arith}
use Rattle.std.specs.Prelude.{slice_get, IsSomeAnd}
use Rattle.std.proofs.Math.Nat.{mod-lt}
use native.Mathlib.Decide.{dec_le}
use Rattle.race_pool.specs.declared.forest.Outcome.{Outcome}
use Rattle.race_pool.specs.declared.forest.Outcome.TheVariants.{Found, Nothing, Spent}
use Rattle.race_pool.specs.Level.{IsFirst, IsSpent}
use Rattle.race_pool.specs.declared.best.Best.{Best}
use Rattle.race_pool.specs.Decisive.{is_nothing, decisive_below, level_of, Has}
use Rattle.race_pool.specs.Race.{IsMark}
use Rattle.race_pool.specs.Ended.{least, IsFound, Ended, EachEnded}
use Rattle.race_pool.specs.Settled.{Answered}
use Rattle.race_pool.proofs.Decided.{nothing_from_test, not_nothing, below_or_last, has_sound}

module _ (outcome : ℕ → Outcome) where
  -- the first decisive tree below n, or none
  first_below : (n : ℕ) → ((t : ℕ) → t < n → outcome t ≡ Nothing) ⊎ ((d : ℕ) × IsFirst outcome n d)
  first_below zero = inl (λ t lt. absurd (omega (arith, lt)))
  first_below (suc n) = go (first_below n)
    where
      go : (((t : ℕ) → t < n → outcome t ≡ Nothing) ⊎ ((d : ℕ) × IsFirst outcome n d)) → ((t : ℕ) → t < suc n → outcome t ≡ Nothing) ⊎ ((d : ℕ) × IsFirst outcome (suc n) d)
      go (inr f) = inr (f.0, (omega (arith, f.1.0), f.1.1, f.1.2))
      go (inl none) = last (is_nothing (outcome n)) refl
        where
          last : (b : Bool) → is_nothing (outcome n) ≡ b → ((t : ℕ) → t < suc n → outcome t ≡ Nothing) ⊎ ((d : ℕ) × IsFirst outcome (suc n) d)
          last true is = inl (λ t lt. ⊎_elim (λ l. none t l) (λ (e : t ≡ n). ap outcome e ∙ nothing_from_test (outcome n) is) (below_or_last n t lt))
          last false is = inr (n, (omega arith, not_nothing (outcome n) (outcome n) is refl, none))

spent_decisive : (outcome : ℕ → Outcome) (t : ℕ) (b : Bool) → IsSpent outcome t b → outcome t ≢ Nothing
spent_decisive outcome t b s = ⊎_elim (λ (x : (b ≡ true) × (outcome t ≡ Spent)). not_nothing (outcome t) Spent refl x.1) (λ (x : (b ≡ false) × (outcome t ≡ Found)). not_nothing (outcome t) Found refl x.1) s

spent_found : (outcome : ℕ → Outcome) (t : ℕ) (b : Bool) → IsSpent outcome t b → b ≡ false → outcome t ≡ Found
spent_found outcome t b s f = ⊎_elim (λ (x : (b ≡ true) × (outcome t ≡ Spent)). absurd (true≢false (sym x.0 ∙ f))) (λ (x : (b ≡ false) × (outcome t ≡ Found)). x.1) s

module _ {W : Type 0} (outcome : ℕ → Outcome) (count : ℕ) (holds : W → ℕ → Type 0) (stride : ℕ) where
  each_at : (bound first k : ℕ) (ws : List W) → k < length ws → EachEnded outcome count stride bound holds first ws → (w : W) × (slice_get ws k ≡ Some w) × Ended outcome count stride bound (holds w) (first + k)
  each_at bound first k [] lt e = absurd (omega (arith, lt))
  each_at bound first zero (w ∷ ws) lt e = (w, refl, subst (λ (n : ℕ). Ended outcome count stride bound (holds w) n) (let s : first ≡ first + 0 = omega arith in s) e.0)
  each_at bound first (suc k) (w ∷ ws) lt e =
      let r = each_at bound (suc first) k ws (omega (arith, lt)) e.1 in
      (r.0, r.1, subst (λ (n : ℕ). Ended outcome count stride bound (holds r.0) n) (let s : suc first + k ≡ first + suc k = omega arith in s) r.2)

  -- the worker of the first decisive tree published it
  at_first : (bound d : ℕ) (w : W) → IsFirst outcome count d → Ended outcome count stride bound (holds w) (0 + d % stride) → (bound ≤ d) × (outcome d ≡ Found → holds w d)
  at_first bound d w first e = go (dec_le e.0 d)
    where
      here : (e.0 ≤ d) → (bound ≤ d) × (outcome d ≡ Found → holds w d)
      here le =
          ⊎_elim (λ (past : count ≤ e.0). absurd (omega (arith, past, le, first.0)))
          (⊎_elim
          (λ (p : (e.0 < count) × (bound ≤ e.0) × (outcome e.0 ≢ Nothing) × (outcome e.0 ≡ Found → holds w e.0)).
          ⊎_elim (λ (lt : e.0 < d). absurd (p.2 (first.2 e.0 lt)))
          (λ (same : e.0 ≡ d). subst (λ (n : ℕ). (bound ≤ n) × (outcome n ≡ Found → holds w n)) same (p.1, p.3))
          (below_or_last d e.0 (omega (arith, le))))
          (λ (t : (t : ℕ) × (t < e.0) × (t < count) × (outcome t ≢ Nothing)). absurd (t.3 (first.2 t.0 (omega (arith, t.1, le))))))
          e.2

      go : Dec (e.0 ≤ d) → (bound ≤ d) × (outcome d ≡ Found → holds w d)
      go (yes le) = here le
      go (no gt) = absurd (first.1 (e.1 d (omega (arith, gt)) first.0 (let z : d % stride ≡ 0 + d % stride = omega arith in z)))

  pub settled : (ws : List W) (best : Option Best) → 0 < stride → length ws ≡ stride → IsFound outcome count best → EachEnded outcome count stride (least count best) holds 0 ws → Answered outcome count stride holds ws best
  settled ws best pos len found each = go (first_below outcome count) best found each
    where
      go : (((t : ℕ) → t < count → outcome t ≡ Nothing) ⊎ ((d : ℕ) × IsFirst outcome count d)) → (b : Option Best) → IsFound outcome count b → EachEnded outcome count stride (least count b) holds 0 ws → Answered outcome count stride holds ws b
      go (inl none) None f e = none
      go (inl none) (Some b) f e = absurd (spent_decisive outcome b.tree b.spent f.1 (none b.tree f.0))
      go (inr d) None f e =
          let r = each_at count 0 (d.0 % stride) ws (let m = mod-lt d.0 pos in omega (arith, m, len)) e in
          absurd (let p = at_first count d.0 r.0 d.1 r.2 in omega (arith, p.0, d.1.0))
      go (inr d) (Some b) f e =
          let r = each_at b.tree 0 (d.0 % stride) ws (let m = mod-lt d.0 pos in omega (arith, m, len)) e in
          let p = at_first b.tree d.0 r.0 d.1 r.2 in
          let same : b.tree ≡ d.0 = ⊎_elim (λ (lt : b.tree < d.0). absurd (spent_decisive outcome b.tree b.spent f.1 (d.1.2 b.tree lt))) (λ (e : b.tree ≡ d.0). e) (below_or_last d.0 b.tree (omega (arith, p.0))) in (
            subst (IsFirst outcome count) (sym same) d.1,
            f.1,
            λ unspent.
                let h : holds r.0 d.0 = p.1 (ap outcome (sym same) ∙ spent_found outcome b.tree b.spent f.1 unspent) in
                subst (λ (o : Option W). IsSomeAnd o (λ w. holds w b.tree)) (sym (ap (λ (t : ℕ). slice_get ws (t % stride)) same ∙ r.1)) (subst (λ (t : ℕ). holds r.0 t) (sym same) h),
          )

  -- the word is the tree that was published last
  pub last_word : (ws : List W) (best : Option Best) (word : ℕ) → Answered outcome count stride holds ws best → IsFound outcome count best → IsMark (level_of outcome count) word → word ≤ least count best → word ≡ least count best
  last_word ws None word a f m le = ⊎_elim (λ (e : word ≡ count). e) (λ (h : Has (decisive_below outcome count) word). let s = has_sound outcome count word h in absurd (s.1 (a word s.0))) m.1
  last_word ws (Some b) word a f m le =
      ⊎_elim (λ (e : word ≡ count). absurd (omega (arith, e, le, f.0)))
      (λ (h : Has (decisive_below outcome count) word).
      let s = has_sound outcome count word h in
      ⊎_elim (λ (lt : word < b.tree). absurd (s.1 (a.0.2 word lt))) (λ (e : word ≡ b.tree). e) (below_or_last b.tree word (omega (arith, le))))
      m.1
