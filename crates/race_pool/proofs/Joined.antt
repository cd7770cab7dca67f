-- Two halves of the workers make the whole.
use Rattle.std.proofs.Common.{◌≡◌, ◌≢◌, ◌⊎◌, ℕ, zero, suc, ◌+◌, ◌<◌, ◌≤◌, min, List, [], ◌∷◌, ◌++◌, length, Option, Some, None, sym, subst, inl, inr, ⊎_elim, arith, length-append}
use Rattle.std.proofs.lemmas.List.Elements.{All-append}
use Rattle.atomic_table.specs.Seated.{TableId}
use Rattle.atomic_table.specs.declared.shared.Seat.{Seat}
use Rattle.race_pool.specs.declared.forest.Outcome.{Outcome}
use Rattle.race_pool.specs.declared.forest.Outcome.TheVariants.{Found, Nothing}
use Rattle.race_pool.specs.declared.key.Level.{Level}
use Rattle.race_pool.specs.declared.rule.View.{View}
use Rattle.race_pool.specs.declared.best.Best.{Best}
use Rattle.race_pool.specs.Seats.{IsSeated}
use Rattle.race_pool.specs.Ended.{least, IsFound, Ended, EachEnded}
use Rattle.race_pool.specs.Half.{HasRun}

abbrev Chair : Type 0
Chair = Seat (Unit {0}) View

module _ {W : Type 0} (outcome : ℕ → Outcome) (count : ℕ) (holds : W → ℕ → Type 0) (stride : ℕ) where
  ended_lower : (high low k : ℕ) (w : W) → low ≤ high → Ended outcome count stride high (holds w) k → Ended outcome count stride low (holds w) k
  ended_lower high low k w le e = (
    e.0,
    e.1,
    ⊎_elim (λ past. inl past) (λ rest. inr (⊎_elim (λ (p : (e.0 < count) × (high ≤ e.0) × (outcome e.0 ≢ Nothing) × (outcome e.0 ≡ Found → holds w e.0)). inl (p.0, omega (arith, p.1, le), p.2, p.3)) (λ t. inr t) rest)) e.2,
  )

  pub each_lower : (high low k : ℕ) (ws : List W) → low ≤ high → EachEnded outcome count stride high holds k ws → EachEnded outcome count stride low holds k ws
  each_lower high low k [] le e = tt
  each_lower high low k (w ∷ ws) le e = (ended_lower high low k w le e.0, each_lower high low (suc k) ws le e.1)

  pub each_append : (bound k m : ℕ) (xs ys : List W) → length xs ≡ m → EachEnded outcome count stride bound holds k xs → EachEnded outcome count stride bound holds (k + m) ys → EachEnded outcome count stride bound holds k (xs ++ ys)
  each_append bound k m [] ys len e f = subst (λ (n : ℕ). EachEnded outcome count stride bound holds n ys) (let s : k + m ≡ k = omega (arith, len) in s) f
  each_append bound k zero (x ∷ xs) ys len e f = absurd (omega (arith, len))
  each_append bound k (suc m) (x ∷ xs) ys len e f = (e.0, each_append bound (suc k) m xs ys (omega (arith, len)) e.1 (subst (λ (n : ℕ). EachEnded outcome count stride bound holds n ys) (let s : k + suc m ≡ suc k + m = omega arith in s) f))

least_below : (outcome : ℕ → Outcome) (count : ℕ) (a : Option Best) → IsFound outcome count a → least count a ≤ count
least_below outcome count None f = omega arith
least_below outcome count (Some b) f = omega (arith, f.0)

module _ {W : Type 0} (outcome : ℕ → Outcome) (count : ℕ) (fits : W → Type 0) (holds : W → ℕ → Type 0) (table : TableId) (key : Level) (stride : ℕ) where
  pub halves : (first m n total : ℕ) (xs ys : List W) (x y z : Chair) (a b r : Option Best) → HasRun outcome count fits holds table key stride first m xs x a → HasRun outcome count fits holds table key stride (first + m) n ys y b → (r ≡ a) ⊎ (r ≡ b) → ((most : ℕ) → least most a ≤ most → least most b ≤ most → least most r ≡ min (least most a) (least most b)) → IsSeated table key z → z.me.0.best ≡ min x.me.0.best y.me.0.best → m + n ≡ total → HasRun outcome count fits holds table key stride first total (xs ++ ys) z r
  halves first m n total xs ys x y z a b r f s one is seated best sum =
      let fa : least count a ≤ count = least_below outcome count a f.4 in
      let fb : least count b ≤ count = least_below outcome count b s.4 in
      let l : least count r ≡ min (least count a) (least count b) = is count fa fb in
      let p : x.me.0.best ≤ least count a = f.3 in
      let q : y.me.0.best ≤ least count b = s.3 in
      let la : least count r ≤ least count a = omega (arith, l) in
      let lb : least count r ≤ least count b = omega (arith, l) in
      let len : length (xs ++ ys) ≡ length xs + length ys = length-append xs ys in (
        omega (arith, len, f.0, s.0, sum),
        All-append fits xs ys f.1 s.1,
        seated,
        omega (arith, best, l, p, q),
        ⊎_elim (λ (e : r ≡ a). subst (IsFound outcome count) (sym e) f.4) (λ (e : r ≡ b). subst (IsFound outcome count) (sym e) s.4) one,
        each_append outcome count holds stride (least count r) first m xs ys f.0 (each_lower outcome count holds stride (least count a) (least count r) first xs la f.5) (each_lower outcome count holds stride (least count b) (least count r) (first + m) ys lb s.5),
      )

  pub moved : (first k k' : ℕ) (xs xs' : List W) (x x' : Chair) (a : Option Best) → k ≡ k' → xs' ≡ xs → x' ≡ x → HasRun outcome count fits holds table key stride first k xs x a → HasRun outcome count fits holds table key stride first k' xs' x' a
  moved first k k' xs xs' x x' a p q r h =
      subst (λ (n : ℕ). HasRun outcome count fits holds table key stride first n xs' x' a) p
      (subst (λ (ys : List W). HasRun outcome count fits holds table key stride first k ys x' a) (sym q)
      (subst (λ (y : Chair). HasRun outcome count fits holds table key stride first k xs y a) (sym r) h))
