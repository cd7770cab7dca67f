-- Each step keeps the rule.
use Rattle.std.proofs.Common.{◌≡◌, ◌≢◌, ℕ, ◌≤◌, List, [], ◌∷◌, ◌++◌, set, true, true≢false, refl, sym, ap, subst, inr, ⊎_elim, arith, min}
use Rattle.std.specs.Prelude.{slice_index}
use mathlib.Core.Option.{some, none}
use native.Mathlib.Decide.{dec_le}
use lib.ListN.{get_elem?}
use Rattle.atomic_table.specs.Table.{Me, step, keeps, Allows, Splits, Joins}
use Rattle.atomic_table.proofs.Lists.{at_set, at_snoc}
use Rattle.race_pool.specs.declared.key.Level.{Level}
use Rattle.race_pool.specs.declared.rule.View.{View}
use Rattle.race_pool.specs.Decisive.{Has}
use Rattle.race_pool.specs.Race.{newcomer, spent, joined, with_best, IsMark, Fits, Kept, looked, published}

-- what the rule says of all views
abbrev AllFit : Level → ℕ → List View → Type 0
AllFit level n views = (id : ℕ) (v : View) → get_elem? views id ≡ some v → Fits level n v

fits_set : (level : Level) (n : ℕ) (views : List View) (by : ℕ) (w : View) → AllFit level n views → Fits level n w → AllFit level n (set views by w)
fits_set level n views by w all mine id v e =
    ⊎_elim
    (λ (x : (id ≡ by) × (w ≡ v)). subst (Fits level n) x.1 mine)
    (λ (x : (id ≢ by) × (get_elem? views id ≡ some v)). all id v x.1)
    (at_set views by id w v e)

fits_snoc : (level : Level) (n : ℕ) (views : List View) (w : View) → AllFit level n views → Fits level n w → AllFit level n (views ++ w ∷ [])
fits_snoc level n views w all mine id v e = ⊎_elim (λ was. all id v was) (λ (same : w ≡ v). subst (Fits level n) same mine) (at_snoc views w v id e)

fits_lower : (level : Level) (n m : ℕ) (v : View) → m ≤ n → Fits level n v → Fits level m v
fits_lower level n m v le f live = let g = f live in (omega (arith, g.0, le), g.1)

pub looks : (level : Level) (slots id : ℕ) (me : Me (Unit {0}) View) → me.0.live ≡ true → (b : ℕ) → Allows (Kept level) slots id me 0 (λ n. n) (looked (step slots 0 0 b none) me)
looks level slots id me live b s kept len at fits =
    let n = kept.0 in
    let mine = kept.3 id me.0 at live in
    let there : slice_index s.words 0 ≡ n = ap (λ (ws : List ℕ). slice_index ws 0) kept.1 in (
      me.0,
      keeps,
      tt,
      (n, ap (λ (ws : List ℕ). set ws 0 (slice_index ws 0)) kept.1, kept.2, fits_set level n s.views id me.0 kept.3 (kept.3 id me.0 at)),
      (refl, subst (λ (x : ℕ). x ≤ me.0.best) (sym there) mine.0, subst (λ (x : ℕ). IsMark me.0.level x) (sym there) (subst (λ (l : Level). IsMark l n) (sym mine.1) kept.2)),
    )

mark_min : (level : Level) (n tree : ℕ) → IsMark level n → Has level.decisive tree → Dec (n ≤ tree) → IsMark level (min n tree)
mark_min level n tree mark has (yes le) = subst (λ (x : ℕ). IsMark level x) (sym (let e : min n tree ≡ n = omega arith in e)) mark
mark_min level n tree mark has (no lt) = subst (λ (x : ℕ). IsMark level x) (sym (let e : min n tree ≡ tree = omega arith in e)) (omega (arith, mark.0), inr has)

pub publishes : (level : Level) (slots id tree : ℕ) (me : Me (Unit {0}) View) → me.0.live ≡ true → Has me.0.level.decisive tree → Allows (Kept level) slots id me 0 (λ n. min n tree) (published (step slots 0 tree 0 none) me)
publishes level slots id tree me live has s kept len at fits =
    let n = kept.0 in
    let mine = kept.3 id me.0 at live in
    let w = with_best me.0 tree in
    let m = min n tree in
    let lower : m ≤ n = omega arith in
    let below : m ≤ min me.0.best tree = omega (arith, mine.0) in (
      w,
      keeps,
      tt,
      (
        m,
        ap (λ (ws : List ℕ). set ws 0 (min (slice_index ws 0) tree)) kept.1,
        mark_min level n tree kept.2 (subst (λ (l : Level). Has l.decisive tree) mine.1 has) (dec_le n tree),
        fits_set level m s.views id w (λ j v e. fits_lower level n m v lower (kept.3 j v e)) (λ _. (below, mine.1)),
      ),
      refl,
    )

pub splits : (level : Level) (id : ℕ) (v : View) → v.live ≡ true → Splits (Kept level) id v v (newcomer v.level)
splits level id v live s kept at =
    let n = kept.0 in
    let mine = kept.3 id v at live in
    (n, kept.1, kept.2, fits_snoc level n (set s.views id v) (newcomer v.level) (fits_set level n s.views id v kept.3 (kept.3 id v at)) (λ _. (subst (λ (l : Level). n ≤ l.count) (sym mine.1) kept.2.0, mine.1)))

pub joins : (level : Level) (id : ℕ) (v : View) (other : ℕ) (w : View) → v.live ≡ true → w.live ≡ true → Joins (Kept level) id v other w (joined v w) spent
joins level id v other w live live' s kept at apart there =
    let n = kept.0 in
    let mine = kept.3 id v at live in
    let both = joined v w in
    let theirs = ⊎_elim (λ (t : (other ≡ id) × (both ≡ w)). absurd (apart t.0)) (λ (t : (other ≢ id) × (get_elem? s.views other ≡ some w)). kept.3 other w t.1 live') (at_set s.views id other both w there) in
    let below : n ≤ min v.best w.best = omega (arith, mine.0, theirs.0) in
    (n, kept.1, kept.2, fits_set level n (set s.views id both) other spent (fits_set level n s.views id both kept.3 (λ _. (below, mine.1))) (λ l. absurd (true≢false (sym l))))
