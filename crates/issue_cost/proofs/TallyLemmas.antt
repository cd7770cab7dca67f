-- A tally kept with each item gives the next cycle.
use Rattle.std.proofs.Common.{◌≡◌, ◌≢◌, ℕ, ◌+◌, ◌<◌, ◌≤◌, true, false, nat_lt, eqb, List, [], ◌∷◌, length, set, get_or, refl, sym, ◌∙◌, ap, subst, ⊎_elim, length-set, arith}
use Rattle.std.proofs.lemmas.Bool.{cases_Bool, eq-eqb, eqb-true, eqb-false, lt-ltb, le-ltb}
use Rattle.std.proofs.lemmas.List.{get_or-set_same, get_or-set_other}
use Rattle.sl_model.specs.Cycles.{Issued, issued_at, first_slot, unit_free}
use Rattle.issue_cost.specs.declared.tally.Tally.{Tally}
use Rattle.issue_cost.specs.Tallies.{Tallies}
use Rattle.issue_cost.proofs.IssueRule.{NoneAfter-weaken, issued_at-after}

-- how many items a tally counts at the last cycle
count_at_last : (i : Issued) (done : List Issued) (t : Tally) → Tallies (i ∷ done) t → issued_at i.cycle (i ∷ done) ≡ t.count
count_at_last i done t h = sym (h.count ∙ ap (λ cycle. issued_at cycle (i ∷ done)) h.last)

-- the first slot is at the last cycle where fewer items than the width stand there
pub first_slot-here : (width : ℕ) (done : List Issued) (t : Tally) → Tallies done t → t.count < width → t.cycle ≡ first_slot width done
unfolding first_slot
first_slot-here width [] t h room = h.last
first_slot-here width (i ∷ done) t h room =
    let count : issued_at i.cycle (i ∷ done) ≡ t.count = count_at_last i done t h in
    let test : nat_lt (issued_at i.cycle (i ∷ done)) width ≡ true = lt-ltb (issued_at i.cycle (i ∷ done)) width (omega arith) in
    rw test h.last

-- and at the next one where as many do
pub first_slot-next : (width : ℕ) (done : List Issued) (t : Tally) → 1 ≤ width → Tallies done t → width ≤ t.count → t.cycle + 1 ≡ first_slot width done
unfolding first_slot
first_slot-next width [] t some h full =
    let none : t.count ≡ 0 = h.count ∙ (unfold issued_at in refl) in
    omega arith
first_slot-next width (i ∷ done) t some h full =
    let count : issued_at i.cycle (i ∷ done) ≡ t.count = count_at_last i done t h in
    let test : nat_lt (issued_at i.cycle (i ∷ done)) width ≡ false = le-ltb (issued_at i.cycle (i ∷ done)) width (omega arith) in
    rw test (ap (λ cycle. cycle + 1) h.last)

-- a count with one more item at its cycle
count-after : (i : Issued) (done : List Issued) (t : Tally) (count : ℕ) → Tallies done t → t.cycle ≤ i.cycle → (i.cycle ≡ t.cycle → count ≡ t.count + 1) → (t.cycle < i.cycle → count ≡ 1) → count ≡ issued_at i.cycle (i ∷ done)
unfolding issued_at
count-after i done t count h in_order same later =
    let test : eqb i.cycle i.cycle ≡ true = eq-eqb i.cycle i.cycle refl in
    rw test (
    ⊎_elim
    (λ (here : eqb i.cycle t.cycle ≡ true).
    let is : i.cycle ≡ t.cycle = eqb-true i.cycle t.cycle here in
    let counted : t.count ≡ issued_at i.cycle done = h.count ∙ ap (λ cycle. issued_at cycle done) (sym is) in
    let more : count ≡ t.count + 1 = same is in
    omega arith)
    (λ (there : eqb i.cycle t.cycle ≡ false).
    let other : i.cycle ≡ t.cycle → ⊥ = eqb-false i.cycle t.cycle there in
    let is : t.cycle < i.cycle = omega arith in
    let none : issued_at i.cycle done ≡ 0 = issued_at-after i.cycle t.cycle done h.none_after is in
    let one : count ≡ 1 = later is in
    omega arith)
    (cases_Bool (eqb i.cycle t.cycle)))

-- when a unit is free with one more item
free-after : (i : Issued) (done : List Issued) (t : Tally) (unit : ℕ) → Tallies done t → unit_free i.unit done ≤ i.cycle → i.unit < 16 → unit < 16 → get_or (set t.free i.unit (i.cycle + i.busy)) unit 0 ≡ unit_free unit (i ∷ done)
unfolding unit_free
free-after i done t unit h free taken known =
    ⊎_elim
    (λ (test : eqb i.unit unit ≡ true).
    let same : i.unit ≡ unit = eqb-true i.unit unit test in
    let units : length t.free ≡ 16 = h.units in
    let free_there : unit_free unit done ≤ i.cycle = subst (λ u. unit_free u done ≤ i.cycle) same free in
    let here : get_or (set t.free i.unit (i.cycle + i.busy)) unit 0 ≡ i.cycle + i.busy = subst (λ u. get_or (set t.free i.unit (i.cycle + i.busy)) u 0 ≡ i.cycle + i.busy) same (get_or-set_same t.free i.unit (i.cycle + i.busy) 0 (omega arith)) in
    rw test (omega arith))
    (λ (test : eqb i.unit unit ≡ false).
    let other : unit ≢ i.unit = λ (same : unit ≡ i.unit). eqb-false i.unit unit test (sym same) in
    let there : get_or (set t.free i.unit (i.cycle + i.busy)) unit 0 ≡ unit_free unit done = get_or-set_other t.free i.unit unit (i.cycle + i.busy) 0 other ∙ h.free unit known in
    rw test (omega arith))
    (cases_Bool (eqb i.unit unit))

-- The tally with one more item, which isn't before the last one nor before its unit is free.
pub Tallies-after : (i : Issued) (done : List Issued) (t after : Tally) → Tallies done t → t.cycle ≤ i.cycle → unit_free i.unit done ≤ i.cycle → i.unit < 16 → after.cycle ≡ i.cycle → (i.cycle ≡ t.cycle → after.count ≡ t.count + 1) → (t.cycle < i.cycle → after.count ≡ 1) → after.free ≡ set t.free i.unit (i.cycle + i.busy) → Tallies (i ∷ done) after
Tallies-after i done t after h in_order free taken cycle same later set_free = record {
  last = cycle;
  none_after = (omega arith, NoneAfter-weaken t.cycle after.cycle done (omega arith) h.none_after);
  count = count-after i done t after.count h in_order same later ∙ ap (λ n. issued_at n (i ∷ done)) (sym cycle);
  units = ap (λ xs. length xs) set_free ∙ length-set t.free i.unit (i.cycle + i.busy) ∙ h.units;
  free = λ (unit : ℕ) (known : unit < 16). ap (λ xs. get_or xs unit 0) set_free ∙ free-after i done t unit h free taken known;
}
