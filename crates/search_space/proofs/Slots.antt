-- The slots that are filled, and those that are left.
use Rattle.std.proofs.Common.{◌≡◌, ℕ, ◌+◌, ◌-◌, ◌<◌, ◌≤◌, true, false, eqb, nat_lt, List, [], ◌∷◌, length, if◌then◌else◌, ⊎_elim, refl, sym, ap, ◌∙◌, true≢false, arith}
use Rattle.std.proofs.lemmas.Bool.{cases_Bool, ltb-true, eq-eqb, eqb-true}
use Rattle.sl_model.specs.Cycles.{Issued, first_slot, issued_at, ceil_div}
use Rattle.search_space.specs.Bound.{filled}
use Rattle.search_space.proofs.Numbers.{ceil-mono, ceil-step}

-- the first slot behind an item isn't before it
pub slot-behind : (width : ℕ) (i : Issued) (done : List Issued) → i.cycle ≤ first_slot width (i ∷ done)
unfolding first_slot
slot-behind width i done =
    ⊎_elim
    (λ (test : nat_lt (issued_at i.cycle (i ∷ done)) width ≡ true). rw test (omega arith))
    (λ (test : nat_lt (issued_at i.cycle (i ∷ done)) width ≡ false). rw test (omega arith))
    (cases_Bool (nat_lt (issued_at i.cycle (i ∷ done)) width))

-- a slot that is left in the last cycle
slot-left : (width : ℕ) (j : Issued) (done : List Issued) → first_slot width (j ∷ done) ≤ j.cycle → issued_at j.cycle (j ∷ done) < width
unfolding first_slot
slot-left width j done here =
    ⊎_elim
    (λ (test : nat_lt (issued_at j.cycle (j ∷ done)) width ≡ true). ltb-true (issued_at j.cycle (j ∷ done)) width test)
    (λ (test : nat_lt (issued_at j.cycle (j ∷ done)) width ≡ false). let past : j.cycle + 1 ≤ j.cycle = rw test at here in absurd (omega arith))
    (cases_Bool (nat_lt (issued_at j.cycle (j ∷ done)) width))

-- an item is counted at its cycle
issued_at-here : (i : Issued) (cycle : ℕ) (done : List Issued) → i.cycle ≡ cycle → issued_at cycle (i ∷ done) ≡ 1 + issued_at cycle done
unfolding issued_at
issued_at-here i cycle done here = ap (λ b. (if b then 1 else 0) + issued_at cycle done) (eq-eqb i.cycle cycle here)

-- the slots that are filled, behind one more item
pub filled-more : (width items : ℕ) (i : Issued) (done : List Issued) → 1 ≤ width → first_slot width done ≤ i.cycle → filled width items done ≤ filled width items (i ∷ done)
unfolding filled
filled-more width items i [] some slot =
    let used : issued_at i.cycle (i ∷ []) ≡ 1 + issued_at i.cycle [] = issued_at-here i i.cycle [] refl in
    let step : ceil_div items width ≤ 1 + ceil_div (items - width) width = ceil-step width items some in
    let less : ceil_div (items - width) width ≤ ceil_div (items - 1 - (width - issued_at i.cycle (i ∷ []))) width = ceil-mono width _ _ some (omega arith) in
    omega arith
filled-more width items i (j ∷ done) some slot = ⊎_elim
    (λ (same : eqb i.cycle j.cycle ≡ true).
    let here : i.cycle ≡ j.cycle = eqb-true i.cycle j.cycle same in
    let left : issued_at j.cycle (j ∷ done) < width = slot-left width j done (omega arith) in
    let used : issued_at j.cycle (i ∷ j ∷ done) ≡ 1 + issued_at j.cycle (j ∷ done) = issued_at-here i j.cycle (j ∷ done) here in
    let used_here : issued_at i.cycle (i ∷ j ∷ done) ≡ issued_at j.cycle (i ∷ j ∷ done) = ap (λ c. issued_at c (i ∷ j ∷ done)) here in
    let rest : ceil_div (items - length (j ∷ done) - (width - issued_at j.cycle (j ∷ done))) width ≤ ceil_div (items - length (i ∷ j ∷ done) - (width - issued_at i.cycle (i ∷ j ∷ done))) width
    = ceil-mono width _ _ some (omega arith) in
    omega arith)
    (λ (other : eqb i.cycle j.cycle ≡ false).
    let ne : i.cycle ≡ j.cycle → ⊥ = λ (e : i.cycle ≡ j.cycle). true≢false (sym (eq-eqb i.cycle j.cycle e) ∙ other) in
    let behind : j.cycle ≤ first_slot width (j ∷ done) = slot-behind width j done in
    let used : issued_at i.cycle (i ∷ j ∷ done) ≡ 1 + issued_at i.cycle (j ∷ done) = issued_at-here i i.cycle (j ∷ done) refl in
    let step : ceil_div (items - length (j ∷ done) - (width - issued_at j.cycle (j ∷ done))) width ≤ 1 + ceil_div (items - length (j ∷ done) - (width - issued_at j.cycle (j ∷ done)) - width) width = ceil-step width _ some in
    let less : ceil_div (items - length (j ∷ done) - (width - issued_at j.cycle (j ∷ done)) - width) width ≤ ceil_div (items - length (i ∷ j ∷ done) - (width - issued_at i.cycle (i ∷ j ∷ done))) width
    = ceil-mono width _ _ some (omega arith) in
    omega arith)
    (cases_Bool (eqb i.cycle j.cycle))

-- a list of items takes at least one cycle more than the last one's
pub filled-last : (width items : ℕ) (i : Issued) (done : List Issued) → i.cycle + 1 ≤ filled width items (i ∷ done)
unfolding filled
filled-last width items i done = omega arith
