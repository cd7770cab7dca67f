-- What the issue rule gives: the next cycle meets its four conditions, no smaller cycle does, and it isn't later than
-- when all is free and ready.
use Rattle.std.proofs.Common.{◌≡◌, ℕ, suc, ◌+◌, ◌<◌, ◌≤◌, Bool, true, false, nat_lt, eqb, List, [], ◌∷◌, ◌++◌, length, take, drop, max, Option, None, Some, IfSome, if◌then◌else◌, refl, sym, ◌∙◌, ap, subst, ⊎_elim, zero-add, arith}
use Rattle.std.proofs.lemmas.Bool.{cases_Bool, ne_eqb, eq-eqb, eqb-true, eqb-false, ltb-true, ltb-false}
use Rattle.std.proofs.lemmas.List.{take-append-drop, take-append-le, length-take-le}
use Rattle.sl_model.specs.Cycles.{Push, Issued, issued_at, first_slot, unit_free, next_cycle, last_cycle, MayIssue, issue, issued_from, issued, cycle_count}
use Rattle.issue_cost.specs.Timeline.{IsFreeBy, start_from}
use Rattle.issue_cost.specs.Tallies.{NoneAfter}

-- what is at most a number is at most a greater one
pub NoneAfter-weaken : (a b : ℕ) (done : List Issued) → a ≤ b → NoneAfter a done → NoneAfter b done
NoneAfter-weaken a b [] le none = tt
NoneAfter-weaken a b (i ∷ done) le none = (omega (arith, none.0), NoneAfter-weaken a b done le none.1)

-- no item stands at a cycle after the last one
pub issued_at-after : (cycle limit : ℕ) (done : List Issued) → NoneAfter limit done → limit < cycle → issued_at cycle done ≡ 0
unfolding issued_at
issued_at-after cycle limit [] none later = refl
issued_at-after cycle limit (i ∷ done) none later =
    let earlier : i.cycle ≤ limit = none.0 in
    let test : eqb i.cycle cycle ≡ false = ne_eqb i.cycle cycle (λ (same : i.cycle ≡ cycle). omega arith) in
    rw test (zero-add (issued_at cycle done) ∙ issued_at-after cycle limit done none.1 later)

-- one more is counted, or not
one_more : (b : Bool) (m n : ℕ) → m ≤ n → (if b then 1 else 0) + m ≤ suc n
one_more true m n le = omega arith
one_more false m n le = omega arith

-- no more items stand at a cycle than there are
pub issued_at-length : (cycle : ℕ) (done : List Issued) → issued_at cycle done ≤ length done
unfolding issued_at
issued_at-length cycle [] = omega arith
issued_at-length cycle (i ∷ done) = one_more (eqb i.cycle cycle) (issued_at cycle done) (length done) (issued_at-length cycle done)

-- a cycle not before the last one has a slot where that has one, or is later
slot-here_or_later : (width cycle : ℕ) (i : Issued) (done : List Issued) → 1 ≤ width → NoneAfter i.cycle (i ∷ done) → i.cycle ≤ cycle → issued_at i.cycle (i ∷ done) < width → issued_at cycle (i ∷ done) < width
slot-here_or_later width cycle i done some none at_least here =
    ⊎_elim
    (λ (test : eqb i.cycle cycle ≡ true). subst (λ n. issued_at n (i ∷ done) < width) (eqb-true i.cycle cycle test) here)
    (λ (test : eqb i.cycle cycle ≡ false).
    let other : i.cycle ≡ cycle → ⊥ = eqb-false i.cycle cycle test in
    let later : i.cycle < cycle = omega arith in
    let zero_there : issued_at cycle (i ∷ done) ≡ 0 = issued_at-after cycle i.cycle (i ∷ done) none later in
    omega arith)
    (cases_Bool (eqb i.cycle cycle))

-- a cycle from the first slot on has a slot
pub slot-from : (width cycle : ℕ) (done : List Issued) → 1 ≤ width → NoneAfter (last_cycle done) done → first_slot width done ≤ cycle → issued_at cycle done < width
unfolding first_slot
slot-from width cycle [] some none from = unfold issued_at in some
slot-from width cycle (i ∷ done) some none from =
    ⊎_elim
    (λ (test : nat_lt (issued_at i.cycle (i ∷ done)) width ≡ true).
    let at_least : i.cycle ≤ cycle = rw test at from in
    slot-here_or_later width cycle i done some none at_least (ltb-true (issued_at i.cycle (i ∷ done)) width test))
    (λ (test : nat_lt (issued_at i.cycle (i ∷ done)) width ≡ false).
    let later : i.cycle + 1 ≤ cycle = rw test at from in
    let zero_there : issued_at cycle (i ∷ done) ≡ 0 = issued_at-after cycle i.cycle (i ∷ done) none (omega arith) in
    omega arith)
    (cases_Bool (nat_lt (issued_at i.cycle (i ∷ done)) width))

-- no cycle before the first slot has one
pub slot-least : (width cycle : ℕ) (done : List Issued) → last_cycle done ≤ cycle → issued_at cycle done < width → first_slot width done ≤ cycle
unfolding first_slot
slot-least width cycle [] in_order slot = omega arith
slot-least width cycle (i ∷ done) in_order slot =
    ⊎_elim
    (λ (test : nat_lt (issued_at i.cycle (i ∷ done)) width ≡ true). rw test in_order)
    (λ (test : nat_lt (issued_at i.cycle (i ∷ done)) width ≡ false).
    let full : width ≤ issued_at i.cycle (i ∷ done) = ltb-false (issued_at i.cycle (i ∷ done)) width test in
    let other : i.cycle ≡ cycle → ⊥ = λ (same : i.cycle ≡ cycle).
    let slot_here : issued_at i.cycle (i ∷ done) < width = subst (λ n. issued_at n (i ∷ done) < width) (sym same) slot in
    omega arith
    in
    rw test (omega arith))
    (cases_Bool (nat_lt (issued_at i.cycle (i ∷ done)) width))

-- the first slot isn't before the last item
pub last-first_slot : (width : ℕ) (done : List Issued) → last_cycle done ≤ first_slot width done
unfolding first_slot
last-first_slot width [] = omega arith
last-first_slot width (i ∷ done) =
    ⊎_elim
    (λ (test : nat_lt (issued_at i.cycle (i ∷ done)) width ≡ true). rw test (omega arith))
    (λ (test : nat_lt (issued_at i.cycle (i ∷ done)) width ≡ false). rw test (omega arith))
    (cases_Bool (nat_lt (issued_at i.cycle (i ∷ done)) width))

-- the next cycle isn't before the first slot, the operands and the unit
pub next_cycle-from : (width unit ready : ℕ) (done : List Issued) → (first_slot width done ≤ next_cycle width unit ready done) × (ready ≤ next_cycle width unit ready done) × (unit_free unit done ≤ next_cycle width unit ready done)
unfolding next_cycle
next_cycle-from width unit ready done = (omega arith, omega arith, omega arith)

-- the next cycle isn't before the last item
pub last-next_cycle : (width unit ready : ℕ) (done : List Issued) → last_cycle done ≤ next_cycle width unit ready done
last-next_cycle width unit ready done =
    omega (arith, last-first_slot width done, (next_cycle-from width unit ready done).0)

-- the next cycle meets the issue rule
pub next_cycle-may_issue : (width unit ready : ℕ) (done : List Issued) → 1 ≤ width → NoneAfter (last_cycle done) done → MayIssue width unit ready done (next_cycle width unit ready done)
next_cycle-may_issue width unit ready done some none = record {
  in_order = last-next_cycle width unit ready done;
  slot = slot-from width (next_cycle width unit ready done) done some none (next_cycle-from width unit ready done).0;
  operands_ready = (next_cycle-from width unit ready done).1;
  unit_is_free = (next_cycle-from width unit ready done).2;
}

-- no smaller cycle meets it
pub next_cycle-least : (width unit ready : ℕ) (done : List Issued) (cycle : ℕ) → MayIssue width unit ready done cycle → next_cycle width unit ready done ≤ cycle
unfolding next_cycle
next_cycle-least width unit ready done cycle may =
    let slot : first_slot width done ≤ cycle = slot-least width cycle done may.in_order may.slot in
    let operands : ready ≤ cycle = may.operands_ready in
    let free : unit_free unit done ≤ cycle = may.unit_is_free in
    omega arith

-- the first slot isn't later than when all is free
pub first_slot-within : (width limit : ℕ) (done : List Issued) → IsFreeBy limit done → first_slot width done ≤ limit
unfolding first_slot
first_slot-within width limit [] by = omega arith
first_slot-within width limit (i ∷ done) by =
    let last : i.cycle + 1 ≤ limit = by.0 in
    ⊎_elim
    (λ (test : nat_lt (issued_at i.cycle (i ∷ done)) width ≡ true). rw test (omega arith))
    (λ (test : nat_lt (issued_at i.cycle (i ∷ done)) width ≡ false). rw test (omega arith))
    (cases_Bool (nat_lt (issued_at i.cycle (i ∷ done)) width))

-- the greater of a number that may count and another is at most a bound of both
max-within : (b : Bool) (m n limit : ℕ) → m ≤ limit → n ≤ limit → max (if b then m else 0) n ≤ limit
max-within true m n limit le le' = omega arith
max-within false m n limit le le' = omega arith

-- no unit is free later than when all are
pub unit_free-within : (unit limit : ℕ) (done : List Issued) → IsFreeBy limit done → unit_free unit done ≤ limit
unfolding unit_free
unit_free-within unit limit [] by = omega arith
unit_free-within unit limit (i ∷ done) by =
    max-within (eqb i.unit unit) (i.cycle + i.busy) (unit_free unit done) limit by.1 (unit_free-within unit limit done by.2)

-- the next cycle isn't later than when all is free and ready
pub next_cycle-within : (width unit ready limit : ℕ) (done : List Issued) → IsFreeBy limit done → ready ≤ limit → next_cycle width unit ready done ≤ limit
unfolding next_cycle
next_cycle-within width unit ready limit done by operands =
    let slot : first_slot width done ≤ limit = first_slot-within width limit done by in
    let free : unit_free unit done ≤ limit = unit_free-within unit limit done by in
    omega arith

-- what is free by a cycle is free by a later one
pub IsFreeBy-weaken : (a b : ℕ) (done : List Issued) → a ≤ b → IsFreeBy a done → IsFreeBy b done
IsFreeBy-weaken a b [] le by = tt
IsFreeBy-weaken a b (i ∷ done) le by =
    let last : i.cycle + 1 ≤ a = by.0 in
    let kept : i.cycle + i.busy ≤ a = by.1 in
    (omega arith, omega arith, IsFreeBy-weaken a b done le by.2)

-- a unit that an item took when it was free is free again when the item has kept it
pub unit_free-taken : (i : Issued) (done : List Issued) → unit_free i.unit done ≤ i.cycle → unit_free i.unit (i ∷ done) ≡ i.cycle + i.busy
unfolding unit_free
unit_free-taken i done free = rw (eq-eqb i.unit i.unit refl) (omega (arith, free))

-- all is free at most 255 cycles later behind one more item
pub IsFreeBy-taken : (limit : ℕ) (i : Issued) (done : List Issued) → IsFreeBy limit done → i.cycle ≤ limit → i.busy ≤ 255 → IsFreeBy (limit + 255) (i ∷ done)
IsFreeBy-taken limit i done by soon brief = (omega (arith, soon), omega (arith, soon, brief), IsFreeBy-weaken limit (limit + 255) done (omega arith) by)

-- one more push is issued behind all before it
pub issued_from-push : (done : List Issued) (pushes : List Push) (p : Push) → issued_from done (pushes ++ p ∷ []) ≡ issue p (issued_from done pushes) ∷ issued_from done pushes
unfolding issued_from
issued_from-push done [] p = refl
issued_from-push done (q ∷ pushes) p = issued_from-push (issue q done ∷ done) pushes p

-- each push is issued
pub length-issued_from : (done : List Issued) (pushes : List Push) → length (issued_from done pushes) ≡ length done + length pushes
unfolding issued_from
length-issued_from done [] = omega arith
length-issued_from done (q ∷ pushes) = length-issued_from (issue q done ∷ done) pushes ∙ omega arith

-- one cycle more is taken than the last one
pub cycle_count-last : (done : List Issued) → 0 < length done → last_cycle done + 1 ≡ cycle_count done
cycle_count-last [] some = absurd (omega arith)
cycle_count-last (i ∷ done) some = refl

-- no cycle is taken for no item
pub cycle_count-none : (done : List Issued) → length done ≡ 0 → 0 ≡ cycle_count done
cycle_count-none [] none = refl
cycle_count-none (i ∷ done) none = absurd (omega arith)

-- pushes are issued one part behind the other
pub issued_from-append : (done : List Issued) (first rest : List Push) → issued_from done (first ++ rest) ≡ issued_from (issued_from done first) rest
unfolding issued_from
issued_from-append done [] rest = refl
issued_from-append done (p ∷ first) rest = issued_from-append (issue p done ∷ done) first rest

-- what is issued is what the first pushes give, with the others behind them
pub issued-parts : (place : ℕ) (pushes : List Push) → issued pushes ≡ issued_from (issued (take place pushes)) (drop place pushes)
issued-parts place pushes =
    ap (λ all. issued_from [] all) (sym (take-append-drop place pushes))
    ∙ issued_from-append [] (take place pushes) (drop place pushes)

-- what is free by a cycle with more pushes was free by it before them
pub IsFreeBy-before : (limit : ℕ) (done : List Issued) (pushes : List Push) → IsFreeBy limit (issued_from done pushes) → IsFreeBy limit done
unfolding issued_from
IsFreeBy-before limit done [] by = by
IsFreeBy-before limit done (p ∷ pushes) by = (IsFreeBy-before limit (issue p done ∷ done) pushes by).2

-- no more cycles are taken than until all is free
pub cycle_count-within : (limit : ℕ) (done : List Issued) → IsFreeBy limit done → cycle_count done ≤ limit
cycle_count-within limit [] by = omega arith
cycle_count-within limit (i ∷ done) by = by.0

-- nothing is waited for where there is no break
pub start-none : (pushes : List Push) → start_from pushes None ≡ 0
unfolding start_from
start-none pushes = refl

-- a second pass begins where the first one ends
pub start-break : (place : ℕ) (pushes : List Push) → start_from pushes (Some place) ≡ cycle_count (issued (take place pushes))
unfolding start_from
start-break place pushes = refl

-- a pass begins no later than when all is free
pub start-within : (limit : ℕ) (pushes : List Push) (pass : Option ℕ) → IsFreeBy limit (issued pushes) → start_from pushes pass ≤ limit
unfolding start_from
start-within limit pushes None by = omega arith
start-within limit pushes (Some place) by =
    cycle_count-within limit (issued (take place pushes))
    (IsFreeBy-before limit (issued (take place pushes)) (drop place pushes) (subst (IsFreeBy limit) (issued-parts place pushes) by))

-- one more push moves no start
pub start-more : (pushes : List Push) (p : Push) (pass : Option ℕ) → IfSome pass (λ place. place ≤ length pushes) → start_from (pushes ++ p ∷ []) pass ≡ start_from pushes pass
unfolding start_from
start-more pushes p None within = refl
start-more pushes p (Some place) within = ap (λ first. cycle_count (issued first)) (take-append-le place pushes (p ∷ []) within)

-- the first pushes take one cycle more than the last of their cycles
pub cycle_count-first : (count cycle : ℕ) (pushes : List Push) → 0 < count → count ≤ length pushes → cycle ≡ last_cycle (issued (take count pushes)) → cycle + 1 ≡ cycle_count (issued (take count pushes))
cycle_count-first count cycle pushes some within last =
    let len : length (issued (take count pushes)) ≡ 0 + length (take count pushes) = length-issued_from [] (take count pushes) in
    let first : length (take count pushes) ≡ count = length-take-le count pushes within in
    ap (λ n. n + 1) last ∙ cycle_count-last (issued (take count pushes)) (omega arith)
