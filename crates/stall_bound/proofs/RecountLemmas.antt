-- Choices, issued one behind the other: what a recount keeps of them.
use Rattle.std.proofs.Common.{◌≡◌, ◌≢◌, ℕ, suc, ◌+◌, ◌*◌, ◌<◌, ◌≤◌, Bool, true, false, ◌||◌, eqb, max, if◌then◌else◌, List, [], ◌∷◌, length, set, get_or, replicate, Option, None, Some, is_some, unwrap_or, IfSome, refl, sym, ap, ap₂, ◌∙◌, subst, ⊎_elim, arith}
use Rattle.std.proofs.lemmas.Bool.{cases_Bool, eqb-true, eqb-false, cond-false, or_parts}
use Rattle.std.proofs.lemmas.List.{length-set, length-replicate, get_or-replicate, get_or-set_same, get_or-set_other}
use Rattle.sl_model.specs.declared.schedule.Choice.{Choice}
use Rattle.sl_model.specs.declared.schedule.Source.{Source}
use Rattle.sl_model.specs.declared.limits.TheConstants.{ITEMS}
use Rattle.sl_model.specs.Body.{is_placed}
use Rattle.sl_model.specs.Cycles.{Issued, last_cycle, issued_at, next_cycle, ready_at, ready_from, cycle_of, row_of}
use Rattle.sl_model.specs.Legal.{Problem, sources_in}
use Rattle.search_space.specs.Bound.{issued_for, known_at, known_from}
use Rattle.issue_cost.specs.declared.tally.Tally.{Tally}
use Rattle.issue_cost.specs.Tallies.{Tallies}
use Rattle.issue_cost.specs.Timeline.{IsFreeBy}
use Rattle.issue_cost.proofs.ForCallers.{IsFreeBy-weaken, IsFreeBy-taken, issued_at-length, next_cycle-within}
use Rattle.stall_bound.specs.declared.recount.Recount.{Recount}
use Rattle.stall_bound.specs.Recounts.{placed_at, Recounts}

-- ---- what was issued

-- as much as was chosen
pub length-issued : (problem : Problem) (done : List Choice) → length (issued_for problem done) ≡ length done
unfolding issued_for
length-issued problem [] = refl
length-issued problem (c ∷ done) = ap suc (length-issued problem done)

-- the last cycle isn't later than when all is over
pub last-within : (limit : ℕ) (done : List Issued) → IsFreeBy limit done → last_cycle done ≤ limit
last-within limit [] by = omega arith
last-within limit (i ∷ done) by = let last : i.cycle + 1 ≤ limit = by.0 in omega arith

-- nor is the cycle of an item
cycle_of-within : (limit item : ℕ) (choices : List Choice) (done : List Issued) → IsFreeBy limit done → cycle_of item choices done ≤ limit
unfolding cycle_of
cycle_of-within limit item [] done by = omega arith
cycle_of-within limit item (c ∷ choices) [] by = omega arith
cycle_of-within limit item (c ∷ choices) (i ∷ done) by =
    either (eqb c.item item) i.cycle (cycle_of item choices done) (let last : i.cycle + 1 ≤ limit = by.0 in omega arith) (cycle_of-within limit item choices done by.2)
  where
    either : (b : Bool) (m n : ℕ) → m ≤ limit → n ≤ limit → (if b then m else n) ≤ limit
    either true m n le le' = le
    either false m n le le' = le'

-- an item that wasn't placed counts as issued at cycle 0
cycle_of-unplaced : (item : ℕ) (choices : List Choice) (done : List Issued) → is_placed choices item ≡ false → cycle_of item choices done ≡ 0
unfolding cycle_of is_placed
cycle_of-unplaced item [] done none = refl
cycle_of-unplaced item (c ∷ choices) [] none = refl
cycle_of-unplaced item (c ∷ choices) (i ∷ done) none =
    let parts = or_parts (eqb c.item item) (is_placed choices item) none in
    cond-false (eqb c.item item) i.cycle (cycle_of item choices done) parts.0 ∙ cycle_of-unplaced item choices done parts.1

-- ---- the cycle of an item, where it was placed

-- at first no item was
pub placed_at-none : (problem : Problem) (item : ℕ) → placed_at problem [] item ≡ None
unfolding placed_at is_placed
placed_at-none problem item = refl

-- Was it placed?
pub placed_at-some : (problem : Problem) (done : List Choice) (item : ℕ) → is_some (placed_at problem done item) ≡ is_placed done item
unfolding placed_at
placed_at-some problem done item = by (is_placed done item)
  where
    by : (b : Bool) → is_some (if b then Some (cycle_of item done (issued_for problem done)) else None) ≡ b
    by true = refl
    by false = refl

-- its cycle, or 0
pub placed_at-or : (problem : Problem) (done : List Choice) (item : ℕ) → unwrap_or (placed_at problem done item) 0 ≡ cycle_of item done (issued_for problem done)
unfolding placed_at
placed_at-or problem done item = ⊎_elim
    (λ (placed : is_placed done item ≡ true). ap (λ b. unwrap_or (if b then Some (cycle_of item done (issued_for problem done)) else None) 0) placed)
    (λ (none : is_placed done item ≡ false).
    ap (λ b. unwrap_or (if b then Some (cycle_of item done (issued_for problem done)) else None) 0) none
    ∙ sym (cycle_of-unplaced item done (issued_for problem done) none))
    (cases_Bool (is_placed done item))

-- it isn't late
pub placed_at-within : (problem : Problem) (done : List Choice) (item limit : ℕ) → IsFreeBy limit (issued_for problem done) → IfSome (placed_at problem done item) (λ cycle. cycle ≤ limit)
unfolding placed_at
placed_at-within problem done item limit by = either (is_placed done item)
  where
    either : (b : Bool) → IfSome (if b then Some (cycle_of item done (issued_for problem done)) else None) (λ cycle. cycle ≤ limit)
    either true = cycle_of-within limit item done (issued_for problem done) by
    either false = tt

-- the item of the last choice has its cycle
placed_at-here : (problem : Problem) (done : List Choice) (c : Choice) (item : ℕ) (i : Issued) → issued_for problem (c ∷ done) ≡ i ∷ issued_for problem done → eqb c.item item ≡ true
    → placed_at problem (c ∷ done) item ≡ Some i.cycle
unfolding placed_at is_placed cycle_of
placed_at-here problem done c item i issued here =
    ap (λ xs. if eqb c.item item || is_placed done item then Some (cycle_of item (c ∷ done) xs) else None) issued
    ∙ ap (λ b. if b || is_placed done item then Some (if b then i.cycle else cycle_of item done (issued_for problem done)) else None) here

-- the others have theirs
placed_at-other : (problem : Problem) (done : List Choice) (c : Choice) (item : ℕ) (i : Issued) → issued_for problem (c ∷ done) ≡ i ∷ issued_for problem done → eqb c.item item ≡ false
    → placed_at problem (c ∷ done) item ≡ placed_at problem done item
unfolding placed_at is_placed cycle_of
placed_at-other problem done c item i issued other =
    ap (λ xs. if eqb c.item item || is_placed done item then Some (cycle_of item (c ∷ done) xs) else None) issued
    ∙ ap (λ b. if b || is_placed done item then Some (if b then i.cycle else cycle_of item done (issued_for problem done)) else None) other

-- the cycles with one more choice
pub cycles-more : (problem : Problem) (done : List Choice) (c : Choice) (i : Issued) (cycles next : List (Option ℕ)) → issued_for problem (c ∷ done) ≡ i ∷ issued_for problem done
    → c.item < length cycles → next ≡ set cycles c.item (Some i.cycle) → (item : ℕ) → get_or cycles item None ≡ placed_at problem done item
    → get_or next item None ≡ placed_at problem (c ∷ done) item
cycles-more problem done c i cycles next issued within stored item before = ⊎_elim
    (λ (here : eqb c.item item ≡ true).
    ap₂ (λ xs p. get_or xs p None) stored (sym (eqb-true c.item item here)) ∙ get_or-set_same cycles c.item (Some i.cycle) None within
    ∙ sym (placed_at-here problem done c item i issued here))
    (λ (other : eqb c.item item ≡ false).
    let apart : item ≢ c.item = λ (same : item ≡ c.item). eqb-false c.item item other (sym same) in
    ap (λ xs. get_or xs item None) stored ∙ get_or-set_other cycles c.item item (Some i.cycle) None apart ∙ before
    ∙ sym (placed_at-other problem done c item i issued other))
    (cases_Bool (eqb c.item item))

-- ---- the operands of an item, one after the other

pub ready-step : (problem : Problem) (done : List Choice) (item k : ℕ) (s : Source) (sources : List Source)
    → ready_from problem.costs done (issued_for problem done) item k (s ∷ sources)
    ≡ max (ready_at problem.costs done (issued_for problem done) item k s) (ready_from problem.costs done (issued_for problem done) item (k + 1) sources)
unfolding ready_from
ready-step problem done item k s sources = refl

pub ready-none : (problem : Problem) (done : List Choice) (item k : ℕ) → ready_from problem.costs done (issued_for problem done) item k [] ≡ 0
unfolding ready_from
ready-none problem done item k = refl

pub known-step : (problem : Problem) (done : List Choice) (item k : ℕ) (s : Source) (sources : List Source)
    → known_from problem done item k (s ∷ sources) ≡ max (known_at problem done item k s) (known_from problem done item (k + 1) sources)
unfolding known_from
known-step problem done item k s sources = refl

pub known-none : (problem : Problem) (done : List Choice) (item k : ℕ) → known_from problem done item k [] ≡ 0
unfolding known_from
known-none problem done item k = refl

-- ---- a recount

-- of no choice
pub recount-start : (problem : Problem) (tally : Tally) → Tallies [] tally → Recounts problem [] (record { tally = tally; placed = 0; cycles = replicate ITEMS None })
unfolding issued_for
recount-start problem tally counted = record {
  tally = counted;
  placed = refl;
  items = length-replicate {A = Option ℕ} ITEMS None;
  cycles = λ item below. get_or-replicate {A = Option ℕ} ITEMS item None None below ∙ sym (placed_at-none problem item);
  soon = tt;
}

-- how far a recount has come
pub recount-last : (problem : Problem) (done : List Choice) (recount : Recount) → Recounts problem done recount → recount.tally.cycle ≤ 512 * recount.placed
recount-last problem done recount h =
    let last : recount.tally.cycle ≡ last_cycle (issued_for problem done) = h.tally.last in
    let within : last_cycle (issued_for problem done) ≤ 512 * length done = last-within (512 * length done) (issued_for problem done) h.soon in
    let count : recount.placed ≡ length done = h.placed in
    omega arith

-- the cycle of an item is no later
pub recount-cycle : (problem : Problem) (done : List Choice) (recount : Recount) (item : ℕ) → Recounts problem done recount → item < ITEMS
    → IfSome (get_or recount.cycles item None) (λ cycle. cycle ≤ 512 * recount.placed)
recount-cycle problem done recount item h below =
    subst (λ o. IfSome o (λ cycle. cycle ≤ 512 * recount.placed)) (sym (h.cycles item below))
    (placed_at-within problem done item (512 * recount.placed) (subst (λ n. IsFreeBy (512 * n) (issued_for problem done)) (sym h.placed) h.soon))

-- how many items it counts at its last cycle
pub recount-count : (problem : Problem) (done : List Choice) (recount : Recount) → Recounts problem done recount → recount.tally.count ≤ recount.placed
recount-count problem done recount h =
    let count : recount.tally.count ≡ issued_at recount.tally.cycle (issued_for problem done) = h.tally.count in
    let few : issued_at recount.tally.cycle (issued_for problem done) ≤ length (issued_for problem done) = issued_at-length recount.tally.cycle (issued_for problem done) in
    let len : length (issued_for problem done) ≡ length done = length-issued problem done in
    let placed : recount.placed ≡ length done = h.placed in
    omega arith

-- the next cycle is soon
pub recount-next : (problem : Problem) (done : List Choice) (recount : Recount) (width unit ready : ℕ) → Recounts problem done recount → ready ≤ 512 * recount.placed + 255
    → next_cycle width unit ready (issued_for problem done) ≤ 512 * recount.placed + 255
recount-next problem done recount width unit ready h soon =
    let placed : recount.placed ≡ length done = h.placed in
    next_cycle-within width unit ready (512 * recount.placed + 255) (issued_for problem done)
    (IsFreeBy-weaken (512 * length done) (512 * recount.placed + 255) (issued_for problem done) (omega arith) h.soon) soon

-- what is issued for one more choice
issued-is : (problem : Problem) (done : List Choice) (c : Choice) (ready cycle busy : ℕ) → ready ≡ ready_from problem.costs done (issued_for problem done) c.item 0 (sources_in problem c.item)
    → cycle ≡ next_cycle problem.costs.width c.unit ready (issued_for problem done) → busy ≡ (row_of problem.costs c.item).busy
    → issued_for problem (c ∷ done) ≡ record { unit = c.unit; busy = busy; cycle = cycle } ∷ issued_for problem done
unfolding issued_for
issued-is problem done c ready cycle busy at counted its =
    ap₂ (λ b n. record { unit = c.unit; busy = b; cycle = n } ∷ issued_for problem done) (sym its)
    (ap (λ r. next_cycle problem.costs.width c.unit r (issued_for problem done)) (sym at) ∙ sym counted)

-- with one more choice
pub recount-more : (problem : Problem) (done : List Choice) (recount : Recount) (c : Choice) (ready cycle busy : ℕ) (tally : Tally) (cycles : List (Option ℕ))
    → Recounts problem done recount → c.item < ITEMS
    → ready ≡ ready_from problem.costs done (issued_for problem done) c.item 0 (sources_in problem c.item)
    → cycle ≡ next_cycle problem.costs.width c.unit ready (issued_for problem done)
    → busy ≡ (row_of problem.costs c.item).busy → busy ≤ 255 → cycle ≤ 512 * recount.placed + 255
    → Tallies (record { unit = c.unit; busy = busy; cycle = cycle } ∷ issued_for problem done) tally
    → cycles ≡ set recount.cycles c.item (Some cycle)
    → Recounts problem (c ∷ done) (record { tally = tally; placed = recount.placed + 1; cycles = cycles })
recount-more problem done recount c ready cycle busy tally cycles h known at counted its brief early tallied stored =
    let i : Issued = record { unit = c.unit; busy = busy; cycle = cycle } in
    let issued : issued_for problem (c ∷ done) ≡ i ∷ issued_for problem done = issued-is problem done c ready cycle busy at counted its in
    let placed : recount.placed ≡ length done = h.placed in
    let within : c.item < length recount.cycles = subst (λ n. c.item < n) (sym h.items) known in
    record {
      tally = subst (λ xs. Tallies xs tally) (sym issued) tallied;
      placed = (let more : recount.placed + 1 ≡ suc (length done) = omega arith in more);
      items = ap length stored ∙ length-set recount.cycles c.item (Some cycle) ∙ h.items;
      cycles = λ item below. cycles-more problem done c i recount.cycles cycles issued within stored item (h.cycles item below);
      soon = subst (IsFreeBy (512 * suc (length done))) (sym issued)
          (IsFreeBy-weaken (512 * length done + 255 + 255) (512 * suc (length done)) (i ∷ issued_for problem done) (omega arith)
          (IsFreeBy-taken (512 * length done + 255) i (issued_for problem done)
          (IsFreeBy-weaken (512 * length done) (512 * length done + 255) (issued_for problem done) (omega arith) h.soon) (omega arith) brief));
    }
