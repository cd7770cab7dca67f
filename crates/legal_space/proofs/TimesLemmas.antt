-- A schedule issued choice by choice: when operands are ready, the latest cycle of each item, and one more choice.
use Rattle.std.proofs.Common.{◌≡◌, ◌≢◌, ℕ, ◌+◌, ◌*◌, ◌<◌, ◌≤◌, true, false, eqb, List, [], ◌∷◌, length, take, drop, reverse, replicate, set, get_or, None, max, nat_lt, EachIndex, sym, ◌∙◌, ap, ap₂, subst, ⊎_elim, arith}
use Rattle.std.proofs.lemmas.Bool.{cases_Bool, eqb-true, eqb-false, ltb-true}
use Rattle.std.proofs.lemmas.List.{drop_all, drop_more, length-set, length-replicate, get_or-set_same, get_or-set_other, get_or-replicate}
use Rattle.std.specs.List.{list_all}
use Rattle.std.proofs.lemmas.List.Folds.{list_all_at}
use Rattle.sl_model.specs.declared.schedule.Choice.{Choice}
use Rattle.sl_model.specs.declared.schedule.Source.{Source}
use Rattle.sl_model.specs.Cycles.{CostTable, Issued, timed_from, cycle_of, row_of, ready_at, ready_from, next_cycle}
use Rattle.issue_cost.specs.Timeline.{Timeline, start_from, start_of}
use Rattle.issue_cost.proofs.ForCallers.{start-none}
use Rattle.legal_space.specs.Timed.{HasCycles}
use Rattle.sl_laws.proofs.Elements.{reverse_take-more}

-- what one operand waits for and what those behind it wait for, taken one after the other
max-swap : (now ready rest : ℕ) → max (max now ready) rest ≡ max ready (max now rest)
max-swap now ready rest = omega arith

ready-first : (costs : CostTable) (choices : List Choice) (done : List Issued) (item operand now ready total : ℕ) (first : Source) (sources : List Source) → now ≡ ready_at costs choices done item operand first → max ready (ready_from costs choices done item operand (first ∷ sources)) ≡ total → max (max now ready) (ready_from costs choices done item (operand + 1) sources) ≡ total
unfolding ready_from
ready-first costs choices done item operand now ready total first sources at before =
    max-swap now ready (ready_from costs choices done item (operand + 1) sources)
    ∙ ap (λ n. max ready (max n (ready_from costs choices done item (operand + 1) sources))) at
    ∙ before

-- past an operand what it waits for is counted
pub ready-more : (costs : CostTable) (choices : List Choice) (done : List Issued) (item operand now ready next total : ℕ) (sources : List Source) (d : Source) → operand < length sources → now ≡ ready_at costs choices done item operand (get_or sources operand d) → next ≡ max now ready → max ready (ready_from costs choices done item operand (drop operand sources)) ≡ total → max next (ready_from costs choices done item (operand + 1) (drop (operand + 1) sources)) ≡ total
ready-more costs choices done item operand now ready next total sources d within at greatest before =
    ap (λ n. max n (ready_from costs choices done item (operand + 1) (drop (operand + 1) sources))) greatest
    ∙ ready-first costs choices done item operand now ready total (get_or sources operand d) (drop (operand + 1) sources) at
    (subst (λ rest. max ready (ready_from costs choices done item operand rest) ≡ total) (drop_more sources operand d within) before)

-- where no operand is left, all is counted
pub ready-done : (costs : CostTable) (choices : List Choice) (done : List Issued) (item operand ready total : ℕ) (sources : List Source) → length sources ≤ operand → max ready (ready_from costs choices done item operand (drop operand sources)) ≡ total → ready ≡ total
unfolding ready_from
ready-done costs choices done item operand ready total sources past so_far =
    let none : max ready (ready_from costs choices done item operand []) ≡ total = subst (λ rest. max ready (ready_from costs choices done item operand rest) ≡ total) (drop_all operand sources past) so_far in
    omega arith

-- before the first choice each item counts as of cycle 0
pub has_cycles-none : (n : ℕ) (cycles : List ℕ) → cycles ≡ replicate n 0 → HasCycles cycles [] []
unfolding cycle_of
has_cycles-none n cycles are = λ q within.
    let len : length cycles ≡ n = ap length are ∙ length-replicate n 0 in
    let inside : q < n = omega arith in
    sym (ap (λ cs. get_or cs q 0) are ∙ get_or-replicate n q 0 0 inside)

pub early-none : (n : ℕ) (cycles : List ℕ) → cycles ≡ replicate n 0 → EachIndex cycles (λ q. get_or cycles q 0 ≤ 512 * 0)
early-none n cycles are = λ q within.
    let len : length cycles ≡ n = ap length are ∙ length-replicate n 0 in
    let inside : q < n = omega arith in
    let zero_there : get_or cycles q 0 ≡ 0 = ap (λ cs. get_or cs q 0) are ∙ get_or-replicate n q 0 0 inside in
    omega arith

-- with one more choice its item has its cycle, and the others theirs
pub has_cycles-more : (cycles next : List ℕ) (choices : List Choice) (done : List Issued) (c : Choice) (i : Issued) → HasCycles cycles choices done → c.item < length cycles → next ≡ set cycles c.item i.cycle → HasCycles next (c ∷ choices) (i ∷ done)
unfolding cycle_of
has_cycles-more cycles next choices done c i has within stored = λ q inside.
    let before : q < length cycles = omega (arith, ap length stored, length-set cycles c.item i.cycle) in
    ⊎_elim
    (λ (test : eqb c.item q ≡ true).
    let there : get_or next q 0 ≡ i.cycle = ap₂ (λ cs n. get_or cs n 0) stored (sym (eqb-true c.item q test)) ∙ get_or-set_same cycles c.item i.cycle 0 within in
    rw test (sym there))
    (λ (test : eqb c.item q ≡ false).
    let other : q ≢ c.item = λ (same : q ≡ c.item). eqb-false c.item q test (sym same) in
    let kept : get_or next q 0 ≡ get_or cycles q 0 = ap (λ cs. get_or cs q 0) stored ∙ get_or-set_other cycles c.item q i.cycle 0 other in
    rw test (has q before ∙ sym kept))
    (cases_Bool (eqb c.item q))

-- the cycles stay early
pub early-more : (cycles next : List ℕ) (item cycle k : ℕ) → EachIndex cycles (λ q. get_or cycles q 0 ≤ 512 * k) → item < length cycles → cycle ≤ 512 * k + 255 → next ≡ set cycles item cycle → EachIndex next (λ q. get_or next q 0 ≤ 512 * (k + 1))
early-more cycles next item cycle k early within soon stored = λ q inside.
    let before : q < length cycles = omega (arith, ap length stored, length-set cycles item cycle) in
    ⊎_elim
    (λ (test : eqb item q ≡ true).
    let there : get_or next q 0 ≡ cycle = ap₂ (λ cs n. get_or cs n 0) stored (sym (eqb-true item q test)) ∙ get_or-set_same cycles item cycle 0 within in
    omega arith)
    (λ (test : eqb item q ≡ false).
    let other : q ≢ item = λ (same : q ≡ item). eqb-false item q test (sym same) in
    let kept : get_or next q 0 ≡ get_or cycles q 0 = ap (λ cs. get_or cs q 0) stored ∙ get_or-set_other cycles item q cycle 0 other in
    let at_first : get_or cycles q 0 ≤ 512 * k = early q before in
    omega arith)
    (cases_Bool (eqb item q))

-- what is issued for a choice whose operands are ready at a cycle
abbrev pub next_issued : CostTable → Choice → ℕ → Issued
next_issued costs c cycle = record { unit = c.unit; busy = (row_of costs c.item).busy; cycle = cycle }

-- where no break was made, operands are waited for alone
pub ready-unbroken : (t : Timeline) (ready : ℕ) → t.pass ≡ None → max (start_of t) ready ≡ ready
ready-unbroken t ready unbroken =
    let start : start_of t ≡ 0 = ap (start_from t.pushes) unbroken ∙ start-none t.pushes in
    omega arith

timed-first : (costs : CostTable) (sources : ℕ → List Source) (choices : List Choice) (done : List Issued) (rest : List Choice) (c : Choice) (ready cycle : ℕ) → ready ≡ ready_from costs choices done c.item 0 (sources c.item) → cycle ≡ next_cycle costs.width c.unit ready done → timed_from costs sources (c ∷ choices) (next_issued costs c cycle ∷ done) rest ≡ timed_from costs sources choices done (c ∷ rest)
unfolding timed_from
timed-first costs sources choices done rest c ready cycle at counted =
    ap (λ n. timed_from costs sources (c ∷ choices) (next_issued costs c n ∷ done) rest) (counted ∙ ap (λ r. next_cycle costs.width c.unit r done) at)

-- past a choice the rest of the schedule is issued behind it
pub timed-more : (costs : CostTable) (sources : ℕ → List Source) (schedule : List Choice) (done more : List Issued) (k ready cycle : ℕ) (d : Choice) → k < length schedule → ready ≡ ready_from costs (reverse (take k schedule)) done (get_or schedule k d).item 0 (sources (get_or schedule k d).item) → cycle ≡ next_cycle costs.width (get_or schedule k d).unit ready done → more ≡ next_issued costs (get_or schedule k d) cycle ∷ done
    → timed_from costs sources (reverse (take (k + 1) schedule)) more (drop (k + 1) schedule) ≡ timed_from costs sources (reverse (take k schedule)) done (drop k schedule)
timed-more costs sources schedule done more k ready cycle d within at counted issued =
    ap₂ (λ choices issued. timed_from costs sources choices issued (drop (k + 1) schedule)) (reverse_take-more schedule k d within) issued
    ∙ timed-first costs sources (reverse (take k schedule)) done (drop (k + 1) schedule) (get_or schedule k d) ready cycle at counted
    ∙ ap (λ rest. timed_from costs sources (reverse (take k schedule)) done rest) (sym (drop_more schedule k d within))

-- where no choice is left, all are issued
pub timed-done : (costs : CostTable) (sources : ℕ → List Source) (schedule : List Choice) (done all : List Issued) (k : ℕ) → length schedule ≤ k → timed_from costs sources (reverse (take k schedule)) done (drop k schedule) ≡ all → done ≡ all
unfolding timed_from
timed-done costs sources schedule done all k past so_far =
    ap (λ rest. timed_from costs sources (reverse (take k schedule)) done rest) (sym (drop_all k schedule past)) ∙ so_far

-- the item of a choice is one of so many, where those of all choices are
pub item-known : (items : ℕ) (schedule : List Choice) (k : ℕ) (d : Choice) → list_all (λ c. nat_lt c.item items) schedule ≡ true → k < length schedule → (get_or schedule k d).item < items
item-known items schedule k d known within =
    ⊎_elim
    (λ (test : nat_lt (get_or schedule k d).item items ≡ true). ltb-true (get_or schedule k d).item items test)
    (λ (test : nat_lt (get_or schedule k d).item items ≡ false).
    let unknown : list_all (λ c. nat_lt c.item items) schedule ≡ false = list_all_at (λ c. nat_lt c.item items) schedule k d within test in
    cc)
    (cases_Bool (nat_lt (get_or schedule k d).item items))
