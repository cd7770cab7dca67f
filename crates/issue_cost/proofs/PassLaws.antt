-- Two passes of a schedule that are pushed with a break between them are issued as the definitions say.
use Rattle.std.proofs.Common.{◌≡◌, ℕ, ◌+◌, ◌≤◌, Bool, true, false, nat_lt, if◌then◌else◌, List, [], ◌∷◌, ◌++◌, length, take_all, max, reverse, Option, None, Some, IfSome, refl, ◌∙◌, ap, arith}
use Rattle.std.proofs.lemmas.List.{length_push}
use Rattle.sl_model.specs.declared.schedule.Choice.{Choice}
use Rattle.sl_model.specs.declared.schedule.Source.{Source}
use Rattle.sl_model.specs.Cycles.{Push, Issued, CostTable, issued_at, first_slot, unit_free, next_cycle, last_cycle, issue, issued, issued_from, cycle_count, push_of, timed_from, timed}
use Rattle.sl_model.specs.SecondPass.{not_before, push_again, again_from, timed_again}
use Rattle.issue_cost.specs.Timeline.{Timeline, start_from, start_of}
use Rattle.issue_cost.specs.Tallies.{NoneAfter}
use Rattle.issue_cost.specs.Passes.{with_push, with_pushes, with_break, asked_from, push_asked, asked_again, first_pass, second_pass}
use Rattle.issue_cost.proofs.IssueRule.{issued_from-push, issued_at-after, start-none, start-break, start-more}

-- a push that waits for nothing is itself
not_before-none : (start : ℕ) (p : Push) → start ≡ 0 → not_before start p ≡ p
not_before-none start p none =
    let ready : max start p.ready ≡ p.ready = omega arith in
    ap (λ n. record { width = p.width; unit = p.unit; busy = p.busy; ready = n }) ready

-- one more push is issued behind all before it
issued-with_push : (p : Push) (t : Timeline) (done : List Issued) → issued t.pushes ≡ done → issued (with_push p t).pushes ≡ issue (not_before (start_of t) p) done ∷ done
issued-with_push p t done are =
    issued_from-push [] t.pushes (not_before (start_of t) p) ∙ ap (λ all. issue (not_before (start_of t) p) all ∷ all) are

-- the choices of a first pass, behind what was issued
pub first_pass-from : (costs : CostTable) (sources : ℕ → List Source) (choices : List Choice) (done : List Issued) (rest : List Choice) (t : Timeline) → t.pass ≡ None → issued t.pushes ≡ done → (issued (with_pushes (asked_from costs sources choices done rest) t).pushes ≡ timed_from costs sources choices done rest) × ((with_pushes (asked_from costs sources choices done rest) t).pass ≡ None)
unfolding with_pushes asked_from timed_from
first_pass-from costs sources choices done [] t unbroken are = (are, unbroken)
first_pass-from costs sources choices done (c ∷ rest) t unbroken are =
    let p : Push = push_of costs (sources c.item) choices done c in
    let start : start_of t ≡ 0 = ap (start_from t.pushes) unbroken ∙ start-none t.pushes in
    let more : issued (with_push p t).pushes ≡ issue p done ∷ done =
    issued-with_push p t done are ∙ ap (λ q. issue q done ∷ done) (not_before-none (start_of t) p start) in
    first_pass-from costs sources (c ∷ choices) (issue p done ∷ done) rest (with_push p t) unbroken more

-- a break stays within the pushes
break-within : (pass : Option ℕ) (pushes : List Push) (p : Push) → IfSome pass (λ place. place ≤ length pushes) → IfSome pass (λ place. place ≤ length (pushes ++ p ∷ []))
break-within None pushes p within = tt
break-within (Some place) pushes p within = omega (arith, within, length_push pushes p)

-- the choices of a second pass, behind what was issued in it and before
pub second_pass-from : (costs : CostTable) (sources : ℕ → List Source) (first : List Choice) (before : List Issued) (choices : List Choice) (since : List Issued) (rest : List Choice) (t : Timeline) → IfSome t.pass (λ place. place ≤ length t.pushes) → start_of t ≡ cycle_count before → issued t.pushes ≡ since ++ before → issued (with_pushes (asked_again costs sources first before choices since rest) t).pushes ≡ again_from costs sources first before choices since rest ++ before
unfolding with_pushes asked_again again_from
second_pass-from costs sources first before choices since [] t within start are = are
second_pass-from costs sources first before choices since (c ∷ rest) t within start are =
    let p : Push = push_asked costs (sources c.item) first before choices since c in
    let i : Issued = issue (push_again costs (sources c.item) first before choices since c) (since ++ before) in
    let more : issued (with_push p t).pushes ≡ (i ∷ since) ++ before =
    issued-with_push p t (since ++ before) are ∙ ap (λ n. issue (not_before n p) (since ++ before) ∷ (since ++ before)) start in
    let same : start_of (with_push p t) ≡ cycle_count before = start-more t.pushes (not_before (start_of t) p) t.pass within ∙ start in
    second_pass-from costs sources first before (c ∷ choices) (i ∷ since) rest (with_push p t) (break-within t.pass t.pushes (not_before (start_of t) p) within) same more

-- a schedule pushed, a break, and the schedule pushed again: the second pass stands behind the first
pub second_pass-issued : (costs : CostTable) (sources : ℕ → List Source) (schedule : List Choice) (room : ℕ) → issued (with_pushes (second_pass costs sources schedule) (with_break (with_pushes (first_pass costs sources schedule) (record { pushes = []; room = room; pass = None })))).pushes ≡ timed_again costs sources schedule ++ timed costs sources schedule
unfolding issued_from
second_pass-issued costs sources schedule room =
    let once : Timeline = with_pushes (first_pass costs sources schedule) (record { pushes = []; room = room; pass = None }) in
    let before : List Issued = timed costs sources schedule in
    let are : issued once.pushes ≡ before = (first_pass-from costs sources [] [] schedule (record { pushes = []; room = room; pass = None }) refl refl).0 in
    let start : start_of (with_break once) ≡ cycle_count before =
    start-break (length once.pushes) once.pushes
    ∙ ap (λ pushes. cycle_count (issued pushes)) (take_all (length once.pushes) once.pushes (omega arith))
    ∙ ap cycle_count are in
    second_pass-from costs sources (reverse schedule) before [] [] schedule (with_break once) (omega arith) start are

plus_none : (n : ℕ) → n + 0 ≡ n
plus_none n = omega arith

here_or_next : (b : Bool) (n : ℕ) → (if b then n else n + 1) ≤ n + 1
here_or_next true n = omega arith
here_or_next false n = omega arith

-- the first slot isn't later than the cycle after the last item
first_slot-count : (width : ℕ) (done : List Issued) → first_slot width done ≤ cycle_count done
unfolding first_slot
first_slot-count width [] = omega arith
first_slot-count width (i ∷ done) = here_or_next (nat_lt (issued_at i.cycle (i ∷ done)) width) i.cycle

-- how many were issued at a cycle, in one part and in another
issued_at-append : (cycle : ℕ) (since before : List Issued) → issued_at cycle (since ++ before) ≡ issued_at cycle since + issued_at cycle before
unfolding issued_at
issued_at-append cycle [] before = omega arith
issued_at-append cycle (i ∷ since) before =
    let rest : issued_at cycle (since ++ before) ≡ issued_at cycle since + issued_at cycle before = issued_at-append cycle since before in
    omega arith

-- no item of the first pass stands at a cycle of the second one
none_before : (cycle : ℕ) (before : List Issued) → NoneAfter (last_cycle before) before → cycle_count before ≤ cycle → issued_at cycle before ≡ 0
unfolding issued_at
none_before cycle [] none from = refl
none_before cycle (i ∷ before) none from = issued_at-after cycle i.cycle (i ∷ before) none (omega (arith, from))

-- the slots of the second pass are its own
pub slots_anew : (width : ℕ) (i : Issued) (since before : List Issued) → NoneAfter (last_cycle before) before → cycle_count before ≤ i.cycle → first_slot width (i ∷ since ++ before) ≡ first_slot width (i ∷ since)
unfolding first_slot
slots_anew width i since before none from =
    let mine : issued_at i.cycle (i ∷ since ++ before) ≡ issued_at i.cycle (i ∷ since) =
    issued_at-append i.cycle (i ∷ since) before
    ∙ ap (λ n. issued_at i.cycle (i ∷ since) + n) (none_before i.cycle before none from)
    ∙ plus_none (issued_at i.cycle (i ∷ since)) in
    ap (λ n. if nat_lt n width then i.cycle else i.cycle + 1) mine

-- and its first item finds a slot at its start
pub slots_at_start : (width unit ready : ℕ) (before : List Issued) → next_cycle width unit (max (cycle_count before) ready) before ≡ max (cycle_count before) (max ready (unit_free unit before))
unfolding next_cycle
slots_at_start width unit ready before =
    let slot : first_slot width before ≤ cycle_count before = first_slot-count width before in
    omega arith
