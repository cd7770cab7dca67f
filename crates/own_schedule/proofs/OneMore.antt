-- One more choice behind a schedule whose choices were issued.
use Rattle.std.proofs.Common.{◌≡◌, ◌∙◌, ℕ, None, max, ◌+◌, ◌*◌, ◌<◌, ◌≤◌, List, [], ◌∷◌, ◌++◌, length, reverse, replicate, set, get_or, EachIndex, sym, ap, ap₂, subst, arith}
use Rattle.std.proofs.lemmas.List.{length_push, length-set, length-replicate, reverse-append}
use Rattle.sl_model.specs.declared.schedule.Choice.{Choice}
use Rattle.sl_model.specs.declared.schedule.Source.{Source}
use Rattle.sl_model.specs.Cycles.{Push, Issued, CostTable, issue, issued, issued_from, timed, timed_from, push_of, row_of, last_cycle, next_cycle, ready_from}
use Rattle.sl_model.specs.Legal.{Problem, sources_in}
use Rattle.search_space.specs.Bound.{issued_for}
use Rattle.search_space.proofs.ForCallers.{timed-is}
use Rattle.issue_cost.specs.Timeline.{Timeline, start_from, start_of, IsFreeBy}
use Rattle.issue_cost.proofs.ForCallers.{IsFreeBy-weaken, start-none}
use Rattle.legal_space.specs.Timed.{HasCycles}
use Rattle.legal_space.proofs.ForCallers.{has_cycles-none, has_cycles-more, early-none, early-more}
use Rattle.own_schedule.specs.OwnSchedule.{own_choice, cycle_on}
use Rattle.own_schedule.specs.Issuing.{IsIssued}

-- what is issued for a schedule
abbrev pub times : Problem → List Choice → List Issued
times problem schedule = timed problem.costs (sources_in problem) schedule

-- when the operands of an item are ready behind a schedule
abbrev pub ready_behind : Problem → List Choice → ℕ → ℕ
ready_behind problem schedule item =
    ready_from problem.costs (reverse schedule) (times problem schedule) item 0 (sources_in problem item)

-- they are ready so by what the items so far and their costs are
pub ready-is : (problem : Problem) (schedule : List Choice) (item ready : ℕ) (done : List Issued) (costs : CostTable) (sources : List Source) → costs ≡ problem.costs → sources ≡ sources_in problem item → done ≡ times problem schedule
    → ready ≡ ready_from costs (reverse schedule) done item 0 sources → ready ≡ ready_behind problem schedule item
ready-is problem schedule item ready done costs sources given theirs so_far at =
    at ∙ ap₂ (λ v those. ready_from v (reverse schedule) done item 0 those) given theirs
    ∙ ap (λ d. ready_from problem.costs (reverse schedule) d item 0 (sources_in problem item)) so_far

-- the last of some choices is issued behind the others
pub times-push : (problem : Problem) (schedule : List Choice) (c : Choice)
    → times problem (schedule ++ c ∷ []) ≡ issue (push_of problem.costs (sources_in problem c.item) (reverse schedule) (times problem schedule) c) (times problem schedule) ∷ times problem schedule
unfolding issued_for
times-push problem schedule c =
    timed-is problem (schedule ++ c ∷ []) ∙ ap (issued_for problem) (reverse-append schedule (c ∷ []))
    ∙ ap (λ done. issue (push_of problem.costs (sources_in problem c.item) (reverse schedule) done c) done ∷ done) (sym (timed-is problem schedule))

-- an item is issued at the next cycle
pub cycle_on-is : (problem : Problem) (schedule : List Choice) (item unit : ℕ)
    → cycle_on problem schedule item unit ≡ next_cycle problem.costs.width unit (ready_behind problem schedule item) (times problem schedule)
unfolding cycle_on
cycle_on-is problem schedule item unit = ap last_cycle (times-push problem schedule (own_choice problem item unit))

-- in the first pass nothing waits for its start
pub first-ready : (timeline : Timeline) (ready : ℕ) → timeline.pass ≡ None → max (start_of timeline) ready ≡ ready
first-ready timeline ready first =
    let none : start_of timeline ≡ 0 = ap (start_from timeline.pushes) first ∙ start-none timeline.pushes in
    omega arith

-- nothing is issued at first
pub issued-none : (problem : Problem) (timeline : Timeline) (latest : List ℕ) → timeline ≡ record { pushes = []; room = length problem.graph.items; pass = None } → latest ≡ replicate (length problem.graph.items) 0
    → IsIssued problem [] timeline latest
unfolding issued_from timed_from
issued-none problem timeline latest empty none =
    let nothing : issued timeline.pushes ≡ [] = ap (λ (t : Timeline). issued t.pushes) empty in
    record {
      first = ap (λ (t : Timeline). t.pass) empty;
      room = ap (λ (t : Timeline). t.room) empty;
      pushes = ap (λ (t : Timeline). length t.pushes) empty;
      cycles = nothing;
      items = ap length none ∙ length-replicate (length problem.graph.items) 0;
      each = subst (λ done. HasCycles latest [] done) (sym nothing) (has_cycles-none (length problem.graph.items) latest none);
      early = early-none (length problem.graph.items) latest none;
      free = subst (λ done. IsFreeBy (512 * 0) done) (sym nothing) tt;
    }

-- what is issued for a choice at a cycle
abbrev pub issued_at_cycle : CostTable → Choice → ℕ → Issued
issued_at_cycle costs c cycle = record { unit = c.unit; busy = (row_of costs c.item).busy; cycle = cycle }

-- one more choice is issued
pub issued-more : (problem : Problem) (schedule : List Choice) (c : Choice) (timeline next : Timeline) (latest later : List ℕ) (push : Push) (ready cycle : ℕ)
    → IsIssued problem schedule timeline latest → c.item < length problem.graph.items
    → ready ≡ ready_behind problem schedule c.item → cycle ≡ next_cycle problem.costs.width c.unit ready (issued timeline.pushes)
    → next ≡ record { pushes = timeline.pushes ++ push ∷ []; room = timeline.room; pass = timeline.pass }
    → issued next.pushes ≡ issued_at_cycle problem.costs c cycle ∷ issued timeline.pushes
    → cycle ≤ 512 * length schedule + 255 → IsFreeBy (512 * length schedule + 255 + 255) (issued next.pushes)
    → later ≡ set latest c.item cycle
    → IsIssued problem (schedule ++ c ∷ []) next later
issued-more problem schedule c timeline next latest later push ready cycle before known at counted pushed one_more soon free stored =
    let more : length (schedule ++ c ∷ []) ≡ length schedule + 1 = length_push schedule c in
    let inside : c.item < length latest = subst (λ n. c.item < n) (sym before.items) known in
    record {
      first = ap (λ (t : Timeline). t.pass) pushed ∙ before.first;
      room = ap (λ (t : Timeline). t.room) pushed ∙ before.room;
      pushes = ap (λ (t : Timeline). length t.pushes) pushed ∙ length_push timeline.pushes push ∙ ap (λ n. n + 1) before.pushes ∙ sym more;
      cycles = one_more
          ∙ ap₂ (λ n done. issued_at_cycle problem.costs c n ∷ done) (counted ∙ ap₂ (λ r done. next_cycle problem.costs.width c.unit r done) at before.cycles) before.cycles
          ∙ sym (times-push problem schedule c);
      items = ap length stored ∙ length-set latest c.item cycle ∙ before.items;
      each = subst (λ choices. HasCycles later choices (issued next.pushes)) (sym (reverse-append schedule (c ∷ [])))
          (subst (λ all. HasCycles later (c ∷ reverse schedule) all) (sym one_more)
          (has_cycles-more latest later (reverse schedule) (issued timeline.pushes) c (issued_at_cycle problem.costs c cycle) before.each inside stored));
      early = subst (λ n. EachIndex later (λ q. get_or later q 0 ≤ 512 * n)) (sym more) (early-more latest later c.item cycle (length schedule) before.early inside soon stored);
      free = subst (λ n. IsFreeBy (512 * n) (issued next.pushes)) (sym more) (IsFreeBy-weaken (512 * length schedule + 255 + 255) (512 * (length schedule + 1)) (issued next.pushes) (omega arith) free);
    }
