-- A second pass issued choice by choice, behind the first one.
use Rattle.std.proofs.Common.{◌≡◌, ℕ, ◌+◌, ◌-◌, ◌*◌, ◌<◌, ◌≤◌, Bool, true, List, [], ◌∷◌, ◌++◌, length, map, take, take_all, drop, reverse, replicate, set, get_or, max, nat_lt, Option, None, Some, IsTrue, EachIndex, refl, sym, ◌∙◌, ap, ap₂, subst, arith}
use Rattle.std.proofs.lemmas.Bool.{and_parts, and_from}
use Rattle.std.proofs.lemmas.List.{drop_all, drop_more, length-set, length-replicate, map-append, reverse-append}
use Rattle.std.proofs.lemmas.List.Folds.{list_all-append}
use Rattle.std.specs.List.{list_all}
use Rattle.sl_model.specs.declared.register.Reg.{Reg}
use Rattle.sl_model.specs.declared.schedule.Choice.{Choice}
use Rattle.sl_model.specs.declared.schedule.Source.{Source}
use Rattle.sl_model.specs.declared.schedule.Source.TheVariants.{Item}
use Rattle.sl_model.specs.Source.{place_from, output_or}
use Rattle.sl_model.specs.Body.{chosen, held}
use Rattle.sl_model.specs.Cycles.{CostTable, Issued, issued, ready_at, next_cycle, cycle_count, cycles_of, timed}
use Rattle.sl_model.specs.SecondPass.{ready_again_at, ready_again, again_from, timed_again}
use Rattle.sl_model.specs.Legal.{Problem, sources_in}
use Rattle.issue_cost.specs.Timeline.{Timeline, start_from, start_of, IsFreeBy}
use Rattle.issue_cost.proofs.ForCallers.{IsFreeBy-weaken, next_cycle-from, start-break}
use Rattle.legal_space.specs.Timed.{HasCycles, IsPassed, is_known_source}
use Rattle.legal_space.proofs.TimesLemmas.{next_issued, has_cycles-none, has_cycles-more, early-none, early-more}
use Rattle.sl_laws.proofs.Elements.{reverse_take-more}

-- what one operand waits for and what those behind it wait for, taken one after the other
max-swap : (now ready rest : ℕ) → max (max now ready) rest ≡ max ready (max now rest)
max-swap now ready rest = omega arith

again-first : (costs : CostTable) (first : List Choice) (before : List Issued) (choices : List Choice) (since : List Issued) (item operand now ready total : ℕ) (s : Source) (sources : List Source) → now ≡ ready_again_at costs first before choices since item operand s → max ready (ready_again costs first before choices since item operand (s ∷ sources)) ≡ total → max (max now ready) (ready_again costs first before choices since item (operand + 1) sources) ≡ total
unfolding ready_again
again-first costs first before choices since item operand now ready total s sources at so_far =
    max-swap now ready (ready_again costs first before choices since item (operand + 1) sources)
    ∙ ap (λ n. max ready (max n (ready_again costs first before choices since item (operand + 1) sources))) at
    ∙ so_far

-- past an operand what it waits for is counted
pub again-more : (costs : CostTable) (first : List Choice) (before : List Issued) (choices : List Choice) (since : List Issued) (item operand now ready next total : ℕ) (sources : List Source) (d : Source) → operand < length sources → now ≡ ready_again_at costs first before choices since item operand (get_or sources operand d) → next ≡ max now ready → max ready (ready_again costs first before choices since item operand (drop operand sources)) ≡ total → max next (ready_again costs first before choices since item (operand + 1) (drop (operand + 1) sources)) ≡ total
again-more costs first before choices since item operand now ready next total sources d within at greatest so_far =
    ap (λ n. max n (ready_again costs first before choices since item (operand + 1) (drop (operand + 1) sources))) greatest
    ∙ again-first costs first before choices since item operand now ready total (get_or sources operand d) (drop (operand + 1) sources) at
    (subst (λ rest. max ready (ready_again costs first before choices since item operand rest) ≡ total) (drop_more sources operand d within) so_far)

-- where no operand is left, all is counted
pub again-done : (costs : CostTable) (first : List Choice) (before : List Issued) (choices : List Choice) (since : List Issued) (item operand ready total : ℕ) (sources : List Source) → length sources ≤ operand → max ready (ready_again costs first before choices since item operand (drop operand sources)) ≡ total → ready ≡ total
unfolding ready_again
again-done costs first before choices since item operand ready total sources past so_far =
    let none : max ready (ready_again costs first before choices since item operand []) ≡ total = subst (λ rest. max ready (ready_again costs first before choices since item operand rest) ≡ total) (drop_all operand sources past) so_far in
    omega arith

-- an output, or a source that is known, is known
output-known : (items item : ℕ) (place : Option ℕ) (s : Source) → IsTrue (nat_lt item items) → IsTrue (is_known_source items s) → IsTrue (is_known_source items (output_or item place s))
output-known items item None s known other = other
output-known items item (Some place) s known other = known

-- a register holds an entry or an output of an item that was placed
pub held-known : (items : ℕ) (done : List Choice) (r : Reg) → list_all (λ c. nat_lt c.item items) done ≡ true → IsTrue (is_known_source items (held done r))
unfolding held
held-known items [] r known = refl
held-known items (c ∷ done) r known =
    let parts : (nat_lt c.item items ≡ true) × (list_all (λ c. nat_lt c.item items) done ≡ true) = and_parts (nat_lt c.item items) (list_all (λ c. nat_lt c.item items) done) known in
    output-known items c.item (place_from 0 r (chosen c)) (held done r) parts.0 (held-known items done r parts.1)

-- what holds of each choice holds of each, the last one first
all-reverse : (test : Choice → Bool) (choices : List Choice) → list_all test choices ≡ true → list_all test (reverse choices) ≡ true
all-reverse test [] all = refl
all-reverse test (c ∷ choices) all =
    let parts : (test c ≡ true) × (list_all test choices ≡ true) = and_parts (test c) (list_all test choices) all in
    ap (list_all test) (reverse-append (c ∷ []) choices)
    ∙ list_all-append test (reverse choices) (c ∷ [])
    ∙ and_from (list_all test (reverse choices)) (list_all test (c ∷ [])) (all-reverse test choices parts.1) (and_from (test c) true parts.0 refl)

-- of a schedule of known items, whichever way it is listed
pub held-known-reverse : (items : ℕ) (schedule : List Choice) (r : Reg) (s : Source) → list_all (λ c. nat_lt c.item items) schedule ≡ true → s ≡ held (reverse schedule) r → IsTrue (is_known_source items s)
held-known-reverse items schedule r s known is =
    subst (λ v. IsTrue (is_known_source items v)) (sym is)
    (held-known items (reverse schedule) r (all-reverse (λ c. nat_lt c.item items) schedule known))

-- an output of an item of this pass is ready as in a single pass
pub again-item : (costs : CostTable) (first : List Choice) (before : List Issued) (choices : List Choice) (since : List Issued) (item operand index place : ℕ) (s : Source) → s ≡ Item index place → ready_at costs choices since item operand s ≡ ready_again_at costs first before choices since item operand s
unfolding ready_again_at
again-item costs first before choices since item operand index place s is =
    subst (λ v. ready_at costs choices since item operand v ≡ ready_again_at costs first before choices since item operand v) (sym is) refl

-- The first choices of a schedule, so many of them, were pushed once more: `since` was issued for
-- them, the last first, and these are the latest cycles, and those of all counted from the start.
pub record IsAgain (problem : Problem) (schedule : List Choice) (k : ℕ) (pushed : Timeline) (latest cycles : List ℕ) (since : List Issued) : Type 0 where
  pub are_issued : issued pushed.pushes ≡ since ++ timed problem.costs (sources_in problem) schedule
  pub whole : again_from problem.costs (sources_in problem) (reverse schedule) (timed problem.costs (sources_in problem) schedule) (reverse (take k schedule)) since (drop k schedule) ≡ timed_again problem.costs (sources_in problem) schedule
  pub told : cycles ≡ map (λ cycle. cycle - cycle_count (timed problem.costs (sources_in problem) schedule)) (cycles_of since)
  pub count : length pushed.pushes ≡ length schedule + k
  pub start : start_of pushed ≡ cycle_count (timed problem.costs (sources_in problem) schedule)
  pub late : cycle_count (timed problem.costs (sources_in problem) schedule) ≤ cycle_count (since ++ timed problem.costs (sources_in problem) schedule)
  pub items : length latest ≡ length problem.graph.items
  pub has : HasCycles latest (reverse (take k schedule)) since
  pub early : EachIndex latest (λ q. get_or latest q 0 ≤ 512 * (length schedule + k))
  pub free : IsFreeBy (512 * (length schedule + k)) (issued pushed.pushes)

-- before the second pass each item counts as of cycle 0
early-start : (n limit : ℕ) (latest : List ℕ) → latest ≡ replicate n 0 → EachIndex latest (λ q. get_or latest q 0 ≤ limit)
early-start n limit latest are = λ q within.
    let none : get_or latest q 0 ≤ 512 * 0 = early-none n latest are q within in
    omega arith

-- the second pass before its first choice
pub IsAgain-start : (problem : Problem) (schedule : List Choice) (pushed : Timeline) (first latest cycles : List ℕ) → IsPassed problem schedule pushed.pushes first → pushed.pass ≡ Some (length pushed.pushes) → latest ≡ replicate (length problem.graph.items) 0 → cycles ≡ [] → IsAgain problem schedule 0 pushed latest cycles []
unfolding again_from
IsAgain-start problem schedule pushed first latest cycles passed broken none empty =
    let count : length pushed.pushes ≡ length schedule + 0 = omega (arith, passed.count) in
    let all : take (length pushed.pushes) pushed.pushes ≡ pushed.pushes = take_all (length pushed.pushes) pushed.pushes (omega arith) in
    let same : 512 * length schedule ≡ 512 * (length schedule + 0) = omega arith in
    record {
      are_issued = passed.are_issued;
      whole = refl;
      told = empty;
      count = count;
      start = ap (start_from pushed.pushes) broken
          ∙ start-break (length pushed.pushes) pushed.pushes
          ∙ ap (λ pushes. cycle_count (issued pushes)) all
          ∙ ap cycle_count passed.are_issued;
      late = omega arith;
      items = ap length none ∙ length-replicate (length problem.graph.items) 0;
      has = has_cycles-none (length problem.graph.items) latest none;
      early = early-start (length problem.graph.items) (512 * (length schedule + 0)) latest none;
      free = subst (λ limit. IsFreeBy limit (issued pushed.pushes)) same passed.free;
    }

-- what is issued for one more choice, where its operands are ready at a cycle
again-step : (costs : CostTable) (sources : ℕ → List Source) (first : List Choice) (before : List Issued) (choices : List Choice) (since : List Issued) (c : Choice) (rest : List Choice) (ready cycle : ℕ) → ready ≡ ready_again costs first before choices since c.item 0 (sources c.item) → cycle ≡ next_cycle costs.width c.unit (max (cycle_count before) ready) (since ++ before) → again_from costs sources first before (c ∷ choices) (next_issued costs c cycle ∷ since) rest ≡ again_from costs sources first before choices since (c ∷ rest)
unfolding again_from
again-step costs sources first before choices since c rest ready cycle at counted =
    ap (λ n. again_from costs sources first before (c ∷ choices) (next_issued costs c n ∷ since) rest)
    (counted ∙ ap (λ r. next_cycle costs.width c.unit (max (cycle_count before) r) (since ++ before)) at)

-- past a choice the rest of the schedule is issued behind it
again-past : (costs : CostTable) (sources : ℕ → List Source) (before : List Issued) (schedule : List Choice) (since : List Issued) (k ready cycle : ℕ) (d : Choice) → k < length schedule → ready ≡ ready_again costs (reverse schedule) before (reverse (take k schedule)) since (get_or schedule k d).item 0 (sources (get_or schedule k d).item) → cycle ≡ next_cycle costs.width (get_or schedule k d).unit (max (cycle_count before) ready) (since ++ before)
    → again_from costs sources (reverse schedule) before (reverse (take (k + 1) schedule)) (next_issued costs (get_or schedule k d) cycle ∷ since) (drop (k + 1) schedule) ≡ again_from costs sources (reverse schedule) before (reverse (take k schedule)) since (drop k schedule)
again-past costs sources before schedule since k ready cycle d within at counted =
    ap (λ choices. again_from costs sources (reverse schedule) before choices (next_issued costs (get_or schedule k d) cycle ∷ since) (drop (k + 1) schedule)) (reverse_take-more schedule k d within)
    ∙ again-step costs sources (reverse schedule) before (reverse (take k schedule)) since (get_or schedule k d) (drop (k + 1) schedule) ready cycle at counted
    ∙ ap (λ rest. again_from costs sources (reverse schedule) before (reverse (take k schedule)) since rest) (sym (drop_more schedule k d within))

-- where no choice is left, all are issued
pub again-all : (problem : Problem) (schedule : List Choice) (k : ℕ) (pushed : Timeline) (latest cycles : List ℕ) (since : List Issued) → length schedule ≤ k → IsAgain problem schedule k pushed latest cycles since → since ≡ timed_again problem.costs (sources_in problem) schedule
unfolding again_from
again-all problem schedule k pushed latest cycles since past so_far =
    ap (λ rest. again_from problem.costs (sources_in problem) (reverse schedule) (timed problem.costs (sources_in problem) schedule) (reverse (take k schedule)) since rest) (sym (drop_all k schedule past)) ∙ so_far.whole

-- what is pushed for a choice, as far as the next step asks
pub record IsPushed (costs : CostTable) (c : Choice) (limit cycle : ℕ) (old new : Timeline) : Type 0 where
  pub counted : issued new.pushes ≡ next_issued costs c cycle ∷ issued old.pushes
  pub count : length new.pushes ≡ length old.pushes + 1
  pub start : start_of new ≡ start_of old
  pub soon : cycle ≤ limit + 255
  pub free : IsFreeBy (limit + 255 + 255) (issued new.pushes)

-- the cycle of a push isn't before the start of its pass
pub start-cycle : (width unit start ready cycle : ℕ) (done : List Issued) → cycle ≡ next_cycle width unit (max start ready) done → start ≤ cycle
start-cycle width unit start ready cycle done is =
    let from : max start ready ≤ next_cycle width unit (max start ready) done = (next_cycle-from width unit (max start ready) done).1 in
    omega arith

-- one more choice
pub IsAgain-more : (problem : Problem) (schedule : List Choice) (k : ℕ) (d : Choice) (old new : Timeline) (latest next cycles told : List ℕ) (since : List Issued) (ready cycle : ℕ) → k < length schedule → (get_or schedule k d).item < length problem.graph.items → IsAgain problem schedule k old latest cycles since
    → ready ≡ ready_again problem.costs (reverse schedule) (timed problem.costs (sources_in problem) schedule) (reverse (take k schedule)) since (get_or schedule k d).item 0 (sources_in problem (get_or schedule k d).item)
    → cycle ≡ next_cycle problem.costs.width (get_or schedule k d).unit (max (start_of old) ready) (issued old.pushes)
    → IsPushed problem.costs (get_or schedule k d) (512 * (length schedule + k)) cycle old new → next ≡ set latest (get_or schedule k d).item cycle → told ≡ cycles ++ (cycle - cycle_count (timed problem.costs (sources_in problem) schedule)) ∷ []
    → IsAgain problem schedule (k + 1) new next told (next_issued problem.costs (get_or schedule k d) cycle ∷ since)
IsAgain-more problem schedule k d old new latest next cycles told since ready cycle within known h at is pushed stored tells =
    let before : List Issued = timed problem.costs (sources_in problem) schedule in
    let choice : Choice = get_or schedule k d in
    let one : Issued = next_issued problem.costs choice cycle in
    let counted : cycle ≡ next_cycle problem.costs.width choice.unit (max (cycle_count before) ready) (since ++ before) =
    is ∙ ap₂ (λ start done. next_cycle problem.costs.width choice.unit (max start ready) done) h.start h.are_issued in
    let inside : choice.item < length latest = subst (λ n. choice.item < n) (sym h.items) known in
    let later : cycle_count before ≤ cycle = start-cycle problem.costs.width choice.unit (cycle_count before) ready cycle (since ++ before) counted in
    let further : 512 * (length schedule + k + 1) ≡ 512 * (length schedule + (k + 1)) = omega arith in
    let enough : 512 * (length schedule + k) + 255 + 255 ≤ 512 * (length schedule + (k + 1)) = omega arith in
    record {
      are_issued = pushed.counted ∙ ap (λ done. one ∷ done) h.are_issued;
      whole = again-past problem.costs (sources_in problem) before schedule since k ready cycle d within at counted ∙ h.whole;
      told = tells
          ∙ ap (λ xs. xs ++ (cycle - cycle_count before) ∷ []) h.told
          ∙ sym (map-append (λ n. n - cycle_count before) (cycles_of since) (cycle ∷ []));
      count = omega (arith, pushed.count, h.count);
      start = pushed.start ∙ h.start;
      late = omega (arith, later);
      items = ap length stored ∙ length-set latest choice.item cycle ∙ h.items;
      has = subst (λ choices. HasCycles next choices (one ∷ since)) (sym (reverse_take-more schedule k d within))
          (has_cycles-more latest next (reverse (take k schedule)) since choice one h.has inside stored);
      early = subst (λ limit. EachIndex next (λ q. get_or next q 0 ≤ limit)) further
          (early-more latest next choice.item cycle (length schedule + k) h.early inside pushed.soon stored);
      free = IsFreeBy-weaken (512 * (length schedule + k) + 255 + 255) (512 * (length schedule + (k + 1))) (issued new.pushes) enough pushed.free;
    }

-- the cycles of the second pass are counted behind those of the first
pub cycle_count-behind : (since before : List Issued) → cycle_count (since ++ before) - cycle_count before ≡ cycle_count since - cycle_count before
cycle_count-behind [] before = omega arith
cycle_count-behind (i ∷ since) before = refl

-- what is early is so by a later cycle
pub early-weaken : (cycles : List ℕ) (a b : ℕ) → a ≤ b → EachIndex cycles (λ q. get_or cycles q 0 ≤ a) → EachIndex cycles (λ q. get_or cycles q 0 ≤ b)
early-weaken cycles a b le early = λ q within.
    let there : get_or cycles q 0 ≤ a = early q within in
    omega arith
