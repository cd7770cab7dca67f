-- The stalls of a loop's body are those of its items and units, and of what stands in final registers.
use Rattle.std.proofs.Common.{◌≡◌, ℕ, suc, ◌+◌, ◌-◌, max, true, List, [], ◌∷◌, ◌++◌, map, length, reverse, slice_get, Some, refl, sym, ap, ◌∙◌}
use Rattle.sl_model.specs.declared.register.Reg.{Reg}
use Rattle.sl_model.specs.declared.schedule.Choice.{Choice}
use Rattle.sl_model.specs.declared.schedule.Source.{Source}
use Rattle.sl_model.specs.declared.schedule.Source.TheVariants.{Entry, Item}
use Rattle.sl_model.specs.Cycles.{CostTable, Issued, issue, timed, ready_at, ready_after, cycle_of, cycle_count, ceil_div, row_of}
use Rattle.sl_model.specs.SecondPass.{not_before, ready_again_at, ready_again, again_from, loop_stalls}
use Rattle.sl_model.specs.Body.{held, stands_in}
use Rattle.sl_model.specs.Legal.{Problem, IsLegalFrom, sources_in}
use Rattle.sl_model.specs.Space.{is_final}
use Rattle.register_exchange.specs.AsGood.{EntriesAreFinal, move}
use Rattle.register_exchange.specs.Lost.{NoChoiceLostInLoops}
use Rattle.register_exchange.proofs.Moves.{bare, bare_move, bare-moves, cycle-bare, ready_at-bare, timed-moves, length-moves, run_on, run_on-none}
use Rattle.register_exchange.proofs.Laws.{has-as_good}

-- each choice is of an item of an order
abbrev Known : List ℕ → List Choice → Type 0
Known order [] = Unit {0}
Known order (c ∷ rest) = (stands_in c.item order ≡ true) × Known order rest

-- so are those of a legal list
known-legal : (problem : Problem) (done rest : List Choice) → IsLegalFrom problem done rest → Known problem.graph.order rest
known-legal problem done [] legal = tt
known-legal problem done (c ∷ rest) legal = (legal.0.of.known, known-legal problem (c ∷ done) rest legal.1)

-- lists of the same items and units, turned round
moves-on : (xs ys done after : List Choice) → map move done ≡ map move after → map move xs ≡ map move ys → map move (run_on done xs) ≡ map move (run_on after ys)
moves-on [] [] done after e same = e
moves-on [] (y ∷ ys) done after e same = absurd (cc)
moves-on (x ∷ xs) [] done after e same = absurd (cc)
moves-on (x ∷ xs) (y ∷ ys) done after e same =
    let first : move x ≡ move y = cc in
    let rest : map move xs ≡ map move ys = cc in
    moves-on xs ys (x ∷ done) (y ∷ after) (λ i. first i ∷ e i) rest

module _ (costs : CostTable) (first : List Choice) (before : List Issued) where
  ready_again_at-bare : (choices : List Choice) (since : List Issued) (to operand : ℕ) (s : Source)
      → ready_again_at costs first before (map bare choices) since to operand s ≡ ready_again_at costs first before choices since to operand s
  unfolding ready_again_at
  ready_again_at-bare choices since to operand (Entry r) = refl
  ready_again_at-bare choices since to operand (Item from place) = ap (λ n. n + ready_after costs from place to operand) (cycle-bare from choices since)

  ready_again-bare : (choices : List Choice) (since : List Issued) (to operand : ℕ) (sources : List Source)
      → ready_again costs first before (map bare choices) since to operand sources ≡ ready_again costs first before choices since to operand sources
  unfolding ready_again
  ready_again-bare choices since to operand [] = refl
  ready_again-bare choices since to operand (s ∷ sources) =
      let here = ready_again_at-bare choices since to operand s in
      let rest = ready_again-bare choices since to (operand + 1) sources in
      λ i. max (here i) (rest i)

  -- what is issued for a choice whose operands are ready then
  abbrev pub issued_at_ready : List Issued → Choice → ℕ → Issued
  issued_at_ready since c ready = issue (not_before (cycle_count before) (record {
    width = costs.width;
    unit = c.unit;
    busy = (row_of costs c.item).busy;
    ready = ready;
  })) (since ++ before)

  -- the second pass asks for no registers of its own choices
  again-bare : (sources : ℕ → List Source) (choices : List Choice) (since : List Issued) (rest : List Choice)
      → again_from costs sources first before (map bare choices) since (map bare rest) ≡ again_from costs sources first before choices since rest
  unfolding again_from
  again-bare sources choices since [] = refl
  again-bare sources choices since (c ∷ rest) =
      ap (λ n. again_from costs sources first before (map bare (c ∷ choices)) (issued_at_ready since c n ∷ since) (map bare rest))
      (ready_again-bare choices since c.item 0 (sources c.item))
      ∙ again-bare sources (c ∷ choices) (issued_at_ready since c (ready_again costs first before choices since c.item 0 (sources c.item)) ∷ since) rest

  again-moves : (sources : ℕ → List Source) (xs ys : List Choice) → map move xs ≡ map move ys
      → again_from costs sources first before [] [] xs ≡ again_from costs sources first before [] [] ys
  again-moves sources xs ys e =
      sym (again-bare sources [] [] xs) ∙ ap (again_from costs sources first before [] []) (bare-moves xs ∙ ap (map bare_move) e ∙ sym (bare-moves ys)) ∙ again-bare sources [] [] ys

-- the second pass asks of the first one's registers only for entries that items read
module _ (costs : CostTable) (first other : List Choice) (before : List Issued) where
  -- what both leave in a register is ready for an operand at the same time
  abbrev IsReadyAlike : ℕ → ℕ → Reg → Type 0
  IsReadyAlike to operand r = ready_at costs first before to operand (held first r) ≡ ready_at costs other before to operand (held other r)

  ready-entries : (choices : List Choice) (since : List Issued) (to operand : ℕ) (sources : List Source)
      → ((r : Reg) (k n : ℕ) → slice_get sources n ≡ Some (Entry r) → IsReadyAlike to k r)
      → ready_again costs first before choices since to operand sources ≡ ready_again costs other before choices since to operand sources
  unfolding ready_again ready_again_at
  ready-entries choices since to operand [] each = refl
  ready-entries choices since to operand (Entry r ∷ sources) each =
      let here = each r operand 0 refl in
      let rest = ready-entries choices since to (operand + 1) sources (λ q k n at. each q k (suc n) at) in
      λ i. max (here i) (rest i)
  ready-entries choices since to operand (Item from place ∷ sources) each =
      ap (max (cycle_of from choices since + ready_after costs from place to operand)) (ready-entries choices since to (operand + 1) sources (λ q k n at. each q k (suc n) at))

  again-entries : (sources : ℕ → List Source) (order : List ℕ) (choices : List Choice) (since : List Issued) (rest : List Choice) → Known order rest
      → ((p : ℕ) → stands_in p order ≡ true → (r : Reg) (k n : ℕ) → slice_get (sources p) n ≡ Some (Entry r) → IsReadyAlike p k r)
      → again_from costs sources first before choices since rest ≡ again_from costs sources other before choices since rest
  unfolding again_from
  again-entries sources order choices since [] known each = refl
  again-entries sources order choices since (c ∷ rest) known each =
      ap (λ n. again_from costs sources first before (c ∷ choices) (issued_at_ready costs first before since c n ∷ since) rest)
      (ready-entries choices since c.item 0 (sources c.item) (each c.item known.0))
      ∙ again-entries sources order (c ∷ choices) (issued_at_ready costs first before since c (ready_again costs other before choices since c.item 0 (sources c.item)) ∷ since) rest known.1 each

module _ (problem : Problem) where
  -- when a source is ready, behind lists of the same items and units
  ready-moves : (xs ys : List Choice) (issued : List Issued) (to operand : ℕ) (s : Source) → map move xs ≡ map move ys → ready_at problem.costs xs issued to operand s ≡ ready_at problem.costs ys issued to operand s
  ready-moves xs ys issued to operand s e =
      sym (ready_at-bare problem.costs xs issued to operand s) ∙ ap (λ cs. ready_at problem.costs cs issued to operand s) (bare-moves xs ∙ ap (map bare_move) e ∙ sym (bare-moves ys))
      ∙ ready_at-bare problem.costs ys issued to operand s

  -- Schedules of the same items and units, after which final registers hold the same, have the same stalls in a loop.
  loop-same : EntriesAreFinal problem → (x y : List Choice) → Known problem.graph.order y → map move (reverse x) ≡ map move (reverse y) → map move x ≡ map move y
      → ((r : Reg) → is_final problem r ≡ true → held (reverse x) r ≡ held (reverse y) r) → loop_stalls problem.costs (sources_in problem) x ≡ loop_stalls problem.costs (sources_in problem) y
  loop-same entries x y known behind moves ends =
      let costs = problem.costs in
      let sources = sources_in problem in
      let passed = timed costs sources y in
      let first : timed costs sources x ≡ passed = timed-moves costs sources x y moves in
      let second : again_from costs sources (reverse x) passed [] [] x ≡ again_from costs sources (reverse y) passed [] [] y =
      again-moves costs (reverse x) passed sources x y moves
      ∙ again-entries costs (reverse x) (reverse y) passed sources problem.graph.order [] [] y known (λ p stands r k n at.
      ap (ready_at costs (reverse x) passed p k) (ends r (entries.final p n r stands at)) ∙ ready-moves (reverse x) (reverse y) passed p k (held (reverse y) r) behind) in
      ap (λ f. cycle_count (again_from costs sources (reverse x) f [] [] x) - cycle_count f - ceil_div (length x) costs.width) first
      ∙ (λ i. cycle_count (second i) - cycle_count passed - ceil_div (length-moves x y moves i) costs.width)

pub no-choice-lost-in-loops : NoChoiceLostInLoops
no-choice-lost-in-loops problem search alike entries schedule legal =
    let r = has-as_good problem search alike schedule legal in
    let behind : map move (reverse r.0) ≡ map move (reverse schedule) =
    ap (map move) (sym (run_on-none r.0)) ∙ moves-on r.0 schedule [] [] refl r.1.moves ∙ ap (map move) (run_on-none schedule) in
    (r.0, r.1, loop-same problem entries r.0 schedule (known-legal problem [] schedule legal) behind r.1.moves r.1.ends)
