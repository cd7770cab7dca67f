-- When items are issued, and the earliest cycles of those that aren't placed.
use Rattle.std.proofs.Common.{◌≡◌, ℕ, ◌+◌, ◌||◌, ◌≤◌, Bool, true, false, eqb, List, [], ◌∷◌, if◌then◌else◌, ⊎_elim, refl, sym, ap, ◌∙◌, subst, true≢false, arith}
use Rattle.std.proofs.lemmas.Bool.{or_right, cases_Bool, eq-eqb, ne_eqb, cond-true, cond-false}
use Rattle.sl_model.specs.declared.schedule.Source.{Source}
use Rattle.sl_model.specs.declared.schedule.Source.TheVariants.{Entry, Item}
use Rattle.sl_model.specs.declared.schedule.Choice.{Choice}
use Rattle.sl_model.specs.Cycles.{Issued, first_slot, next_cycle, issue, push_of, ready_at, ready_from, ready_after, cycle_of}
use Rattle.sl_model.specs.Body.{is_placed}
use Rattle.sl_model.specs.Legal.{Problem, sources_in}
use Rattle.search_space.specs.Bound.{issued_for, known_at, known_from, earliest}
use Rattle.search_space.proofs.Slots.{slot-behind}

-- the cycle of a choice
abbrev pub cycle_next : Problem → List Choice → Choice → ℕ
cycle_next problem done c = (issue (push_of problem.costs (sources_in problem c.item) done (issued_for problem done) c) (issued_for problem done)).cycle

-- one more choice in front
pub issued_for-more : (problem : Problem) (done : List Choice) (c : Choice)
    → issued_for problem (c ∷ done) ≡ issue (push_of problem.costs (sources_in problem c.item) done (issued_for problem done) c) (issued_for problem done) ∷ issued_for problem done
unfolding issued_for
issued_for-more problem done c = refl

-- the cycle of an item stays where another item comes
cycle_of-other : (item : ℕ) (c : Choice) (done : List Choice) (i : Issued) (issued : List Issued) → (c.item ≡ item → ⊥) → cycle_of item (c ∷ done) (i ∷ issued) ≡ cycle_of item done issued
unfolding cycle_of
cycle_of-other item c done i issued other = cond-false (eqb c.item item) i.cycle (cycle_of item done issued) (ne_eqb c.item item other)

-- the cycle of an item that comes
pub cycle_of-here : (c : Choice) (done : List Choice) (i : Issued) (issued : List Issued) → cycle_of c.item (c ∷ done) (i ∷ issued) ≡ i.cycle
unfolding cycle_of
cycle_of-here c done i issued = cond-true (eqb c.item c.item) i.cycle (cycle_of c.item done issued) (eq-eqb c.item c.item refl)

-- what is placed where a choice comes
pub is_placed-more : (c : Choice) (done : List Choice) (item : ℕ) → is_placed (c ∷ done) item ≡ (eqb c.item item || is_placed done item)
unfolding is_placed
is_placed-more c done item = refl

-- what was placed stays placed
placed-more : (c : Choice) (done : List Choice) (item : ℕ) → is_placed done item ≡ true → is_placed (c ∷ done) item ≡ true
placed-more c done item placed = is_placed-more c done item ∙ or_right (eqb c.item item) (is_placed done item) placed

-- and what comes is placed
pub placed-here : (c : Choice) (done : List Choice) → is_placed (c ∷ done) c.item ≡ true
placed-here c done = is_placed-more c done c.item ∙ ap (λ b. b || is_placed done c.item) (eq-eqb c.item c.item refl)

-- a source that is known stays so, at its cycle
known_at-more : (problem : Problem) (done : List Choice) (c : Choice) (to operand : ℕ) (s : Source) → is_placed done c.item ≡ false
    → known_at problem done to operand s ≤ known_at problem (c ∷ done) to operand s
known_at-more problem done c to operand (Entry r) fresh = omega arith
known_at-more problem done c to operand (Item from place) fresh = ⊎_elim
    (λ (placed : is_placed done from ≡ true).
    let other : c.item ≡ from → ⊥ = λ (e : c.item ≡ from). true≢false (sym placed ∙ sym (ap (is_placed done) e) ∙ fresh) in
    let after = ready_after problem.costs from place to operand in
    let old : known_at problem done to operand (Item from place) ≡ cycle_of from done (issued_for problem done) + after = cond-true (is_placed done from) _ 0 placed in
    let new : known_at problem (c ∷ done) to operand (Item from place) ≡ cycle_of from (c ∷ done) (issued_for problem (c ∷ done)) + after = cond-true (is_placed (c ∷ done) from) _ 0 (placed-more c done from placed) in
    let same : cycle_of from (c ∷ done) (issued_for problem (c ∷ done)) ≡ cycle_of from done (issued_for problem done) =
    ap (cycle_of from (c ∷ done)) (issued_for-more problem done c) ∙ cycle_of-other from c done _ (issued_for problem done) other in
    omega arith)
    (λ (unplaced : is_placed done from ≡ false).
    let old : known_at problem done to operand (Item from place) ≡ 0 = cond-false (is_placed done from) _ 0 unplaced in
    omega arith)
    (cases_Bool (is_placed done from))

-- so are those of the operands of an item
known_from-more : (problem : Problem) (done : List Choice) (c : Choice) (to operand : ℕ) (sources : List Source) → is_placed done c.item ≡ false
    → known_from problem done to operand sources ≤ known_from problem (c ∷ done) to operand sources
unfolding known_from
known_from-more problem done c to operand [] fresh = omega arith
known_from-more problem done c to operand (s ∷ sources) fresh =
    let here : known_at problem done to operand s ≤ known_at problem (c ∷ done) to operand s = known_at-more problem done c to operand s fresh in
    let rest : known_from problem done to (operand + 1) sources ≤ known_from problem (c ∷ done) to (operand + 1) sources = known_from-more problem done c to (operand + 1) sources fresh in
    omega arith

-- what is known of the sources is no later than when all are ready
known-ready : (problem : Problem) (done : List Choice) (to operand : ℕ) (sources : List Source) → known_from problem done to operand sources ≤ ready_from problem.costs done (issued_for problem done) to operand sources
unfolding known_from ready_from
known-ready problem done to operand [] = omega arith
known-ready problem done to operand (s ∷ sources) =
    let here : known_at problem done to operand s ≤ ready_at problem.costs done (issued_for problem done) to operand s = by s in
    let rest : known_from problem done to (operand + 1) sources ≤ ready_from problem.costs done (issued_for problem done) to (operand + 1) sources = known-ready problem done to (operand + 1) sources in
    omega arith
  where
    by : (s : Source) → known_at problem done to operand s ≤ ready_at problem.costs done (issued_for problem done) to operand s
    by (Entry r) = omega arith
    by (Item from place) = cond-within (is_placed done from) (ready_at problem.costs done (issued_for problem done) to operand (Item from place))
      where
        cond-within : (b : Bool) (n : ℕ) → (if b then n else 0) ≤ n
        cond-within true n = omega arith
        cond-within false n = omega arith

-- the next cycle isn't before the first slot and the operands
pub cycle_next-from : (problem : Problem) (done : List Choice) (c : Choice)
    → (first_slot problem.costs.width (issued_for problem done) ≤ cycle_next problem done c)
    × (ready_from problem.costs done (issued_for problem done) c.item 0 (sources_in problem c.item) ≤ cycle_next problem done c)
unfolding next_cycle
cycle_next-from problem done c = (omega arith, omega arith)

-- the first slot never falls
slot-more : (problem : Problem) (done : List Choice) (c : Choice) → first_slot problem.costs.width (issued_for problem done) ≤ first_slot problem.costs.width (issued_for problem (c ∷ done))
slot-more problem done c =
    let from = (cycle_next-from problem done c).0 in
    let behind : cycle_next problem done c ≤ first_slot problem.costs.width (issued_for problem (c ∷ done)) =
    subst (λ xs. cycle_next problem done c ≤ first_slot problem.costs.width xs) (sym (issued_for-more problem done c)) (slot-behind problem.costs.width _ (issued_for problem done)) in
    omega arith

-- nor does the earliest cycle of an item
pub earliest-more : (problem : Problem) (done : List Choice) (c : Choice) (item : ℕ) → is_placed done c.item ≡ false → earliest problem done item ≤ earliest problem (c ∷ done) item
unfolding earliest
earliest-more problem done c item fresh =
    let slot : first_slot problem.costs.width (issued_for problem done) ≤ first_slot problem.costs.width (issued_for problem (c ∷ done)) = slot-more problem done c in
    let known : known_from problem done item 0 (sources_in problem item) ≤ known_from problem (c ∷ done) item 0 (sources_in problem item) = known_from-more problem done c item 0 (sources_in problem item) fresh in
    omega arith

-- an item is issued no earlier than it was known to be
pub earliest-next : (problem : Problem) (done : List Choice) (c : Choice) → earliest problem done c.item ≤ cycle_next problem done c
unfolding earliest
earliest-next problem done c =
    let from = cycle_next-from problem done c in
    let slot : first_slot problem.costs.width (issued_for problem done) ≤ cycle_next problem done c = from.0 in
    let ready : ready_from problem.costs done (issued_for problem done) c.item 0 (sources_in problem c.item) ≤ cycle_next problem done c = from.1 in
    let known : known_from problem done c.item 0 (sources_in problem c.item) ≤ ready_from problem.costs done (issued_for problem done) c.item 0 (sources_in problem c.item) = known-ready problem done c.item 0 (sources_in problem c.item) in
    omega arith
