-- The choices that may come next are the legal reduced ones, in their order.
use Rattle.std.proofs.Common.{◌≡◌, ℕ, ◌/◌, ◌%◌, ◌^◌, ◌<◌, ◌≤◌, true, false, ◌&&◌, ◌==◌, not, is_some, List, length, ⊎_elim, sym, ap, ◌∙◌, subst, true≢false, arith}
use Rattle.std.specs.Int.{bit_at}
use Rattle.std.specs.List.{list_all}
use Rattle.std.proofs.Math.Nat.{pow-le-pow_right, div-eq_of_lt}
use Rattle.std.proofs.lemmas.Bool.{cases_lt, and_parts, and_from, not-true}
use Rattle.sl_model.specs.declared.schedule.Choice.{Choice}
use Rattle.sl_model.specs.Source.{padded}
use Rattle.sl_model.specs.Cycles.{row_of}
use Rattle.sl_model.specs.Body.{chosen, stands_in, all_differ}
use Rattle.sl_model.specs.Legal.{Problem, IsOf, IsLegalNext, first_broken, output_classes, suits_output}
use Rattle.sl_model.specs.Space.{IsReducedNext}
use Rattle.sl_laws.proofs.Tests.{is_none_from}
use Rattle.sl_laws.proofs.Rules.{keeps_rules}
use Rattle.sl_laws.proofs.Padded.{padded-back}
use Rattle.sl_laws.proofs.Members.{Has, Ordered, has-filter, from-filter, ordered-filter, passes-filter}
use Rattle.search_space.specs.Searchable.{output_room, unit_room, output_count, IsSearchable}
use Rattle.search_space.specs.Next.{reg_lists, every_choice, is_reduced, may_come, next_choices}
use Rattle.search_space.proofs.Keys.{Before}
use Rattle.sl_laws.proofs.MachineRegs.{has-machine}
use Rattle.search_space.proofs.RegLists.{has-regs, length-regs}
use Rattle.search_space.proofs.Choices.{listed-is, is-listed, ordered-every}
use Rattle.search_space.proofs.Outputs.{known-item, chosen-allowed}
use Rattle.search_space.proofs.Reduced.{reduced-test, reduced-from}

-- a number below 2^16 has no bit from 16 on
no_bit_past : (n unit : ℕ) → n < 2 ^ 16 → 16 ≤ unit → (bit_at n unit == 1) ≡ false
no_bit_past n unit small past =
    let large : 2 ^ 16 ≤ 2 ^ unit = pow-le-pow_right (omega arith) past in
    let none : n / 2 ^ unit ≡ 0 = div-eq_of_lt (omega arith) in
    ap (λ q. q % 2 == 1) none

module _ (problem : Problem) (search : IsSearchable problem) where
  -- a choice of the list, with an item of the order, is of the problem
  listed-of : (c : Choice) → Has c (every_choice problem) → stands_in c.item problem.graph.order ≡ true → IsOf problem c
  listed-of c h stands =
      let of = listed-is problem c h in
      let long : length of.regs ≡ output_count problem c.item = length-regs (output_count problem c.item) of.regs of.listed in
      let few : output_count problem c.item ≤ output_room = search.few_outputs c.item of.known in
      let regs : chosen c ≡ of.regs = ap (λ x. chosen x) of.is ∙ padded-back output_room of.regs (omega arith) in
      record {
        known = stands;
        shape = ap (λ x. x.outs) of.is ∙ ap (padded output_room) (sym regs);
        outputs_given = ap length regs ∙ long;
      }

  -- the unit of a legal choice is one of the core
  pub legal-unit : (done : List Choice) (c : Choice) → IsLegalNext problem done c → c.unit < unit_room
  legal-unit done c legal = ⊎_elim
      (λ (less : c.unit < unit_room). less)
      (λ (past : unit_room ≤ c.unit).
      let few = search.few_units c.item (known-item problem search c legal.of) in
      absurd (true≢false (sym (keeps_rules problem done c legal.rules).l6 ∙ no_bit_past (row_of problem.costs c.item).units c.unit few past)))
      (cases_lt c.unit unit_room)

  -- a legal choice is one of the list
  legal-listed : (done : List Choice) (c : Choice) → IsLegalNext problem done c → Has c (every_choice problem)
  legal-listed done c legal =
      let l4 = and_parts (list_all (suits_output problem c.item) (output_classes problem c)) (all_differ (chosen c)) (keeps_rules problem done c legal.rules).l4 in
      let regs : Has (chosen c) (reg_lists (length (chosen c))) = has-regs (chosen c) (λ r h. has-machine _ r (chosen-allowed problem search c legal.of l4.0 r h)) in
      is-listed problem c (record {
        known = known-item problem search c legal.of;
        unit = legal-unit done c legal;
        regs = chosen c;
        listed = subst (λ n. Has (chosen c) (reg_lists n)) legal.of.outputs_given regs;
        is = λ i. record { item = c.item; unit = c.unit; outs = legal.of.shape i };
      })

  -- Each legal reduced choice may come next.
  pub has-next : (done : List Choice) (c : Choice) → IsLegalNext problem done c → IsReducedNext problem done c → Has c (next_choices problem done)
  unfolding next_choices may_come
  has-next done c legal reduced =
      has-filter (may_come problem done) c (every_choice problem) (legal-listed done c legal)
      (and_from (stands_in c.item problem.graph.order) _ legal.of.known
      (and_from (not (is_some (first_broken problem done c))) (is_reduced problem done c) (ap (λ o. not (is_some o)) legal.rules) (reduced-test problem done c reduced)))

  -- No other choice may.
  pub from-next : (done : List Choice) (c : Choice) → Has c (next_choices problem done) → IsLegalNext problem done c × IsReducedNext problem done c
  unfolding next_choices may_come
  from-next done c h =
      let may = passes-filter (may_come problem done) c (every_choice problem) h in
      let parts = and_parts (stands_in c.item problem.graph.order) (not (is_some (first_broken problem done c)) && is_reduced problem done c) may in
      let tests = and_parts (not (is_some (first_broken problem done c))) (is_reduced problem done c) parts.1 in
      let of : IsOf problem c = listed-of c (from-filter (may_come problem done) c (every_choice problem) h) parts.0 in
      (record { of = of; rules = is_none_from (first_broken problem done c) (not-true (is_some (first_broken problem done c)) tests.0) }, reduced-from problem done c search of tests.1)

  -- They stand in their order.
  pub ordered-next : (done : List Choice) → Ordered Before (next_choices problem done)
  unfolding next_choices
  ordered-next done = ordered-filter Before (may_come problem done) (every_choice problem) (ordered-every problem search.few_outputs)
