-- Each instruction of an applied legal schedule is one of the instruction set.
use Rattle.std.proofs.Common.{◌≡◌, ℕ, zero, suc, ◌<◌, ◌≤◌, true, false, ⊎_elim, List, [], ◌∷◌, length, Option, None, Some, refl, sym, ap, subst, ◌∙◌, true≢false, arith, slice_get, filter_map, zip}
use Rattle.std.specs.List.{list_all}
use Rattle.std.proofs.lemmas.Option.{slice_get_within}
use Rattle.sl_model.specs.declared.register.Reg.{Reg}
use Rattle.sl_model.specs.declared.register.RegSet.{RegSet}
use Rattle.sl_model.specs.declared.instruction.Instr.{Instr}
use Rattle.sl_model.specs.declared.instruction.FormInfo.{FormInfo}
use Rattle.sl_model.specs.declared.schedule.Choice.{Choice}
use Rattle.sl_model.specs.declared.schedule.Source.{Source}
use Rattle.sl_model.specs.Register.{same_reg}
use Rattle.sl_model.specs.Source.{operands, item_at, padded}
use Rattle.sl_model.specs.Isa.{Isa}
use Rattle.sl_model.specs.Body.{same_source, chosen, held, given, holds_in, is_still_held, all_differ, applied_item, applied_from}
use Rattle.sl_model.specs.Lawful.{IsValid, suits_set, is_tied_to, is_reg_at, is_some_reg, is_base_alone, AreValid}
use Rattle.sl_model.specs.Graph.{body_of}
use Rattle.sl_model.specs.Legal.{Problem, IsLegalNext, IsLegalFrom, sources_in, suits_output, output_classes, is_tied, is_given, is_register}
use Rattle.renamer.proofs.SoundGraph.{IsSoundGraph, sound-body, info-is}
use Rattle.std.proofs.lemmas.Bool.{and_parts, cases_Bool}
use Rattle.renamer.proofs.LegalityRules.{SuitsOutput, suits_outputs, SuitsOperand, suits_operands}
use Rattle.sl_laws.proofs.Alone.{base_alone-made}
use Rattle.sl_laws.proofs.Registers.{same_reg-true, same_reg-refl}
use Rattle.sl_laws.proofs.Sources.{same_source-true, same_source-refl}
use Rattle.sl_laws.proofs.Valid.{operands-few}
use Rattle.sl_laws.proofs.RegSets.{suits-from_set}
use Rattle.sl_laws.proofs.Rules.{KeepsRules, keeps_rules}
use Rattle.sl_laws.proofs.Elements.{element_at, filter_map-at, filter_map-length, list_all-at, list_all-from_each, zip-parts}
use Rattle.sl_laws.proofs.Padded.{padded-back}

-- places of registers

-- a source that is still held is what its register holds
held-back : (done : List Choice) (value : Source) (r : Reg) → is_still_held done value ≡ true → given done value ≡ Some r → held done r ≡ value
unfolding is_still_held
held-back done value r is at = same_source-true (held done r) value (sym (ap (holds_in done value) at) ∙ is)

-- the registers given to sources that are held are alike exactly where the sources are
given-alike : (done : List Choice) (a b : Source) (q r : Reg) → is_still_held done a ≡ true → is_still_held done b ≡ true → given done a ≡ Some q → given done b ≡ Some r → same_reg q r ≡ same_source a b
given-alike done a b q r one two at beside = ⊎_elim
    (λ (same : same_reg q r ≡ true).
    let e : q ≡ r = same_reg-true q r same in
    let f : a ≡ b = sym (held-back done a q one at) ∙ ap (held done) e ∙ held-back done b r two beside in
    same ∙ sym (ap (same_source a) (sym f) ∙ same_source-refl a))
    (λ (other : same_reg q r ≡ false). other ∙ sym (⊎_elim
    (λ (same : same_source a b ≡ true).
    let e : Some q ≡ Some r = sym at ∙ ap (given done) (same_source-true a b same) ∙ beside in
    let f : q ≡ r = cc in
    absurd (true≢false (sym (ap (same_reg q) (sym f) ∙ same_reg-refl q) ∙ other)))
    (λ (no : same_source a b ≡ false). no)
    (cases_Bool (same_source a b))))
    (cases_Bool (same_reg q r))

-- so a base whose source is that of no other operand is in a register of its own
given-base_alone : (isa : Isa) (problem : Problem) (done : List Choice) (c : Choice) → IsSoundGraph isa problem.graph → IsLegalNext problem done c
    → is_base_alone same_reg (isa.info (item_at problem.graph.items c.item).form) (filter_map (given done) (sources_in problem c.item)) ≡ true
given-base_alone isa problem done c sound legal =
    base_alone-made same_source same_reg (given done) (sources_in problem c.item)
    (record {
      made = λ k value at. (let suits = suits_operands isa problem done c sound legal k value at in (suits.register, suits.given_it));
      alike = λ j k a b q r at beside one two.
          given-alike done a b q r (suits_operands isa problem done c sound legal j a at).still_held (suits_operands isa problem done c sound legal k b beside).still_held one two;
    })
    (isa.info (item_at problem.graph.items c.item).form)
    (sound.of.bases_apart c.item (sound.sources.known c.item legal.of.known))

-- the registers that an item of a legal choice reads, applied, are those given to its sources
pub applied_item-operands : (isa : Isa) (problem : Problem) (done : List Choice) (c : Choice) → IsSoundGraph isa problem.graph → IsLegalNext problem done c
    → operands (applied_item (body_of problem.graph) done c) ≡ filter_map (given done) (sources_in problem c.item)
applied_item-operands isa problem done c sound legal =
    let i : Instr = item_at problem.graph.items c.item in
    let valid : IsValid isa i = (sound-body isa problem.graph sound).items c.item legal.of.known in
    let sources : List Source = sources_in problem c.item in
    let regs : List Reg = filter_map (given done) sources in
    let as_many : length regs ≡ length sources =
    filter_map-length (given done) sources (λ k value at. (let suits = suits_operands isa problem done c sound legal k value at in (suits.register, suits.given_it))) in
    let count : length sources ≡ length (operands i) = (sound-body isa problem.graph sound).operands_have c.item legal.of.known in
    let few : length (operands i) ≤ 4 = operands-few isa i valid in
    padded-back 4 regs (omega arith)

-- An item of a legal choice, applied, is an instruction of the set.
pub applied_item-valid : (isa : Isa) (problem : Problem) (done : List Choice) (c : Choice) → IsSoundGraph isa problem.graph → IsLegalNext problem done c → IsValid isa (applied_item (body_of problem.graph) done c)
applied_item-valid isa problem done c sound legal =
    let i : Instr = item_at problem.graph.items c.item in
    let valid : IsValid isa i = (sound-body isa problem.graph sound).items c.item legal.of.known in
    let rules : KeepsRules problem done c = keeps_rules problem done c legal.rules in
    let sources : List Source = sources_in problem c.item in
    let regs : List Reg = filter_map (given done) sources in
    let info : FormInfo = isa.info i.form in
    let ties : list_all (is_tied problem done c.item) (zip (chosen c) info.tied) ≡ true =
    subst (λ (told : FormInfo). list_all (is_tied problem done c.item) (zip (chosen c) told.tied) ≡ true) (info-is isa problem.graph sound c.item legal.of.known) rules.l3 in
    let each : (k : ℕ) (value : Source) → slice_get sources k ≡ Some value → (r : Reg) × (given done value ≡ Some r) =
    λ (k : ℕ) (value : Source) (at : slice_get sources k ≡ Some value). ((suits_operands isa problem done c sound legal k value at).register, (suits_operands isa problem done c sound legal k value at).given_it) in
    let as_many : length regs ≡ length (operands i) = filter_map-length (given done) sources each ∙ (sound-body isa problem.graph sound).operands_have c.item legal.of.known in
    let back : filter_map (λ (r : Option Reg). r) (padded 4 regs) ≡ regs = applied_item-operands isa problem done c sound legal in
    record {
      op = valid.op;
      ins_shape = ap (padded 4) (sym back);
      outs_shape = legal.of.shape;
      operand_count = ap length back ∙ as_many ∙ valid.operand_count;
      output_count = legal.of.outputs_given ∙ valid.output_count;
      operand_classes = subst (λ l. list_all suits_set (zip l info.in_sets) ≡ true) (sym back)
          (list_all-from_each suits_set (zip regs info.in_sets) (λ k x at. operand_suits each k x.0 x.1 (zip-parts regs info.in_sets k x.0 x.1 at)));
      output_classes = list_all-from_each suits_set (zip (chosen c) info.out_sets) (λ k x at. output_suits k x.0 x.1 (zip-parts (chosen c) info.out_sets k x.0 x.1 at));
      distinct = (and_parts (list_all (suits_output problem c.item) (output_classes problem c)) (all_differ (chosen c)) rules.l4).1;
      tied = subst (λ l. list_all (is_tied_to l) (zip (chosen c) info.tied) ≡ true) (sym back)
          (list_all-from_each (is_tied_to regs) (zip (chosen c) info.tied) (λ k x at. tied_suits each x.0 x.1 (list_all-at (is_tied problem done c.item) (zip (chosen c) info.tied) k x ties at)));
      base_apart = ap (is_base_alone same_reg info) back ∙ given-base_alone isa problem done c sound legal;
    }
  where
    operand_suits : ((k : ℕ) (value : Source) → slice_get (sources_in problem c.item) k ≡ Some value → (r : Reg) × (given done value ≡ Some r)) → (k : ℕ) (r : Reg) (set : RegSet) → (slice_get (filter_map (given done) (sources_in problem c.item)) k ≡ Some r) × (slice_get (isa.info (item_at problem.graph.items c.item).form).in_sets k ≡ Some set) → suits_set (r, set) ≡ true
    operand_suits each k r set at =
        let sources : List Source = sources_in problem c.item in
        let within : k < length sources = omega (arith, slice_get_within (filter_map (given done) sources) k r at.0, filter_map-length (given done) sources each) in
        let value = element_at sources k within in
        let suits : SuitsOperand isa problem done c k value.0 = suits_operands isa problem done c sound legal k value.0 value.1 in
        let there : Some r ≡ Some suits.register = sym at.0 ∙ filter_map-at (given done) sources each k value.0 value.1 ∙ suits.given_it in
        let same : suits.register ≡ r = cc in
        let beside : Some suits.set ≡ Some set = sym suits.set_at ∙ at.1 in
        let same_set : suits.set ≡ set = cc in
        subst (λ x. suits_set (r, x) ≡ true) same_set (subst (λ x. suits_set (x, suits.set) ≡ true) same (suits-from_set suits.register suits.set suits.set_has_it))

    output_suits : (k : ℕ) (r : Reg) (set : RegSet) → (slice_get (chosen c) k ≡ Some r) × (slice_get (isa.info (item_at problem.graph.items c.item).form).out_sets k ≡ Some set) → suits_set (r, set) ≡ true
    output_suits k r set at =
        let suits : SuitsOutput isa problem c k r = suits_outputs isa problem done c sound legal k r at.0 in
        let beside : Some suits.set ≡ Some set = sym suits.set_at ∙ at.1 in
        let same_set : suits.set ≡ set = cc in
        subst (λ x. suits_set (r, x) ≡ true) same_set (suits-from_set r suits.set suits.set_has_it)

    given_suits : (value : Source) (k : ℕ) (r : Reg) → ((k : ℕ) (value : Source) → slice_get (sources_in problem c.item) k ≡ Some value → (r : Reg) × (given done value ≡ Some r)) → slice_get (sources_in problem c.item) k ≡ Some value → is_register r (given done value) ≡ true → is_reg_at (filter_map (given done) (sources_in problem c.item)) k r ≡ true
    given_suits value k r each at is =
        let found = each k value at in
        ap (λ o. is_some_reg o r) (filter_map-at (given done) (sources_in problem c.item) each k value at ∙ found.1)
        ∙ sym (ap (is_register r) found.1) ∙ is

    tied_suits : ((k : ℕ) (value : Source) → slice_get (sources_in problem c.item) k ≡ Some value → (r : Reg) × (given done value ≡ Some r)) → (r : Reg) (o : Option ℕ) → is_tied problem done c.item (r, o) ≡ true → is_tied_to (filter_map (given done) (sources_in problem c.item)) (r, o) ≡ true
    tied_suits each r None is = refl
    tied_suits each r (Some k) is =
        elim (slice_get (sources_in problem c.item) k) as (λ o. slice_get (sources_in problem c.item) k ≡ o → is_given done r o ≡ true → is_reg_at (filter_map (given done) (sources_in problem c.item)) k r ≡ true) [
          | None ↦ λ at given_it. absurd (true≢false (sym given_it))
          | Some value ↦ λ at given_it. given_suits value k r each at given_it
        ] refl is

-- Each instruction of an applied legal list of choices is one of the set.
pub applied-valid : (isa : Isa) (problem : Problem) (done choices : List Choice) → IsSoundGraph isa problem.graph → IsLegalFrom problem done choices → AreValid isa (applied_from (body_of problem.graph) done choices)
unfolding applied_from
applied-valid isa problem done [] sound legal p within = absurd (omega arith)
applied-valid isa problem done (c ∷ choices) sound legal zero within = applied_item-valid isa problem done c sound legal.0
applied-valid isa problem done (c ∷ choices) sound legal (suc p) within = applied-valid isa problem (c ∷ done) choices sound legal.1 p (omega arith)
