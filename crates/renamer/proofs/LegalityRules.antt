-- What the rules say of each operand and of each output of a legal choice.
use Rattle.std.proofs.Common.{◌≡◌, ℕ, ◌<◌, Bool, true, ◌&&◌, List, length, Option, None, Some, refl, sym, ap, ◌∙◌, true≢false, arith, slice_get, zip}
use Rattle.std.specs.List.{list_all, enumerate_from}
use Rattle.std.proofs.lemmas.Option.{slice_get_within}
use Rattle.sl_model.specs.declared.register.Reg.{Reg}
use Rattle.sl_model.specs.declared.register.RegSet.{RegSet}
use Rattle.sl_model.specs.declared.instruction.Instr.{Instr}
use Rattle.sl_model.specs.declared.instruction.FormInfo.{FormInfo}
use Rattle.sl_model.specs.declared.schedule.Choice.{Choice}
use Rattle.sl_model.specs.declared.schedule.Source.{Source}
use Rattle.sl_model.specs.declared.schedule.Source.TheVariants.{Item}
use Rattle.sl_model.specs.RegSets.{set_has}
use Rattle.sl_model.specs.Register.{same_bool}
use Rattle.sl_model.specs.Source.{outputs, item_at}
use Rattle.sl_model.specs.Isa.{Isa}
use Rattle.sl_model.specs.Body.{chosen, given, is_still_held, all_differ}
use Rattle.sl_model.specs.Lawful.{IsValid}
use Rattle.sl_model.specs.Legal.{Problem, IsLegalNext, sources_in, info_in, allowed_in, is_held_in, is_in_set, operand_classes, output_classes, suits_output, suits_readers, suits_finals, is_flags}
use Rattle.renamer.proofs.SoundGraph.{IsSoundGraph, sound-body, info-is}
use Rattle.sl_laws.proofs.RegSets.{set_count-bound}
use Rattle.sl_laws.proofs.Rules.{KeepsRules, keeps_rules}
use Rattle.sl_laws.proofs.Elements.{element_at, enumerate_from-at, list_all-at, zip-at}
use Rattle.std.proofs.lemmas.Bool.{and_parts}

-- what holds of an output at a place
pub record SuitsOutput (isa : Isa) (problem : Problem) (c : Choice) (k : ℕ) (r : Reg) : Type 0 where
  pub allowed : set_has (allowed_in problem c.item) r ≡ true
  pub set : RegSet
  pub set_at : slice_get (isa.info (item_at problem.graph.items c.item).form).out_sets k ≡ Some set
  pub set_has_it : set_has set r ≡ true
  pub finals : suits_finals problem (Item c.item k) r ≡ true

-- what holds of an operand at a place
pub record SuitsOperand (isa : Isa) (problem : Problem) (done : List Choice) (c : Choice) (k : ℕ) (value : Source) : Type 0 where
  pub still_held : is_still_held done value ≡ true
  pub register : Reg
  pub given_it : given done value ≡ Some register
  pub set : RegSet
  pub set_at : slice_get (isa.info (item_at problem.graph.items c.item).form).in_sets k ≡ Some set
  pub set_has_it : set_has set register ≡ true

-- each output of a legal choice suits
pub suits_outputs : (isa : Isa) (problem : Problem) (done : List Choice) (c : Choice) → IsSoundGraph isa problem.graph → IsLegalNext problem done c → (k : ℕ) (r : Reg) → slice_get (chosen c) k ≡ Some r → SuitsOutput isa problem c k r
suits_outputs isa problem done c sound legal k r at =
    let i : Instr = item_at problem.graph.items c.item in
    let sets : List RegSet = (isa.info i.form).out_sets in
    let valid : IsValid isa i = (sound-body isa problem.graph sound).items c.item legal.of.known in
    let info : info_in problem c.item ≡ isa.info i.form = info-is isa problem.graph sound c.item legal.of.known in
    let rules : KeepsRules problem done c = keeps_rules problem done c legal.rules in
    let within : k < length (chosen c) = slice_get_within (chosen c) k r at in
    let set = element_at sets k (omega (arith, within, legal.of.outputs_given, valid.output_count, set_count-bound sets)) in
    let original = element_at (outputs i) k (omega (arith, within, legal.of.outputs_given)) in
    let beside : slice_get (output_classes problem c) k ≡ Some (k, ((r, set.0), original.0)) =
    ap (λ (told : FormInfo). slice_get (enumerate_from 0 (zip (zip (chosen c) told.out_sets) (outputs i))) k) info
    ∙ enumerate_from-at 0 (zip (zip (chosen c) sets) (outputs i)) k ((r, set.0), original.0) (zip-at (zip (chosen c) sets) (outputs i) k (r, set.0) original.0 (zip-at (chosen c) sets k r set.0 at set.1) original.1)
    ∙ ap (λ n. Some (n, ((r, set.0), original.0))) (omega arith) in
    let suits : suits_output problem c.item (k, ((r, set.0), original.0)) ≡ true =
    list_all-at (suits_output problem c.item) (output_classes problem c) k (k, ((r, set.0), original.0)) (and_parts (list_all (suits_output problem c.item) (output_classes problem c)) (all_differ (chosen c)) rules.l4).0 beside in
    let readers : Bool = suits_readers problem (Item c.item k) r in
    let finals : Bool = suits_finals problem (Item c.item k) r in
    let flags : Bool = same_bool (is_flags original.0) (is_flags r) in
    let after_allowed = (and_parts (set_has (allowed_in problem c.item) r) (set_has set.0 r && (readers && (finals && flags))) suits).1 in
    let after_set = (and_parts (set_has set.0 r) (readers && (finals && flags)) after_allowed).1 in
    let after_readers = (and_parts readers (finals && flags) after_set).1 in
    record {
      allowed = (and_parts (set_has (allowed_in problem c.item) r) (set_has set.0 r && (readers && (finals && flags))) suits).0;
      set = set.0;
      set_at = set.1;
      set_has_it = (and_parts (set_has set.0 r) (readers && (finals && flags)) after_allowed).0;
      finals = (and_parts finals flags after_readers).0;
    }

-- a register in a set is one
in_set_has : (set : RegSet) (o : Option Reg) → is_in_set set o ≡ true → (r : Reg) × (o ≡ Some r) × (set_has set r ≡ true)
in_set_has set None e = absurd (true≢false (sym e))
in_set_has set (Some r) e = (r, refl, e)

-- each operand of a legal choice suits
pub suits_operands : (isa : Isa) (problem : Problem) (done : List Choice) (c : Choice) → IsSoundGraph isa problem.graph → IsLegalNext problem done c → (k : ℕ) (value : Source) → slice_get (sources_in problem c.item) k ≡ Some value → SuitsOperand isa problem done c k value
suits_operands isa problem done c sound legal k value at =
    let i : Instr = item_at problem.graph.items c.item in
    let sets : List RegSet = (isa.info i.form).in_sets in
    let valid : IsValid isa i = (sound-body isa problem.graph sound).items c.item legal.of.known in
    let info : info_in problem c.item ≡ isa.info i.form = info-is isa problem.graph sound c.item legal.of.known in
    let rules : KeepsRules problem done c = keeps_rules problem done c legal.rules in
    let within : k < length (sources_in problem c.item) = slice_get_within (sources_in problem c.item) k value at in
    let set = element_at sets k (omega (arith, within, (sound-body isa problem.graph sound).operands_have c.item legal.of.known, valid.operand_count, set_count-bound sets)) in
    let suits : is_held_in done (value, set.0) ≡ true = list_all-at (is_held_in done) (operand_classes problem c.item) k (value, set.0) rules.l2
    (ap (λ (told : FormInfo). slice_get (zip (sources_in problem c.item) told.in_sets) k) info ∙ zip-at (sources_in problem c.item) sets k value set.0 at set.1) in
    let in_set = in_set_has set.0 (given done value) (and_parts (is_still_held done value) (is_in_set set.0 (given done value)) suits).1 in
    record {
      still_held = (and_parts (is_still_held done value) (is_in_set set.0 (given done value)) suits).0;
      register = in_set.0;
      given_it = in_set.1;
      set = set.0;
      set_at = set.1;
      set_has_it = in_set.2;
    }
