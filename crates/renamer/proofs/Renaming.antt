-- An applied legal schedule is its items in other registers, and is spelled where they are.
use Rattle.std.proofs.Common.{◌≡◌, ◌∙◌, ap, refl, sym, ℕ, zero, suc, ◌<◌, true, not, List, [], ◌∷◌, length, Some, slice_get, filter_map, arith}
use Rattle.std.specs.List.{list_all}
use Rattle.std.proofs.lemmas.Bool.{and_parts}
use Rattle.std.proofs.lemmas.Option.{slice_get_within}
use Rattle.sl_model.specs.declared.register.Reg.{Reg}
use Rattle.sl_model.specs.declared.register.RegSet.{RegSet}
use Rattle.sl_model.specs.declared.instruction.Instr.{Instr}
use Rattle.sl_model.specs.declared.schedule.Choice.{Choice}
use Rattle.sl_model.specs.declared.schedule.Source.{Source}
use Rattle.sl_model.specs.RegSets.{set_has}
use Rattle.sl_model.specs.Source.{item_at}
use Rattle.sl_model.specs.Isa.{Isa}
use Rattle.sl_model.specs.Body.{chosen, given, applied_item, applied_from, applied}
use Rattle.sl_model.specs.Graph.{body_of}
use Rattle.sl_model.specs.Legal.{Problem, IsLegalNext, IsLegalFrom, IsFullLegal, sources_in}
use Rattle.sl_isa.specs.Symbols.{Pair}
use Rattle.sl_isa.specs.Language.{Language, IsLanguage, IsSpelled, AreSpelled, IsRenaming, is_concrete}
use Rattle.renamer.specs.Renamings.{AreRenamings}
use Rattle.renamer.proofs.SoundGraph.{IsSoundGraph}
use Rattle.renamer.proofs.LegalityRules.{suits_outputs, SuitsOperand, suits_operands}
use Rattle.renamer.proofs.LegalityValid.{applied_item-operands, applied_item-valid}
use Rattle.sl_laws.proofs.Elements.{element_at, filter_map-at, filter_map-length, list_all-from_each}

-- a register of a set is the machine's
concrete-of : (set : RegSet) (r : Reg) → set_has set r ≡ true → is_concrete r ≡ true
unfolding set_has
concrete-of set r has = (and_parts (not r.symbolic) _ has).0

-- each register that is read is one of a set
concrete-given : (isa : Isa) (problem : Problem) (done : List Choice) (c : Choice) → IsSoundGraph isa problem.graph → IsLegalNext problem done c
    → list_all is_concrete (filter_map (given done) (sources_in problem c.item)) ≡ true
concrete-given isa problem done c sound legal = list_all-from_each is_concrete (filter_map (given done) sources) (λ k r at.
    let within : k < length sources = omega (arith, slice_get_within (filter_map (given done) sources) k r at, filter_map-length (given done) sources each) in
    let value = element_at sources k within in
    let suits : SuitsOperand isa problem done c k value.0 = suits_operands isa problem done c sound legal k value.0 value.1 in
    let there : Some suits.register ≡ Some r = sym suits.given_it ∙ sym (filter_map-at (given done) sources each k value.0 value.1) ∙ at in
    let same : suits.register ≡ r = cc in
    ap is_concrete (sym same) ∙ concrete-of suits.set suits.register suits.set_has_it)
  where
    sources : List Source
    sources = sources_in problem c.item

    each : (k : ℕ) (value : Source) → slice_get (sources_in problem c.item) k ≡ Some value → (r : Reg) × (given done value ≡ Some r)
    each k value at = let suits = suits_operands isa problem done c sound legal k value at in (suits.register, suits.given_it)

-- An item of a legal choice, applied, is the item in other registers.
pub applied_item-renames : (isa : Isa) (problem : Problem) (done : List Choice) (c : Choice) → IsSoundGraph isa problem.graph → IsLegalNext problem done c
    → IsRenaming isa (item_at problem.graph.items c.item) (applied_item (body_of problem.graph) done c)
applied_item-renames isa problem done c sound legal = record {
  same = refl;
  valid = applied_item-valid isa problem done c sound legal;
  concrete = record {
    operands_concrete = ap (list_all is_concrete) (applied_item-operands isa problem done c sound legal) ∙ concrete-given isa problem done c sound legal;
    outputs_concrete = list_all-from_each is_concrete (chosen c) (λ k r at.
        (let suits = suits_outputs isa problem done c sound legal k r at in concrete-of suits.set r suits.set_has_it));
  };
}

renames-from : (isa : Isa) (problem : Problem) (done choices : List Choice) → IsSoundGraph isa problem.graph → IsLegalFrom problem done choices
    → AreRenamings isa problem.graph.items choices (applied_from (body_of problem.graph) done choices)
unfolding applied_from
renames-from isa problem done [] sound legal = tt
renames-from isa problem done (c ∷ choices) sound legal =
    (applied_item-renames isa problem done c sound legal.0, renames-from isa problem (c ∷ done) choices sound legal.1)

-- A full legal schedule, applied, is its items in other registers.
pub applied-renames : (isa : Isa) (problem : Problem) (schedule : List Choice) → IsSoundGraph isa problem.graph → IsFullLegal problem schedule
    → AreRenamings isa problem.graph.items schedule (applied (body_of problem.graph) schedule)
applied-renames isa problem schedule sound legal = renames-from isa problem [] schedule sound legal.legal

-- one of instructions that are spelled is
spelled-at : (language : Language) (pairs : List Pair) (items : List Instr) (p : ℕ) → AreSpelled language pairs items → p < length items → IsSpelled language pairs (item_at items p)
spelled-at language pairs [] p spelled within = absurd (omega arith)
spelled-at language pairs (i ∷ items) zero spelled within = spelled.0
spelled-at language pairs (i ∷ items) (suc p) spelled within = spelled-at language pairs items p spelled.1 (omega arith)

spelled-from : (language : Language) (pairs : List Pair) (problem : Problem) (done choices : List Choice) → IsLanguage language → IsSoundGraph language.isa problem.graph
    → AreSpelled language pairs problem.graph.items → IsLegalFrom problem done choices
    → AreSpelled language [] (applied_from (body_of problem.graph) done choices)
unfolding applied_from
spelled-from language pairs problem done [] lawful sound spelled legal = tt
spelled-from language pairs problem done (c ∷ choices) lawful sound spelled legal = (
  lawful.renamed pairs (item_at problem.graph.items c.item) (applied_item (body_of problem.graph) done c)
      (spelled-at language pairs problem.graph.items c.item spelled (sound.sources.known c.item legal.0.of.known))
      (applied_item-renames language.isa problem done c sound legal.0),
  spelled-from language pairs problem (c ∷ done) choices lawful sound spelled legal.1,
)

-- Where its items are spelled, it is, and without symbolic registers.
pub applied-spelled : (language : Language) (pairs : List Pair) (problem : Problem) (schedule : List Choice) → IsLanguage language → IsSoundGraph language.isa problem.graph
    → AreSpelled language pairs problem.graph.items → IsFullLegal problem schedule
    → AreSpelled language [] (applied (body_of problem.graph) schedule)
applied-spelled language pairs problem schedule lawful sound spelled legal = spelled-from language pairs problem [] schedule lawful sound spelled legal.legal
