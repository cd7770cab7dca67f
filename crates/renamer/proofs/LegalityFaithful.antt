-- A legal list of choices is faithful.
use Rattle.std.proofs.Common.{◌≡◌, ℕ, true, false, List, [], ◌∷◌, length, Some, ⊎_elim, sym, ap, subst, ◌∙◌, true≢false, slice_get}
use Rattle.std.specs.List.{list_all, list_any}
use Rattle.sl_model.specs.declared.register.Reg.{Reg}
use Rattle.sl_model.specs.declared.schedule.Choice.{Choice}
use Rattle.sl_model.specs.RegSets.{set_has}
use Rattle.sl_model.specs.State.{is_zero}
use Rattle.sl_model.specs.Source.{item_at}
use Rattle.sl_model.specs.Isa.{Isa}
use Rattle.sl_model.specs.Body.{chosen, is_placed, is_still_held, all_differ, IsFaithfulNext, IsFaithfulFrom}
use Rattle.sl_model.specs.Lawful.{IsLawful, zero_register}
use Rattle.sl_model.specs.Graph.{body_of}
use Rattle.sl_model.specs.Legal.{Problem, IsLegalNext, IsLegalFrom, sources_in, suits_output, output_classes}
use Rattle.renamer.proofs.SoundGraph.{IsSoundGraph, precedes-is}
use Rattle.std.proofs.lemmas.Bool.{not-true, cases_Bool, and_parts}
use Rattle.renamer.proofs.LegalityRules.{SuitsOutput, suits_outputs, suits_operands}
use Rattle.sl_laws.proofs.RegSets.{is_zero-register}
use Rattle.sl_laws.proofs.Graphs.{preceding-conflicts}
use Rattle.sl_laws.proofs.Rules.{KeepsRules, keeps_rules}
use Rattle.sl_laws.proofs.Elements.{list_all-from_each, list_any-at, list_any-from_each}

-- no output of a legal choice goes to the zero register
plain_choice : (isa : Isa) (problem : Problem) (done : List Choice) (c : Choice) → IsLawful isa → IsSoundGraph isa problem.graph → IsLegalNext problem done c → list_any is_zero (chosen c) ≡ false
plain_choice isa problem done c lawful sound legal = list_any-from_each is_zero (chosen c) (λ k r at. ⊎_elim (λ t. absurd (never k r at (is_zero-register r t))) (λ f. f) (cases_Bool (is_zero r)))
  where
    never : (k : ℕ) (r : Reg) → slice_get (chosen c) k ≡ Some r → r ≡ zero_register → ⊥
    never k r at same =
        let suits : SuitsOutput isa problem c k r = suits_outputs isa problem done c sound legal k r at in
        let has : set_has suits.set zero_register ≡ true = subst (λ x. set_has suits.set x ≡ true) same suits.set_has_it in
        true≢false (sym has ∙ list_any-at (λ set. set_has set zero_register) (isa.info (item_at problem.graph.items c.item).form).out_sets k suits.set (lawful.writable (item_at problem.graph.items c.item).form) suits.set_at)

-- a legal choice is faithful
pub legal_choice-faithful : (isa : Isa) (problem : Problem) (done : List Choice) (c : Choice) → IsLawful isa → IsSoundGraph isa problem.graph → IsLegalNext problem done c → IsFaithfulNext isa (body_of problem.graph) done c
legal_choice-faithful isa problem done c lawful sound legal =
    let rules : KeepsRules problem done c = keeps_rules problem done c legal.rules in
    record {
      known = legal.of.known;
      fresh = not-true (is_placed done c.item) rules.l1;
      sources = list_all-from_each (is_still_held done) (sources_in problem c.item) (λ k value at. (suits_operands isa problem done c sound legal k value at).still_held);
      conflicts = preceding-conflicts isa (body_of problem.graph) (length problem.graph.items) c.item (is_placed done) sound.sources.known
          (ap (list_all (is_placed done)) (sym (precedes-is isa problem.graph sound c.item legal.of.known)) ∙ rules.l5);
      outputs = legal.of.outputs_given;
      distinct = (and_parts (list_all (suits_output problem c.item) (output_classes problem c)) (all_differ (chosen c)) rules.l4).1;
      writable = plain_choice isa problem done c lawful sound legal;
    }

-- a legal list of choices is faithful
pub legal-faithful : (isa : Isa) (problem : Problem) (done choices : List Choice) → IsLawful isa → IsSoundGraph isa problem.graph → IsLegalFrom problem done choices → IsFaithfulFrom isa (body_of problem.graph) done choices
legal-faithful isa problem done [] lawful sound legal = tt
legal-faithful isa problem done (c ∷ choices) lawful sound legal =
    (legal_choice-faithful isa problem done c lawful sound legal.0, legal-faithful isa problem (c ∷ done) choices lawful sound legal.1)
