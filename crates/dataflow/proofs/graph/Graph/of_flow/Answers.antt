use Rattle.std.proofs.Common.{length, ap, ◌∙◌}
use Rattle.std.proofs.lemmas.List.{length-map}
use Rattle.sl_model.specs.Source.{numbers_below}
use Rattle.sl_model.specs.Graph.{preceding}
use Rattle.dataflow.specs.Flows.{flow_body}
use Rattle.dataflow.proofs.FewSources.{few-sources}
use Rattle.dataflow.proofs.graph.Graph.of_flow.Goals as goal
use Rattle.sl_laws.proofs.Numbers.{length-numbers}

pub invariant_of-result : goal.invariant_of-result
invariant_of-result g c = record {
  flow = record {
    few = c.requires.few;
    sources = c.requires.sources;
    operands = few-sources g.A.Arch.language.isa c.args.flow.items c.args.flow.order c.args.flow.sources c.requires.valid c.requires.sources;
  };
  infos = ap length (c.in_ok-infos.ensures) ∙ length-map _ _ ∙ ap length c.items.ensures;
  precedes = ap length c.in_ok-precedes.ensures
      ∙ length-map (numbers_below (length c.args.flow.items)) (preceding g.A.Arch.language.isa (flow_body c.args.flow) (length c.args.flow.items))
      ∙ length-numbers (length c.args.flow.items);
}
