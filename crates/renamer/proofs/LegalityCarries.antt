-- A full legal schedule carries out its problem.
use Rattle.std.proofs.Common.{List, [], ap, ◌∙◌}
use Rattle.sl_model.specs.declared.schedule.Choice.{Choice}
use Rattle.sl_model.specs.State.{State}
use Rattle.sl_model.specs.Isa.{Isa}
use Rattle.sl_model.specs.Body.{Body, flow_of, source_value, applied}
use Rattle.sl_model.specs.Lawful.{IsLawful}
use Rattle.sl_model.specs.Graph.{body_of, AreSources}
use Rattle.renamer.proofs.SoundGraph.{IsSoundGraph, sound-body}
use Rattle.sl_model.specs.Legal.{Problem, IsFullLegal}
use Rattle.sl_model.specs.Program.{TagsHoldOf}
use Rattle.renamer.specs.Faithful.{Carries, FaithfulOrderCarries}
use Rattle.renamer.specs.Outcome.{CarriesProblem}
use Rattle.renamer.specs.WellPosed.{IsWellPosed}
use Rattle.renamer.proofs.OrderKept.{applied-kept}
use Rattle.renamer.proofs.LegalityFaithful.{legal-faithful}
use Rattle.renamer.proofs.LegalityFinals.{finals-hold}
use Rattle.sl_model.specs.Machine.{space_of}

-- A full legal schedule carries out its problem, where faithful orders carry out their bodies.
pub legal-carries : FaithfulOrderCarries → (isa : Isa) (problem : Problem) (schedule : List Choice) (s : State) → IsLawful isa → IsWellPosed isa problem → AreSources problem.graph.items problem.graph.order problem.graph.sources → IsFullLegal problem schedule → TagsHoldOf (space_of isa.name) (flow_of isa (body_of problem.graph) s).touches → CarriesProblem isa problem schedule (applied (body_of problem.graph) schedule) s
legal-carries order isa problem schedule s lawful posed sources legal tags =
    let sound : IsSoundGraph isa problem.graph = record { of = posed.graph; sources = sources } in
    let body : Body = body_of problem.graph in
    let carried : Carries isa body schedule s = order isa body schedule s lawful (sound-body isa problem.graph sound) (legal-faithful isa problem [] schedule lawful sound legal.legal) legal.full tags in
    record {
      finals = λ k r value final. carried.registers r ∙ ap (source_value s (flow_of isa body s).values) (finals-hold isa problem schedule sound posed.made legal k r value final);
      bytes = carried.bytes;
      others = λ r untouched. applied-kept isa body [] schedule s r untouched;
      access_counts = carried.access_counts;
    }
