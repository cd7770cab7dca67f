-- One more item keeps the invariant; where no choice is left, the list is the schedule applied.
use Rattle.std.proofs.Common.{[], sym, ◌∙◌, subst, arith}
use Rattle.sl_model.specs.Graph.{Graph, body_of, AreSources}
use Rattle.renamer.specs.Outcome.{CarriesProblem}
use Rattle.sl_model.specs.Lawful.{AreValid}
use Rattle.renamer.proofs.AppliedLemmas.{applied-all, pushed-more}
use Rattle.renamer.proofs.LegalityCarries.{legal-carries}
use Rattle.renamer.proofs.LegalityValid.{applied-valid}
use Rattle.renamer.proofs.applied.apply.Goals as goal

pub loop-place-preserved : goal.loop-place-preserved
loop-place-preserved c = (
  omega arith,
  c.push_reserved.ensures.capacity ∙ c.loop-place.invariant.1,
  pushed-more (body_of c.args.problem.now.graph) c.args.schedule.now c.loop-place.place _ c.loop-place.list.items c.push_reserved.new.self.items c.applied_item.result c.loop-place-test.true c.push_reserved.ensures.items c.applied_item.ensures ∙ c.loop-place.invariant.2,
)

pub returns-clause-applied : goal.returns-clause-applied
returns-clause-applied c = applied-all _ c.args.schedule.now c.loop-place.place _ c.loop-place-test.false c.loop-place.invariant.2

pub returns-clause-carries : goal.returns-clause-carries
returns-clause-carries c isa s lawful posed legal tags =
    subst (λ items. CarriesProblem isa c.args.problem.now c.args.schedule.now items s) (sym (applied-all _ c.args.schedule.now c.loop-place.place _ c.loop-place-test.false c.loop-place.invariant.2))
    (legal-carries c.faithful_order_carries.ensures isa c.args.problem.now c.args.schedule.now s lawful posed (subst (λ (graph : Graph). AreSources graph.items graph.order graph.sources) c.graph.ensures c.is_sound.ensures.flow.sources) legal tags)

pub returns-clause-valid : goal.returns-clause-valid
returns-clause-valid c isa of legal =
    subst (AreValid isa) (sym (applied-all _ c.args.schedule.now c.loop-place.place _ c.loop-place-test.false c.loop-place.invariant.2))
    (applied-valid isa c.args.problem.now [] c.args.schedule.now (record { of = of; sources = subst (λ (graph : Graph). AreSources graph.items graph.order graph.sources) c.graph.ensures c.is_sound.ensures.flow.sources }) legal.legal)
