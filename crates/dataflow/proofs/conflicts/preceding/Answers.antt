use Rattle.std.proofs.Common.{◌<◌, filter, sym, ap, ◌∙◌, arith}
use Rattle.sl_model.specs.Graph.{must_precede}
use Rattle.sl_model.specs.declared.limits.TheConstants.{SET_ITEMS}
use Rattle.dataflow.specs.Flows.{flow_body}
use Rattle.dataflow.specs.ItemSets.{with_item}
use Rattle.dataflow.proofs.Sets.{with_item-next}
use Rattle.dataflow.proofs.conflicts.preceding.Goals as goal
use Rattle.sl_laws.proofs.Numbers.{numbers-none, filter_numbers-same}

pub loop-other-init : goal.loop-other-init
loop-other-init g c =
    c.new-set.ensures ∙ ap (filter (must_precede g.A.Arch.language.isa (flow_body c.args.flow.now) c.args.item)) (sym numbers-none)

pub loop-other-preserved-then-not-must_precede : goal.loop-other-preserved-then-not-must_precede
loop-other-preserved-then-not-must_precede g c =
    c.loop-other.invariant
    ∙ sym (filter_numbers-same (must_precede g.A.Arch.language.isa (flow_body c.args.flow.now) c.args.item) c.loop-other.other
    (sym c.must_precede.ensures ∙ c.if-not-must_precede.true))

pub loop-other-preserved : goal.loop-other-preserved
loop-other-preserved g c =
    let within : c.loop-other.other < SET_ITEMS = omega arith in
    c.insert.ensures ∙ ap (with_item c.loop-other.other) c.loop-other.invariant
    ∙ with_item-next (must_precede g.A.Arch.language.isa (flow_body c.args.flow.now) c.args.item) c.loop-other.other within
    (sym c.must_precede.ensures ∙ c.if-not-must_precede.false)
