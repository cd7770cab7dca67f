use Rattle.std.proofs.Common.{◌≡◌, length, map, sym, subst, ◌∙◌, rules}
use Rattle.sl_model.specs.Source.{numbers_below, list_sources}
use Rattle.sl_model.specs.Graph.{AreSources}
use Rattle.dataflow.specs.Flows.{Flow}
use Rattle.dataflow.proofs.graph.Graph.build.Goals as goal
use Rattle.sl_laws.proofs.Graphs.{list-are_sources}

pub of_flow-requires-clause-sources : goal.of_flow-requires-clause-sources
of_flow-requires-clause-sources g c =
    let items : c.in_ok-items.items.items ≡ c.args.items.now = search rules in
    let order : c.in_ok-order.order.items ≡ numbers_below (length c.args.items.now) = search rules in
    let is : c.new.result ≡ record { items = c.args.items.now; order = numbers_below (length c.args.items.now); sources = map (list_sources c.args.items.now) (numbers_below (length c.args.items.now)) } =
    c.new.ensures ∙ (λ i. record { items = items i; order = order i; sources = c.in_ok-sources.ensures i }) in
    subst (λ (flow : Flow). AreSources flow.items flow.order flow.sources) (sym is) (list-are_sources g.A.Arch.language.isa c.args.items.now)
