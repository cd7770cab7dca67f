use Rattle.std.proofs.Common.{◌≡◌, map, sym, subst, ◌∙◌, rules}
use Rattle.std.specs.List.{filter_map}
use Rattle.sl_model.specs.Graph.{AreSources}
use Rattle.dataflow.specs.Flows.{Flow}
use Rattle.dataflow.proofs.graph.Graph.from_sources.Goals as goal

pub of_flow-requires-clause-sources : goal.of_flow-requires-clause-sources
of_flow-requires-clause-sources g c =
    let items : c.in_ok-items.items.items ≡ c.args.items.now = search rules in
    let order : c.in_ok-order.order.items ≡ c.args.order.now = search rules in
    let is : c.new.result ≡ record { items = c.args.items.now; order = c.args.order.now; sources = map (filter_map (λ s. s)) c.args.sources.now } =
    c.new.ensures ∙ (λ i. record { items = items i; order = order i; sources = c.in_ok-sources.ensures i }) in
    subst (λ (flow : Flow). AreSources flow.items flow.order flow.sources) (sym is) c.requires.sources
