-- The register at a place is the item at that place of those that are there.
use Rattle.std.proofs.Common.{rules, tests, sym, ◌∙◌}
use Rattle.std.proofs.lemmas.Iterator.{YieldsList-from_slice}
use Rattle.std.proofs.lemmas.Iterator.Consumers.{YieldsList-from_filter_map, nth_from_yields_List}
use Rattle.std.proofs.lemmas.Iterator.Adapters.{option_map_id}
use Rattle.reduced_choice.proofs.order.reg_at.Goals as goal

pub returns : goal.returns
returns c =
    sym (option_map_id c.nth.result)
    ∙ nth_from_yields_List c.nth.result c.nth.new.self c.args.place c.nth.ensures.ran (YieldsList-from_filter_map _ (λ o. o) (YieldsList-from_slice c.args.outs.now (cc)) c.filter_map.ensures.closure (λ x r q k. search (rules, tests)))
