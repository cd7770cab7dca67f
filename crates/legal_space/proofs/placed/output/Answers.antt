-- The output at a place is the item at that place of those that are there.
use Rattle.std.proofs.Common.{rules, tests, slice_get, sym, ap, ◌∙◌}
use Rattle.std.proofs.lemmas.Iterator.{YieldsList-from_slice}
use Rattle.std.proofs.lemmas.Iterator.Consumers.{YieldsList-from_filter_map, nth_from_yields_List}
use Rattle.sl_model.specs.Body.{chosen}
use Rattle.std.proofs.lemmas.Iterator.Adapters.{option_map_id}
use Rattle.legal_space.proofs.placed.output.Goals as goal

pub returns : goal.returns
returns c =
    sym (option_map_id c.nth.result)
    ∙ (nth_from_yields_List c.nth.result c.nth.new.self c.from.result c.nth.ensures.ran (YieldsList-from_filter_map _ (λ o. o) (YieldsList-from_slice c.args.choice.now.outs (cc)) c.filter_map.ensures.closure (λ x r q k. search (rules, tests))))
    ∙ ap (slice_get (chosen c.args.choice.now)) c.from.ensures
