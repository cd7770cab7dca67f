-- The operand at a place is the register at that place of those given to the sources.
use Rattle.std.proofs.Common.{rules, tests, reverse, sym, ◌∙◌}
use Rattle.std.proofs.lemmas.Iterator.{YieldsList-from_slice}
use Rattle.std.proofs.lemmas.Iterator.Consumers.{YieldsList-from_filter_map, nth_from_yields_List}
use Rattle.sl_model.specs.Body.{given}
use Rattle.std.proofs.lemmas.Iterator.Adapters.{option_map_id}
use Rattle.renamer.proofs.applied.operand.Goals as goal

pub returns : goal.returns
returns c = sym (option_map_id c.nth.result) ∙ (nth_from_yields_List c.nth.result c.nth.new.self c.args.place c.nth.ensures.ran (YieldsList-from_filter_map _ (given (reverse c.args.done.now)) (YieldsList-from_slice c.args.sources.now (cc)) c.filter_map.ensures.closure (λ x r q k. search (rules, tests))))
