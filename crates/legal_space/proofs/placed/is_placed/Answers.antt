use Rattle.std.proofs.Common.{◌∙◌}
use Rattle.legal_space.proofs.PlacedLemmas.{any_placed}
use Rattle.legal_space.proofs.placed.is_placed.Goals as goal

pub returns : goal.returns
returns c = c.has_choice.ensures ∙ any_placed c.args.done.now c.args.item
