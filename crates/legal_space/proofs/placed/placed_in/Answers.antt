-- Where the item was placed, its last choice says so.
use Rattle.std.proofs.Common.{reverse, ◌∙◌}
use Rattle.legal_space.proofs.PlacedLemmas.{placed-nowhere, placed-last}
use Rattle.legal_space.proofs.placed.placed_in.Goals as goal

pub returns-in_default : goal.returns-in_default
returns-in_default c = placed-nowhere c.args.item c.args.place (reverse c.args.done.now) c.in_default.ensures

pub returns : goal.returns
returns c = c.output.ensures ∙ placed-last c.args.item c.args.place (reverse c.args.done.now) c.in-Some.choice.now c.in-Some.ensures
