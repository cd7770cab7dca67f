use Rattle.std.proofs.Common.{◌∙◌}
use Rattle.core_text.proofs.Names.{place-is}
use Rattle.core_text.proofs.class_names.place_of.Goals as goal

pub returns-clause-place : goal.returns-clause-place
returns-clause-place c = c.position_of.ensures ∙ place-is c.args.name.now c.args.names.now
