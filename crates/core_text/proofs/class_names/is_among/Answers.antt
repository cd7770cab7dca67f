use Rattle.std.proofs.Common.{◌∙◌}
use Rattle.core_text.proofs.Names.{among-is}
use Rattle.core_text.proofs.class_names.is_among.Goals as goal

pub returns : goal.returns
returns c = c.has_name.ensures ∙ among-is c.args.name.now c.args.names.now
