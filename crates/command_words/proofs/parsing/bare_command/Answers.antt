use Rattle.std.proofs.Common.{◌∙◌, ap, true}
use Rattle.clap.specs.Simple.{on_top, app_of_fields}
use Rattle.command_words.proofs.parsing.bare_command.Goals as goal

pub returns : goal.returns
returns c = ap app_of_fields c.disable_help_flag.ensures ∙ ap (on_top (λ s. record s { disable_help_flag = true })) c.new.ensures.app
