-- The command that clap parses: two positional words, and options of one value. Source: what
-- clap's clauses say of `Command` and `Arg`.
use Rattle.std.specs.Prelude.{true, Some, codes}
use Rattle.std.specs.List.{fold}
use Rattle.clap.specs.Words.{App, new_app, new_rule, with_rule}
use Rattle.clap.specs.Simple.{on_top}
use Rattle.command_words.specs.Saying.{places}
use Rattle.command_words.specs.Table.{Text, option_names}

-- a command with no arguments and no `--help`
abbrev pub bare : App
bare = on_top (λ s. record s { disable_help_flag = true }) (new_app (codes "slothy"))

-- one more positional word
abbrev pub with_place : App → Text → App
with_place a name = with_rule a (new_rule name)

-- one more option
abbrev pub with_option : App → Text → App
with_option a name = with_rule a (record (new_rule name) { long = Some name })

-- the whole command
unfoldable pub app : App
app = fold with_option (fold with_place bare places) option_names
