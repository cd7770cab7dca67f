use Rattle.std.proofs.Common.{◌≡◌, drop, map}
use Rattle.std.specs.List.{fold}
use Rattle.clap.specs.Words.{app_of}
use Rattle.command_words.specs.App.{with_option}
use Rattle.command_words.specs.TableViews.{line_value}
use Rattle.command_words.proofs.parsing.with_options.Given as goal

-- with the options that are left it has all of them
abbrev pub invariant-loop-line : goal.invariant-loop-line
invariant-loop-line l =
    fold with_option (app_of l.command) (map (λ line. (line_value line).name) (drop l.line-index l.lines))
    ≡ fold with_option (app_of l.initial.command) (map (λ line. (line_value line).name) l.lines)
