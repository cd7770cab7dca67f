use Rattle.std.proofs.Common.{◌≡◌, drop, is_some}
use Rattle.std.specs.List.{list_all}
use Rattle.clap.specs.Words.{found_of, first_value}
use Rattle.command_words.specs.Table.{keeps, use_by}
use Rattle.command_words.specs.TableViews.{line_value}
use Rattle.command_words.proofs.reading.suits_lines.Given as goal

-- what holds of the options that are left holds of all
abbrev pub invariant-loop-line : goal.invariant-loop-line
invariant-loop-line l =
    list_all (λ line. keeps (use_by l.mode (line_value line)) (is_some (first_value (found_of l.matches) line.name.now))) (drop l.line-index l.lines)
    ≡ list_all (λ line. keeps (use_by l.mode (line_value line)) (is_some (first_value (found_of l.matches) line.name.now))) l.lines
