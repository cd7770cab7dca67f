-- The code's table, as clap is told of it and as a mode is held against it.
use Rattle.std.proofs.Common.{◌≡◌, ◌∙◌, ◌&&◌, List, [], ◌∷◌, map, is_some, Option, refl, sym, ap, ap₂}
use Rattle.std.specs.List.{fold, list_all}
use Rattle.clap.specs.Words.{App}
use Rattle.command_words.specs.declared.options.Mode.{Mode}
use Rattle.command_words.specs.declared.table.OptionLine.{OptionLine as CodeLine}
use Rattle.command_words.specs.App.{app, bare, with_place, with_option}
use Rattle.command_words.specs.Saying.{places}
use Rattle.command_words.specs.Table.{Text, OptionLine, option_lines, option_names, keeps, use_by, suits}
use Rattle.command_words.specs.TableViews.{line_value}

-- the names of the code's lines
names-are : (lines : List CodeLine) → map (λ line. (line_value line).name) lines ≡ map (λ (line : OptionLine). line.name) (map line_value lines)
names-are [] = refl
names-are (line ∷ lines) = ap (λ names. (line_value line).name ∷ names) (names-are lines)

-- a command with the places and the options is the whole one
pub whole-app : (a : App) (lines : List CodeLine) → a ≡ fold with_place bare places → map line_value lines ≡ option_lines
    → fold with_option a (map (λ line. (line_value line).name) lines) ≡ app
unfolding app option_names
whole-app a lines placed all = ap₂ (fold with_option) placed (names-are lines ∙ ap (map (λ (line : OptionLine). line.name)) all)

-- the test of the code's lines
lines-keep : (mode : Mode) (look : Text → Option Text) (lines : List CodeLine)
    → list_all (λ line. keeps (use_by mode line) (is_some (look line.name))) (map line_value lines)
    ≡ list_all (λ line. keeps (use_by mode (line_value line)) (is_some (look line.name.now))) lines
lines-keep mode look [] = refl
lines-keep mode look (line ∷ lines) = ap (λ b. keeps (use_by mode (line_value line)) (is_some (look line.name.now)) && b) (lines-keep mode look lines)

pub suits-lines : (mode : Mode) (look : Text → Option Text) (lines : List CodeLine) → map line_value lines ≡ option_lines
    → suits mode look ≡ list_all (λ line. keeps (use_by mode (line_value line)) (is_some (look line.name.now))) lines
unfolding suits
suits-lines mode look lines all = ap (list_all (λ (line : OptionLine). keeps (use_by mode line) (is_some (look line.name)))) (sym all) ∙ lines-keep mode look lines
