use Rattle.std.proofs.Common.{◌≡◌, ◌∙◌, ap, codes, Result, Ok, Err}
use Rattle.std.specs.Prelude.{IfOk}
use Rattle.clap.specs.Words.{App, app_of}
use Rattle.command_words.specs.App.{app, with_place}
use Rattle.command_words.proofs.Apps.{whole-app}
use Rattle.command_words.proofs.parsing.whole_command.Goals as goal

changed : {X Y E : Type 0} (view : X → Y) (a b : Y) (r : Result X E) → a ≡ b → IfOk r (λ x. view x ≡ a) → IfOk r (λ x. view x ≡ b)
changed view a b (Ok x) e is = is ∙ e
changed view a b (Err x) e is = tt

pub returns : goal.returns
returns c =
    changed app_of _ app c.with_options.result
    (whole-app (app_of c.in_ok-with_input.with_input) c.option_lines.result
    (c.in_ok-with_input.ensures ∙ ap (λ (a : App). with_place a (codes "INPUT")) (c.in_ok-with_mode.ensures ∙ ap (λ (a : App). with_place a (codes "MODE")) c.bare_command-bare.ensures))
    c.option_lines.ensures)
    c.with_options.ensures
