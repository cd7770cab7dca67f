use Rattle.std.proofs.Common.{◌∙◌, ap, sym, Bool, Ok, Err, if◌then◌else◌}
use Rattle.clap.specs.Words.{found_of, first_value}
use Rattle.command_words.specs.Answer.{wrong_use}
use Rattle.command_words.specs.Command.{suited}
use Rattle.command_words.proofs.Apps.{suits-lines}
use Rattle.command_words.proofs.reading.suited.Goals as goal

pub returns-then-not-suits_lines : goal.returns-then-not-suits_lines
unfolding suited
returns-then-not-suits_lines c =
    let tested = suits-lines c.args.mode (first_value (found_of c.args.matches.now)) c.option_lines.result c.option_lines.ensures in
    ap (λ (b : Bool). if b then Ok c.args.mode else Err wrong_use) (tested ∙ sym c.suits_lines.ensures ∙ c.if-not-suits_lines.true)

pub returns : goal.returns
unfolding suited
returns c =
    let tested = suits-lines c.args.mode (first_value (found_of c.args.matches.now)) c.option_lines.result c.option_lines.ensures in
    ap (λ (b : Bool). if b then Ok c.args.mode else Err wrong_use) (tested ∙ sym c.suits_lines.ensures ∙ c.if-not-suits_lines.false)
