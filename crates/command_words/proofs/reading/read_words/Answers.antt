use Rattle.std.proofs.Common.{Result, Ok, Err, subst}
use Rattle.std.specs.Prelude.{IfOk}
use Rattle.sl_model.specs.Answers.{Gives}
use Rattle.command_words.specs.declared.options.Options.{Options}
use Rattle.command_words.specs.declared.options.WordsErr.{WordsErr}
use Rattle.command_words.specs.Answer.{WrongUse, usage_of}
use Rattle.command_words.specs.Whole.{IsWhole}
use Rattle.command_words.proofs.Wholeness.{options-whole}
use Rattle.clap.specs.Words.{found_of, first_value}
use Rattle.command_words.proofs.reading.read_words.Goals as goal

-- what is given is what the definition says, of which it holds
given : (r : Result Options WordsErr) (answer : Result Options WrongUse) → Gives usage_of (λ options. options) r answer → IfOk answer IsWhole → IfOk r IsWhole
given (Ok options) answer is whole = subst (λ (a : Result Options WrongUse). IfOk a IsWhole) is whole
given (Err e) answer is whole = tt

pub returns-clause-whole : goal.returns-clause-whole
returns-clause-whole c = given c.options_of.result _ c.options_of.ensures (options-whole (first_value (found_of c.in_ok-matches.matches)))
