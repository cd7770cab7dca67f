-- Wrong words. Source: this project's own command line, of which all that is wrong is one
-- refusal, `Usage`.
use Rattle.std.specs.Prelude.{Option, None, Some, Result, Ok, Err}
use Rattle.command_words.specs.declared.options.WordsErr.{WordsErr}
use Rattle.command_words.specs.declared.options.WordsErr.TheVariants.{Usage, NoMemory}

-- the one refusal
pub data WrongUse : Type 0 where
  wrong_use : WrongUse

-- the refusal that a failure is: want of memory is none
abbrev pub usage_of : WordsErr → Option WrongUse
usage_of Usage = Some wrong_use
usage_of NoMemory = None

-- what is there, or wrong use
abbrev pub or_wrong : {X : Type 0} → Option X → Result X WrongUse
or_wrong None = Err wrong_use
or_wrong (Some x) = Ok x
