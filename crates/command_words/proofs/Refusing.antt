-- What a refusal shows.
use Rattle.std.proofs.Common.{◌≡◌, Result, Err, refl}
use Rattle.sl_model.specs.Answers.{Refuses}
use Rattle.command_words.specs.declared.options.WordsErr.{WordsErr}
use Rattle.command_words.specs.declared.options.WordsErr.TheVariants.{Usage, NoMemory}
use Rattle.command_words.specs.Answer.{WrongUse, wrong_use, usage_of}

-- a failure refuses where it isn't want of memory
pub refuses : {Y : Type 0} (e : WordsErr) (answer : Result Y WrongUse) → (e ≡ Usage → answer ≡ Err wrong_use) → Refuses (usage_of e) answer
refuses Usage answer h = h refl
refuses NoMemory answer h = tt
