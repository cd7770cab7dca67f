-- What is known of a call of the command.
use Rattle.std.specs.Prelude.{ℕ, ◌≡◌, ◌⊎◌, List, Option, None, Some, Result}
use Rattle.slothy_cli.specs.declared.status.Ending.{Ending}
use Rattle.slothy_cli.specs.declared.status.Status.{Status}
use Rattle.slothy_cli.specs.declared.status.Status.TheVariants.{Usage, NoMemory}
use Rattle.slothy_cli.specs.declared.stop.File.{File}
use Rattle.slothy_cli.specs.declared.stop.Stop.{Stop}
use Rattle.slothy_cli.specs.Command.{Command, command_of}
use Rattle.slothy_cli.specs.Languages.{language_of}
use Rattle.slothy_cli.specs.Messages.{status_of}
use Rattle.slothy_cli.specs.Outcome.{command_reads, CommandAnswers}
use Rattle.slothy_cli.specs.Ending.{FilesRun, SinkRun, Call, AreTold, names_of_command, IsStatusOf}

-- A call with these words, on files of which `holds` tells what is known, ended with this status.
pub record Ran (words : List (List ℕ)) (holds : List ℕ → Option (List ℕ)) (files : FilesRun)
    (out err : SinkRun) (status : Status) : Type 0 where
  -- it is that of an ending, which has its cause and says what the two sinks took
  pub call : (ending : Ending) × (status ≡ status_of ending)
      × Call words holds files out err ending
  -- wrong use is answered only where the words are wrong, and there always, want of memory aside
  pub usage : status ≡ Usage → command_of words ≡ None
  pub wrong : command_of words ≡ None → (status ≡ Usage) ⊎ (status ≡ NoMemory)
  -- of files whose bytes are known it is that of their outcome, faults and want of memory aside
  pub exact : (c : Command) (bytes : File → List ℕ) (answer : Result (List ℕ) Stop)
      → command_of words ≡ Some c
      → AreTold (names_of_command c) holds bytes (command_reads (language_of c.arch) c)
      → CommandAnswers (language_of c.arch) c bytes answer → IsStatusOf answer status
