-- What a command is asked to do. Source: this project's own command line.
use Rattle.std.specs.Prelude.{ℕ, ◌≤◌, List, [], Option, None, Some, Result, Ok, Err}
use Rattle.std.specs.Option.{option_map}
use Rattle.asm_reader.specs.declared.reasons.Wants.{Wants}
use Rattle.command_words.specs.Answer.{WrongUse}
use Rattle.command_words.specs.Command as words
use Rattle.command_words.specs.Whole.{IsWholeCore}
use Rattle.command_words.specs.declared.options.CoreWord.{CoreWord}
use Rattle.command_words.specs.declared.options.CoreWord.TheVariants as cores
use Rattle.command_words.specs.declared.options.Mode.{Mode}
use Rattle.command_words.specs.declared.options.Mode.TheVariants as modes
use Rattle.command_words.specs.declared.options.Options.{Options}
use Rattle.sl_model.specs.declared.instruction.ArchName.{ArchName}
use Rattle.sl_model.specs.declared.register.RegSet.{RegSet}
use Rattle.sl_model.specs.declared.limits.TheConstants.{ITEMS}

-- What `opt` is asked for: the registers that live on behind the region, where they are given, those
-- that are free, how many stalls a schedule may have, and how many lists of choices are looked at in
-- a tree.
pub record Aim : Type 0 where
  pub live : Option RegSet
  pub free : RegSet
  pub most : ℕ
  pub budget : ℕ

-- What is done with a region on a core: it is costed as it stands, or rescheduled; or a kernel that
-- two numbers give is, its key and its number of items.
pub data Job : Type 0 where
  cost : Job
  opt : Aim → Job
  demo : Aim → ℕ → ℕ → Job

-- What is to be done: a job on the core that a word names, or a run from the state of a file, of at
-- most so many turns of a loop.
pub data Task : Type 0 where
  upon : CoreWord → Job → Task
  emulate : List ℕ → ℕ → Task

-- the architecture, what is to be done, the file, and the labels at the start and at the end of its region
pub record Command : Type 0 where
  pub arch : ArchName
  pub task : Task
  pub name : List ℕ
  pub start : List ℕ
  pub end : List ℕ

-- what `opt` is asked for by options
abbrev pub aim_in : Options → Aim
aim_in o = record { live = o.live; free = o.free; most = o.most; budget = o.budget }

-- what a mode does by its options
abbrev pub task_in : Mode → Options → Option Task
task_in modes.Cost o = option_map (λ core. upon core cost) o.core
task_in modes.Opt o = option_map (λ core. upon core (opt (aim_in o))) o.core
task_in modes.Demo o = option_map (λ core. upon core (demo (aim_in o) o.key o.count)) o.core
task_in modes.Run o = option_map (λ state. emulate state o.turns) o.state

-- the command of options
abbrev pub command_in : Options → Option Command
command_in o =
    option_map
    (λ task. record { arch = o.arch; task = task; name = o.input; start = o.start; end = o.end })
    (task_in o.mode o)

-- the command of options, where there are some
abbrev pub command_by : Result Options WrongUse → Option Command
command_by (Ok o) = command_in o
command_by (Err wrong) = None

-- What a command's words ask for; there is none where they are wrong.
unfoldable pub command_of : List (List ℕ) → Option Command
command_of said = command_by (words.command_of said)

-- what is wanted of a region: at most 64 items
abbrev pub region_wants : Wants
region_wants = record { limit = ITEMS }

-- A kernel has at most 64 items.
abbrev pub IsRightJob : Job → Type 0
IsRightJob cost = Unit {0}
IsRightJob (opt aim) = Unit {0}
IsRightJob (demo aim key count) = count ≤ ITEMS

-- the line that is told of an instruction of a job's region: a kernel has no file, and no line
abbrev pub line_for : Job → ℕ → ℕ
line_for cost line = line
line_for (opt aim) line = line
line_for (demo aim key count) line = 0

-- The core's word is in range, where there is one, and so is the job.
abbrev pub HasCore : Task → Type 0
HasCore (upon core job) = IsWholeCore core × IsRightJob job
HasCore (emulate state turns) = Unit {0}
