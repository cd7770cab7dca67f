-- What a command answers to the bytes of its files: a text, or the reason why there is none.
use Rattle.std.specs.Prelude.{ℕ, Bool, ◌≡◌, nat_lt, length, List, Option, None, Some, MatchResult, Result, Ok, Err, true, false, if◌then◌else◌}
use Rattle.sl_model.specs.declared.schedule.Choice.{Choice}
use Rattle.sl_model.specs.State.{State}
use Rattle.sl_model.specs.Exec.{touches}
use Rattle.sl_model.specs.Space.{IsBest, stalls_of}
use Rattle.sl_model.specs.Program.{TagsHoldOf, Leaves}
use Rattle.sl_model.specs.Program.Program.{Straight}
use Rattle.sl_model.specs.Machine.{space_of}
use Rattle.sl_isa.specs.Language.{Language}
use Rattle.sl_isa.specs.declared.arch.CounterOp.TheVariants.{Sub, Subs}
use Rattle.asm_reader.specs.Reading.{Progress, Region, region_alone}
use Rattle.slothy_cli.specs.declared.stop.Stop.{Stop}
use Rattle.slothy_cli.specs.declared.stop.Stop.TheVariants as stops
use Rattle.slothy_cli.specs.declared.stop.Quantity.TheVariants as quantities
use Rattle.search_space.specs.Levels.{straight_trees}
use Rattle.bnb_solver.specs.declared.refusal.TheConstants.{TREES}
use Rattle.bnb_solver.specs.Straight.{Straight as TreesOf}
use Rattle.bnb_solver.specs.declared.refusal.ForestErr.{ForestErr}
use Rattle.bnb_solver.specs.declared.refusal.ForestErr.TheVariants as refusals
use Rattle.sl_model.specs.Legal.{Problem}
use Rattle.slothy_cli.specs.declared.stop.File.{File}
use Rattle.slothy_cli.specs.declared.stop.File.TheVariants as files
use Rattle.command_words.specs.declared.options.CoreWord.{CoreWord}
use Rattle.command_words.specs.declared.options.CoreWord.TheVariants as cores
use Rattle.core_text.specs.Core.{CoreTable}
use Rattle.core_text.specs.Plain.{plain_core}
use Rattle.slothy_cli.specs.Command.{Aim, Job, cost, opt, demo, Task, upon, emulate, Command, region_wants}
use Rattle.slothy_cli.specs.Setting.{Setting}
use Rattle.slothy_cli.specs.Reads.{Reads, Given, ◌>>=◌, bytes_of, given, outcome}
use Rattle.slothy_cli.specs.Inputs.{file_core, file_region, region_costs, run_answer}
use Rattle.slothy_cli.specs.Plan.{region_frame, region_problem, schedule_text, schedule_file}
use Rattle.slothy_cli.specs.CostText.{cost_text, own_stalls}
use Rattle.slothy_cli.specs.DemoLine.{demo_line}
use Rattle.slothy_cli.specs.Searched.{too_many_trees, region_searched, HasFewest, IsOutOfReach}
use Rattle.demo_kernel.specs.Kernel.{kernel_text}

-- The text of `opt`: the written file of a schedule, which is the best of the space, and no full
-- legal one has fewer stalls; and its region, read by itself, leaves what the old one leaves, from
-- every state.
pub record OptText (language : Language) (aim : Aim) (setting : Setting)
    (schedule : List Choice) (text : List ℕ) : Type 0 where
  pub best : IsBest (region_problem language.isa aim setting) aim.most schedule
  pub fewest : HasFewest (region_problem language.isa aim setting) schedule
  pub text_is : text
      ≡ schedule_file language setting.core setting.region
      (region_problem language.isa aim setting) schedule
  pub new : Progress
  pub reads : region_alone language region_wants
      (schedule_text language setting.core setting.region
      (region_problem language.isa aim setting) schedule)
      ≡ Ok new
  pub same : (s : State)
      → TagsHoldOf (space_of language.isa.name) (touches language.isa setting.region.items s)
      → Leaves language.isa (λ flagged c. language.step_of (if flagged then Subs else Sub 1) c 0)
      (region_frame aim setting.region.items) (Straight setting.region.items)
      (Straight new.draft.items) s

-- what is answered where a schedule was found: its text
abbrev pub FoundAnswers : Language → Aim → Setting → List Choice → Result (List ℕ) Stop → Type 0
FoundAnswers language aim setting schedule (Ok text) = OptText language aim setting schedule text
FoundAnswers language aim setting schedule (Err stop) = ⊥

-- what is answered where a search finds no schedule: why; and where that is for want of one with so
-- few stalls, no full legal one has so few
abbrev pub StopAnswers : Problem → ℕ → Stop → Result (List ℕ) Stop → Type 0
StopAnswers problem most stop answer =
    (answer ≡ Err stop) × (stop ≡ stops.Infeasible most → IsOutOfReach problem most)

-- what `opt` answers to a region on a core, by what the search of its problem gives
abbrev pub OptAnswers : Language → Aim → Setting → Result (List ℕ) Stop → Type 0
OptAnswers language aim setting answer =
    MatchResult (region_searched language.isa aim setting)
    (λ schedule. FoundAnswers language aim setting schedule answer)
    (λ stop. StopAnswers (region_problem language.isa aim setting) aim.most stop answer)

-- What is answered to a kernel where a schedule was found: it is the best, no full legal one has fewer
-- stalls, and the line has the stalls of the region as it stands, and those of this schedule.
abbrev pub KernelAnswers : Language → Aim → ℕ → ℕ → Setting → List Choice → Result (List ℕ) Stop
    → Type 0
KernelAnswers language aim key count setting schedule answer =
    IsBest (region_problem language.isa aim setting) aim.most schedule
    × HasFewest (region_problem language.isa aim setting) schedule
    × (answer ≡ Ok (demo_line key count (own_stalls language.isa setting)
    (stalls_of (region_problem language.isa aim setting) schedule)))

-- what `demo` answers to a kernel on a core, by what the search of its problem gives
abbrev pub DemoAnswers : Language → Aim → ℕ → ℕ → Setting → Result (List ℕ) Stop → Type 0
DemoAnswers language aim key count setting answer =
    MatchResult (region_searched language.isa aim setting)
    (λ schedule. KernelAnswers language aim key count setting schedule answer)
    (λ stop. StopAnswers (region_problem language.isa aim setting) aim.most stop answer)

-- what a problem's trees are made into: a forest, unless there are too many
abbrev pub ForestAnswers : Problem → ℕ → Result TreesOf Stop → Type 0
ForestAnswers problem budget (Ok forest) =
    (forest ≡ record { problem = problem; budget = budget })
    × (nat_lt TREES (length (straight_trees problem)) ≡ false)
ForestAnswers problem budget (Err stop) =
    (stop ≡ too_many_trees) × (nat_lt TREES (length (straight_trees problem)) ≡ true)

-- the reason to stop of trees that were refused, and none for want of memory
abbrev pub trees_stop : ForestErr → Option Stop
trees_stop (refusals.TooManyTrees limit) =
    Some (stops.TooLarge files.Input 0 quantities.Trees limit)
trees_stop refusals.NoMemory = None

-- what a job answers to a region on a core
abbrev pub JobAnswers : Language → Job → Setting → Result (List ℕ) Stop → Type 0
JobAnswers language cost setting answer = answer ≡ Ok (cost_text language setting)
JobAnswers language (opt aim) setting answer = OptAnswers language aim setting answer
JobAnswers language (demo aim key count) setting answer =
    DemoAnswers language aim key count setting answer

-- What is left to be done once the files are read: a job on a core, or to run a region on the bytes
-- of a state file.
pub data Work : Type 0 where
  scheduling : Job → Setting → Work
  running : Region → List ℕ → Work

-- what is answered to it
abbrev pub WorkAnswers : Language → Work → Result (List ℕ) Stop → Type 0
WorkAnswers language (scheduling job setting) answer = JobAnswers language job setting answer
WorkAnswers language (running region state) answer =
    answer ≡ run_answer language region.items state

-- the core of the file that is named
abbrev pub core_file_reads : Language → Reads CoreTable
core_file_reads language = do
  core ← bytes_of files.Core
  given (file_core language core)

-- the core that a word names
abbrev pub core_reads : Language → CoreWord → Reads CoreTable
core_reads language (cores.Plain latency) = Given (plain_core language.isa.name latency)
core_reads language (cores.File name) = core_file_reads language

-- the region that the bytes of the input hold, and what is read behind it
abbrev pub input_reads : Language → Command → (Region → Reads Work) → List ℕ → Reads Work
input_reads language c next input = do
  region ← given (file_region language c input)
  next region

-- a job on a region and a core, once it is known what the region costs
abbrev pub setting_reads : Language → Job → CoreTable → Region → Reads Work
setting_reads language job core region = do
  costs ← given (region_costs language job core region)
  Given (scheduling job (record { core = core; region = region; costs = costs }))

-- the text with the region of a job: that of its file, or the kernel that it is given
abbrev pub input_for : Job → Reads (List ℕ)
input_for cost = bytes_of files.Input
input_for (opt aim) = bytes_of files.Input
input_for (demo aim key count) = Given (kernel_text key count)

-- what a job on a core reads, and what is left to be done, where its region is in the text that is
-- read first
abbrev pub region_reads : Language → Command → Job → CoreTable → Reads (List ℕ) → Reads Work
region_reads language c job core text = do
  input ← text
  input_reads language c (setting_reads language job core) input

-- the same where it is known which text that is
abbrev pub job_reads : Language → Command → Job → CoreTable → Reads Work
job_reads language c job core = region_reads language c job core (input_for job)

-- the same of a job on the core that a word names
abbrev pub on_core_reads : Language → Command → CoreWord → Job → Reads Work
on_core_reads language c word job = do
  core ← core_reads language word
  job_reads language c job core

-- the state that a region is run on
abbrev pub state_reads : Region → Reads Work
state_reads region = do
  state ← bytes_of files.State
  Given (running region state)

-- what a run reads, and what is left to be done
abbrev pub run_reads : Language → Command → Reads Work
run_reads language c = do
  input ← bytes_of files.Input
  input_reads language c state_reads input

-- what a task reads, and what is left to be done
abbrev pub task_reads : Language → Command → Task → Reads Work
task_reads language c (upon word job) = on_core_reads language c word job
task_reads language c (emulate state turns) = run_reads language c

-- what a command reads, in the order of its refusals, and what is left to be done
unfoldable pub command_reads : Language → Command → Reads Work
command_reads language c = task_reads language c c.task

-- What a command answers to the bytes of its files: a text, or the one reason why there is none.
-- Each read may give it, in their order; and else what is left to be done does.
abbrev pub CommandAnswers : Language → Command → (File → List ℕ) → Result (List ℕ) Stop → Type 0
CommandAnswers language c bytes answer =
    MatchResult (outcome bytes (command_reads language c))
    (λ work. WorkAnswers language work answer) (λ stop. answer ≡ Err stop)
