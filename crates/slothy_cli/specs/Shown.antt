-- The code's data, as the definitions see it.
use Rattle.std.specs.Prelude.{Option, None, Some, Result, Ok, Err}
use Rattle.slothy_cli.specs.declared.command.Command as words
use Rattle.slothy_cli.specs.declared.stop.Stop.{Stop}
use Rattle.slothy_cli.specs.declared.stop.Failure.{Failure}
use Rattle.slothy_cli.specs.declared.stop.Failure.TheVariants.{Stopped, NoMemory}
use Rattle.slothy_cli.specs.declared.status.Ending.{Ending}
use Rattle.slothy_cli.specs.declared.status.Ending.TheVariants as endings
use Rattle.sl_base.specs.declared.reading.ReadErr.{ReadErr}
use Rattle.sl_base.specs.declared.reading.ReadErr.TheVariants as errors
use Rattle.slothy_cli.specs.declared.command.Aim as aims
use Rattle.slothy_cli.specs.declared.command.Job as jobs
use Rattle.slothy_cli.specs.declared.command.Job.TheVariants as job
use Rattle.slothy_cli.specs.declared.command.Task as tasks
use Rattle.slothy_cli.specs.declared.command.Task.TheVariants as task
use Rattle.slothy_cli.specs.declared.setting.Setting as code
use Rattle.asm_reader.specs.RegionViews.{region_of}
use Rattle.slothy_cli.specs.declared.stop.File.{File}
use Rattle.slothy_cli.specs.Command.{Aim, Job, cost, opt, demo, Task, upon, emulate, Command}
use Rattle.slothy_cli.specs.Setting.{Setting}
use Rattle.slothy_cli.specs.Reads.{too_long}

-- what `opt` is asked for
abbrev pub shown_aim : aims.Aim → Aim
shown_aim aim =
    record { live = aim.live; free = aim.free; most = aim.most; budget = aim.budget }

-- what is done with a region
abbrev pub shown_job : jobs.Job → Job
shown_job job.Cost = cost
shown_job (job.Opt aim) = opt (shown_aim aim)
shown_job (job.Demo aim key count) = demo (shown_aim aim) key count

-- a task without where its words lie in memory
abbrev pub shown_task : tasks.Task → Task
shown_task (task.OnCore core job) = upon core.now (shown_job job)
shown_task (task.Run state turns) = emulate state.now turns

-- a region on a core, without where it lies in memory
abbrev pub setting_of : code.Setting → Setting
setting_of s =
    record { core = s.core.now; region = region_of s.region.now; costs = s.costs.now }

-- a command without where its names lie in memory
abbrev pub shown : words.Command → Command
shown c = record {
  arch = c.arch;
  task = shown_task c.task;
  name = c.name.now;
  start = c.start.now;
  end = c.end.now;
}

-- the reason to stop that a failure tells, and nothing for want of memory
abbrev pub stop_told : Failure → Option Stop
stop_told (Stopped stop) = Some stop
stop_told NoMemory = None

-- how a read that failed ends a call
abbrev pub unread_ending : File → ReadErr → Ending
unread_ending file errors.ReadFault = endings.ReadFault file
unread_ending file (errors.TooLong limit) = endings.Stopped (too_long file)
unread_ending file errors.NoMemory = endings.NoMemory

-- how a failure ends a call
abbrev pub failed_ending : Failure → Ending
failed_ending (Stopped stop) = endings.Stopped stop
failed_ending NoMemory = endings.NoMemory

-- what an answer makes of a call
abbrev pub ended : {X : Type 0} → Result X Failure → Result X Ending
ended (Ok x) = Ok x
ended (Err failure) = Err (failed_ending failure)

-- what a call came to, seen by `view`
abbrev pub told : {X Y : Type 0} → (X → Y) → Result X Ending → Result Y Ending
told view (Ok x) = Ok (view x)
told view (Err ending) = Err ending
