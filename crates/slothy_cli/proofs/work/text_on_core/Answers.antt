use Rattle.std.proofs.Common.{◌≡◌, ℕ, List, Option, Ok, refl, subst}
use Rattle.sl_isa.specs.Language.{Language}
use Rattle.slothy_cli.specs.Command.{Command, Job}
use Rattle.slothy_cli.specs.Outcome.{WorkAnswers, core_reads, job_reads}
use Rattle.slothy_cli.specs.Ending.{FilesRun, files_run, seen_of, Follows}
use Rattle.slothy_cli.specs.Shown.{shown, shown_job, told}
use Rattle.slothy_cli.proofs.Follows.{follows-then, follows-nothing, follows-earlier}
use Rattle.slothy_cli.proofs.work.text_on_core.Goals as goal

pub returns-in-Ok-clause-follows : goal.returns-in-Ok-clause-follows
returns-in-Ok-clause-follows g c =
    let language : Language = g.A.Arch.language in
    let command : Command = shown c.args.command.now in
    let job : Job = shown_job c.args.job in
    let holds : List ℕ → Option (List ℕ) = g.F.Files.holds c.args.files.now in
    let first : FilesRun = files_run g.F.Files.faults g.F.Files.given g.F.Files.chosen g.F.Files.broken c.args.files.now c.core_of_word.new.files in
    let later : FilesRun = files_run g.F.Files.faults g.F.Files.given g.F.Files.chosen g.F.Files.broken c.core_of_word.new.files c.text_of_job.new.files in
    let whole : FilesRun = files_run g.F.Files.faults g.F.Files.given g.F.Files.chosen g.F.Files.broken c.args.files.now c.text_of_job.new.files in
    let rest : Follows (seen_of command holds later) (WorkAnswers language) (job_reads language command job c.in-Ok.core) (told (λ text. text.items) c.text_of_job.result) =
    subst (λ (known : List ℕ → Option (List ℕ)). Follows (seen_of command known later) (WorkAnswers language) (job_reads language command job c.in-Ok.core) (told (λ text. text.items) c.text_of_job.result)) c.in-Ok.ensures.same_files c.text_of_job.ensures.follows in
    follows-then (seen_of command holds first) (seen_of command holds whole) (WorkAnswers language) (core_reads language c.args.word.now) (job_reads language command job) c.in-Ok.core _ refl refl c.in-Ok.ensures.follows
    (follows-earlier (g.F.Files.faults c.args.files.now) (seen_of command holds later) (WorkAnswers language) (job_reads language command job c.in-Ok.core) _ c.in-Ok.ensures.never_falls rest)

pub returns-in-Err-clause-follows : goal.returns-in-Err-clause-follows
returns-in-Err-clause-follows g c =
    let language : Language = g.A.Arch.language in
    follows-nothing _ (WorkAnswers language) (core_reads language c.args.word.now) (job_reads language (shown c.args.command.now) (shown_job c.args.job)) c.in-Err.ending c.in-Err.ensures.follows
