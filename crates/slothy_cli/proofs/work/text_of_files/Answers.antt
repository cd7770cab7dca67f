use Rattle.std.proofs.Common.{sym, subst}
use Rattle.sl_isa.specs.Language.{Language}
use Rattle.slothy_cli.specs.Command.{Command}
use Rattle.slothy_cli.specs.Outcome.{WorkAnswers, task_reads, command_reads}
use Rattle.slothy_cli.specs.Ending.{Seen, files_run, seen_of, Follows}
use Rattle.slothy_cli.specs.Shown.{shown, shown_task, told}
use Rattle.slothy_cli.proofs.work.text_of_files.Goals as goal

pub returns-in-OnCore-clause-comes : goal.returns-in-OnCore-clause-comes
unfolding command_reads
returns-in-OnCore-clause-comes g c =
    let language : Language = g.A.Arch.language in
    let command : Command = shown c.args.command.now in
    let seen : Seen = seen_of command (g.F.Files.holds c.args.files.now) (files_run g.F.Files.faults g.F.Files.given g.F.Files.chosen g.F.Files.broken c.args.files.now c.text_on_core.new.files) in
    subst (λ task. Follows seen (WorkAnswers language) (task_reads language command (shown_task task)) (told (λ text. text.items) c.text_on_core.result)) (sym c.in-OnCore.is) c.text_on_core.ensures.follows

pub returns-in-Run-clause-comes : goal.returns-in-Run-clause-comes
unfolding command_reads
returns-in-Run-clause-comes g c =
    let language : Language = g.A.Arch.language in
    let command : Command = shown c.args.command.now in
    let seen : Seen = seen_of command (g.F.Files.holds c.args.files.now) (files_run g.F.Files.faults g.F.Files.given g.F.Files.chosen g.F.Files.broken c.args.files.now c.text_of_run.new.files) in
    subst (λ task. Follows seen (WorkAnswers language) (task_reads language command (shown_task task)) (told (λ text. text.items) c.text_of_run.result)) (sym c.in-Run.is) c.text_of_run.ensures.follows
