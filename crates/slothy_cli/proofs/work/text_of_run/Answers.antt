use Rattle.std.proofs.Common.{◌≤◌, ℕ, List, Option, length, sym, subst}
use Rattle.sl_isa.specs.Language.{Language}
use Rattle.sl_model.specs.declared.limits.TheConstants.{FILE_BYTES}
use Rattle.slothy_cli.specs.declared.stop.File.TheVariants as which
use Rattle.slothy_cli.specs.Command.{Command}
use Rattle.slothy_cli.specs.Outcome.{WorkAnswers, input_reads, state_reads}
use Rattle.slothy_cli.specs.Messages.{name_in}
use Rattle.slothy_cli.specs.NamesShown.{names_of}
use Rattle.slothy_cli.specs.Ending.{FilesRun, files_run, seen_of, AreOf, Follows}
use Rattle.slothy_cli.specs.Shown.{shown, told}
use Rattle.slothy_cli.proofs.Follows.{follows-read, follows-failed, follows-earlier}
use Rattle.slothy_cli.proofs.work.text_of_run.Goals as goal

pub returns-in-Ok-clause-follows : goal.returns-in-Ok-clause-follows
returns-in-Ok-clause-follows g c =
    let language : Language = g.A.Arch.language in
    let command : Command = shown c.args.command.now in
    let bytes : List ℕ = c.deref.result.now in
    let later : FilesRun = files_run g.F.Files.faults g.F.Files.given g.F.Files.chosen g.F.Files.broken c.read_file.new.files c.text_of_program.new.files in
    let short : length bytes ≤ FILE_BYTES = subst (λ (b : List ℕ). length b ≤ FILE_BYTES) (sym c.deref.ensures.value) c.in-Ok.ensures.short in
    let of : AreOf (g.F.Files.holds c.args.files.now (name_in (names_of c.names.result) which.Input)) bytes =
    subst (AreOf (g.F.Files.holds c.args.files.now (name_in (names_of c.names.result) which.Input))) (sym c.deref.ensures.value) c.in-Ok.ensures.of_file in
    let rest : Follows (seen_of command (g.F.Files.holds c.args.files.now) later) (WorkAnswers language) (input_reads language command state_reads bytes) (told (λ text. text.items) c.text_of_program.result) =
    subst (λ (holds : List ℕ → Option (List ℕ)). Follows (seen_of command holds later) (WorkAnswers language) (input_reads language command state_reads bytes) (told (λ text. text.items) c.text_of_program.result)) c.in-Ok.ensures.same_files c.text_of_program.ensures.follows in
    follows-read _ (WorkAnswers language) which.Input (input_reads language command state_reads) (names_of c.names.result) bytes _ c.names.ensures short of
    (follows-earlier (g.F.Files.faults c.args.files.now) (seen_of command (g.F.Files.holds c.args.files.now) later) (WorkAnswers language) (input_reads language command state_reads bytes) _ c.in-Ok.ensures.never_falls rest)

pub returns-in-Err-clause-follows : goal.returns-in-Err-clause-follows
returns-in-Err-clause-follows g c =
    let language : Language = g.A.Arch.language in
    follows-failed _ (WorkAnswers language) which.Input (input_reads language (shown c.args.command.now) state_reads) (names_of c.names.result) c.in-Err.ending c.names.ensures c.in-Err.ensures.failed
