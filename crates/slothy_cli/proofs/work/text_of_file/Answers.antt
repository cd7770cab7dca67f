use Rattle.std.proofs.Common.{ℕ, List, subst}
use Rattle.sl_isa.specs.Language.{Language}
use Rattle.slothy_cli.specs.declared.stop.File.TheVariants as which
use Rattle.slothy_cli.specs.Outcome.{Work, WorkAnswers, input_reads, setting_reads}
use Rattle.slothy_cli.specs.Reads.{Reads}
use Rattle.slothy_cli.specs.Ending.{Seen, Follows, files_run, seen_of}
use Rattle.slothy_cli.specs.NamesShown.{names_of}
use Rattle.slothy_cli.specs.Shown.{shown, shown_job, told}
use Rattle.slothy_cli.proofs.Follows.{follows-read, follows-failed}
use Rattle.slothy_cli.proofs.work.text_of_file.Goals as goal

pub returns-in-Ok-clause-follows : goal.returns-in-Ok-clause-follows
returns-in-Ok-clause-follows g c =
    let language : Language = g.A.Arch.language in
    let next : List ℕ → Reads Work = input_reads language (shown c.args.command.now) (setting_reads language (shown_job c.args.job) c.args.core.now) in
    let bytes : List ℕ = c.in-Ok.bytes.items in
    let seen : Seen = seen_of (shown c.args.command.now) (g.F.Files.holds c.args.files.now) (files_run g.F.Files.faults g.F.Files.given g.F.Files.chosen g.F.Files.broken c.args.files.now c.read_file.new.files) in
    follows-read seen (WorkAnswers language) which.Input next (names_of c.names.result) bytes _ c.names.ensures c.in-Ok.ensures.short c.in-Ok.ensures.of_file
    (subst (λ b. Follows seen (WorkAnswers language) (next b) (told (λ text. text.items) c.text_of_input.result)) c.deref.ensures.value (c.text_of_input.ensures.follows seen))

pub returns-in-Err-clause-follows : goal.returns-in-Err-clause-follows
returns-in-Err-clause-follows g c =
    let language : Language = g.A.Arch.language in
    follows-failed _ (WorkAnswers language) which.Input (input_reads language (shown c.args.command.now) (setting_reads language (shown_job c.args.job) c.args.core.now)) (names_of c.names.result) c.in-Err.ending c.names.ensures c.in-Err.ensures.failed
