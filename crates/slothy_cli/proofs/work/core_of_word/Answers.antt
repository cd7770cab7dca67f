use Rattle.std.proofs.Common.{◌≡◌, Ok, Err, sym, ap, ◌∙◌, subst}
use Rattle.command_words.specs.declared.options.CoreWord.TheVariants as words
use Rattle.core_text.specs.Plain.{plain_core}
use Rattle.slothy_cli.specs.declared.status.Ending.TheVariants as endings
use Rattle.slothy_cli.specs.Outcome.{core_reads}
use Rattle.slothy_cli.specs.Ending.{Seen, files_run, seen_of, Follows}
use Rattle.slothy_cli.specs.Shown.{shown}
use Rattle.slothy_cli.proofs.Follows.{follows-given, follows-no_memory}
use Rattle.slothy_cli.proofs.work.core_of_word.Goals as goal

pub returns-in-Ok-clause-follows : goal.returns-in-Ok-clause-follows
returns-in-Ok-clause-follows g c =
    let seen : Seen = seen_of (shown c.args.command.now) (g.F.Files.holds c.args.files.now) (files_run g.F.Files.faults g.F.Files.given g.F.Files.chosen g.F.Files.broken c.args.files.now c.args.files.now) in
    subst (λ word. Follows seen (λ core answer. answer ≡ Ok core) (core_reads g.A.Arch.language word) (Ok c.in-Ok.core)) (sym c.in-Plain.is)
    (follows-given seen (λ core answer. answer ≡ Ok core) (plain_core g.A.Arch.language.isa.name c.in-Plain.latency) (Ok c.in-Ok.core)
    (ap Ok (c.in-Ok.ensures ∙ ap (λ arch. plain_core arch c.in-Plain.latency) c.name.ensures)))

pub returns-in-Err-clause-follows : goal.returns-in-Err-clause-follows
returns-in-Err-clause-follows g c = follows-no_memory _ (λ core answer. answer ≡ Ok core) (core_reads g.A.Arch.language c.args.word.now)
