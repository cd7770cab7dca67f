use Rattle.std.proofs.Common.{◌≡◌, ℕ, List, Ok, subst}
use Rattle.sl_model.specs.Answers.{Gives}
use Rattle.sl_isa.specs.Language.{Language}
use Rattle.slothy_cli.specs.declared.stop.File.TheVariants as which
use Rattle.slothy_cli.specs.Inputs.{file_core}
use Rattle.slothy_cli.specs.Reads.{given}
use Rattle.slothy_cli.specs.NamesShown.{names_of}
use Rattle.slothy_cli.specs.Shown.{stop_told}
use Rattle.slothy_cli.proofs.Follows.{follows-read, follows-failed, follows-gives}
use Rattle.slothy_cli.proofs.work.core_of_file.Goals as goal

pub returns-in-Ok-clause-follows : goal.returns-in-Ok-clause-follows
returns-in-Ok-clause-follows g c =
    let language : Language = g.A.Arch.language in
    let bytes : List ℕ = c.in-Ok.bytes.items in
    follows-read _ (λ core answer. answer ≡ Ok core) which.Core (λ core. given (file_core language core)) (names_of c.names.result) bytes _ c.names.ensures c.in-Ok.ensures.short c.in-Ok.ensures.of_file
    (follows-gives _ (λ core. core) (file_core language bytes) c.file_core.result c.ended.result c.ended.ensures
    (subst (λ (b : List ℕ). Gives stop_told (λ core. core) c.file_core.result (file_core language b)) c.deref.ensures.value c.file_core.ensures))

pub returns-in-Err-clause-follows : goal.returns-in-Err-clause-follows
returns-in-Err-clause-follows g c =
    follows-failed _ (λ core answer. answer ≡ Ok core) which.Core (λ core. given (file_core g.A.Arch.language core)) (names_of c.names.result) c.in-Err.ending c.names.ensures c.in-Err.ensures.failed
