use Rattle.std.proofs.Common.{◌≡◌, ◌∙◌, ap, sym, subst, map, string_bytes}
use Rattle.clap.specs.Words.{App, app_of, is_simple, is_simple_and_free, fault_of, matches_of, found_of}
use Rattle.clap.specs.Kinds.{HasKind}
use Rattle.command_words.specs.App.{app}
use Rattle.command_words.specs.Saying.{said_by}
use Rattle.command_words.proofs.Parse.{finds, refused, is_simple_app, is_free_app}
use Rattle.command_words.proofs.Refusing.{refuses}
use Rattle.command_words.proofs.parsing.said_by.Goals as goal

pub returns-in-Ok : goal.returns-in-Ok
returns-in-Ok c =
    let is : app_of c.in_ok-command.command ≡ app = c.in_ok-command.ensures in
    finds c.args.words.now (found_of c.in-Ok.matches)
    (ap (λ (a : App). fault_of a (map string_bytes c.args.words.now)) (sym is) ∙ c.in-Ok.ensures.kinds (ap is_simple_and_free is ∙ is_free_app))
    ((c.in-Ok.ensures.matches (ap is_simple is ∙ is_simple_app)).0 ∙ ap (λ (a : App). matches_of a (map string_bytes c.args.words.now)) is)

pub returns-in-Err : goal.returns-in-Err
returns-in-Err c =
    let is : app_of c.in_ok-command.command ≡ app = c.in_ok-command.ensures in
    refuses c.refusal.result (said_by (map string_bytes c.args.words.now))
    (λ usage. refused c.args.words.now c.in-Err.error
    (subst (λ (a : App). HasKind (fault_of a (map string_bytes c.args.words.now)) c.in-Err.error) is (c.in-Err.ensures.kinds (ap is_simple_and_free is ∙ is_free_app)))
    (c.refusal.ensures usage))
