use Rattle.std.proofs.Common.{◌∙◌, None, Some, option_map, refl, sym, ap}
use Rattle.slothy_cli.specs.NamesShown.{names_of}
use Rattle.slothy_cli.specs.Shown.{shown}
use Rattle.slothy_cli.proofs.Calls.{call-wrong, call-no_memory, call-ended, wrong-command, read-command}
use Rattle.slothy_cli.proofs.top.call.Goals as goal

pub returns-in-Err-Usage-clause-call : goal.returns-in-Err-Usage-clause-call
returns-in-Err-Usage-clause-call g c =
    call-wrong _ (g.F.Files.holds c.args.files.now) _ _ _ c.refuse.result c.refuse.ensures.ending
    (wrong-command _ c.in-Err-Usage.field-0 c.in-Err-Usage.field-0-is c.in-Err-Usage.ensures.answer) refl c.refuse.ensures.message

pub returns-in-Err-NoMemory-clause-call : goal.returns-in-Err-NoMemory-clause-call
returns-in-Err-NoMemory-clause-call g c =
    call-no_memory _ (g.F.Files.holds c.args.files.now) _ _ _ c.refuse-in-Err-NoMemory.result c.refuse-in-Err-NoMemory.ensures.ending refl c.refuse-in-Err-NoMemory.ensures.message

pub returns-in_default-clause-call : goal.returns-in_default-clause-call
returns-in_default-clause-call g c =
    call-wrong _ (g.F.Files.holds c.args.files.now) _ _ _ c.refuse-in_default.result c.refuse-in_default.ensures.ending
    (read-command _ c.in-Ok.options None c.in-Ok.ensures.answer (ap (option_map shown) (sym c.in_default.is) ∙ c.command_in.ensures.value)) refl c.refuse-in_default.ensures.message

pub returns-clause-call : goal.returns-clause-call
returns-clause-call g c =
    call-ended _ (g.F.Files.holds c.args.files.now) _ _ _ (shown c.in-Some.command) (names_of c.names.result) c.carry_out-ending.result
    (read-command _ c.in-Ok.options (Some (shown c.in-Some.command)) c.in-Ok.ensures.answer (ap (option_map shown) (sym c.in-Some.is) ∙ c.command_in.ensures.value))
    c.names.ensures c.carry_out-ending.ensures.ends c.report.ensures.took
