use Rattle.sl_isa.specs.Language.{Language}
use Rattle.asm_reader.specs.RegionViews.{region_of}
use Rattle.slothy_cli.specs.Command.{Command}
use Rattle.slothy_cli.specs.Inputs.{file_region}
use Rattle.slothy_cli.specs.Outcome.{WorkAnswers, state_reads}
use Rattle.slothy_cli.specs.Shown.{shown}
use Rattle.slothy_cli.proofs.Follows.{follows-known, follows-refused}
use Rattle.slothy_cli.proofs.Valid.{all-valid}
use Rattle.slothy_cli.proofs.work.text_of_program.Goals as goal

pub text_of_state-requires : goal.text_of_state-requires
text_of_state-requires g c = record { valid = all-valid g.A.Arch.language.isa c.in-Ok.region.items.items c.in-Ok.ensures.right.valid }

pub returns-in-Ok-clause-follows : goal.returns-in-Ok-clause-follows
returns-in-Ok-clause-follows g c =
    let language : Language = g.A.Arch.language in
    let command : Command = shown c.args.command.now in
    follows-known _ (WorkAnswers language) (file_region language command c.args.bytes.now) state_reads (region_of c.in-Ok.region) _ c.in-Ok.ensures.answer c.text_of_state.ensures.follows

pub returns-in-Err-clause-follows : goal.returns-in-Err-clause-follows
returns-in-Err-clause-follows g c =
    let language : Language = g.A.Arch.language in
    let command : Command = shown c.args.command.now in
    follows-refused _ (WorkAnswers language) (file_region language command c.args.bytes.now) state_reads c.in-Err.failure c.of.result c.of.ensures c.in-Err.ensures.answer
