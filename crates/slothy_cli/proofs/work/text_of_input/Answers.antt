use Rattle.sl_isa.specs.Language.{Language}
use Rattle.asm_reader.specs.RegionViews.{region_of}
use Rattle.slothy_cli.specs.Command.{Command}
use Rattle.slothy_cli.specs.Inputs.{file_region}
use Rattle.slothy_cli.specs.Outcome.{WorkAnswers, setting_reads}
use Rattle.slothy_cli.specs.Shown.{shown, shown_job}
use Rattle.slothy_cli.proofs.Follows.{follows-known, follows-refused}
use Rattle.slothy_cli.proofs.work.text_of_input.Goals as goal

pub returns-in-Ok : goal.returns-in-Ok
returns-in-Ok g c =
    let language : Language = g.A.Arch.language in
    let command : Command = shown c.args.command.now in
    record {
      follows = λ seen.
          follows-known seen (WorkAnswers language) (file_region language command c.args.bytes.now) (setting_reads language (shown_job c.args.job) c.args.core.now) (region_of c.in-Ok.region) _ c.in-Ok.ensures.answer (c.text_of_region.ensures.follows seen);
    }

pub returns-in-Err : goal.returns-in-Err
returns-in-Err g c =
    let language : Language = g.A.Arch.language in
    let command : Command = shown c.args.command.now in
    record {
      follows = λ seen.
          follows-refused seen (WorkAnswers language) (file_region language command c.args.bytes.now) (setting_reads language (shown_job c.args.job) c.args.core.now) c.in-Err.failure c.of.result c.of.ensures c.in-Err.ensures.answer;
    }
