use Rattle.sl_isa.specs.Language.{Language}
use Rattle.asm_reader.specs.RegionViews.{region_of}
use Rattle.asm_reader.specs.Reading.{Region}
use Rattle.core_text.specs.Core.{CoreTable}
use Rattle.slothy_cli.specs.Command.{Job}
use Rattle.slothy_cli.specs.Inputs.{region_costs}
use Rattle.slothy_cli.specs.Outcome.{JobAnswers, WorkAnswers, scheduling}
use Rattle.slothy_cli.specs.Reads.{Given}
use Rattle.slothy_cli.specs.Setting.{Setting}
use Rattle.slothy_cli.specs.Shown.{shown_job}
use Rattle.slothy_cli.proofs.Follows.{follows-known, follows-given, follows-refused, come-settled}
use Rattle.slothy_cli.proofs.work.text_of_region.Goals as goal

pub returns-in-Ok : goal.returns-in-Ok
returns-in-Ok g c =
    let language : Language = g.A.Arch.language in
    let core : CoreTable = c.args.core.now in
    let region : Region = region_of c.args.region.now in
    let job : Job = shown_job c.args.job in
    let setting : Setting = record { core = core; region = region; costs = c.in-Ok.costs } in
    record {
      follows = λ seen.
          follows-known seen (WorkAnswers language) (region_costs language job core region) (λ costs. Given (scheduling job (record { core = core; region = region; costs = costs }))) c.in-Ok.costs _ c.in-Ok.ensures.costs
          (follows-given seen (WorkAnswers language) (scheduling job setting) _ (come-settled (λ text. text.items) c.text_of_setting.result c.ended.result (JobAnswers language job setting) c.ended.ensures c.text_of_setting.ensures));
    }

pub returns-in-Err : goal.returns-in-Err
returns-in-Err g c =
    let language : Language = g.A.Arch.language in
    let core : CoreTable = c.args.core.now in
    let region : Region = region_of c.args.region.now in
    let job : Job = shown_job c.args.job in
    record {
      follows = λ seen.
          follows-refused seen (WorkAnswers language) (region_costs language job core region) (λ costs. Given (scheduling job (record { core = core; region = region; costs = costs }))) c.in-Err.failure c.of.result c.of.ensures c.in-Err.ensures.costs;
    }
