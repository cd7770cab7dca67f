use Rattle.std.proofs.Common.{◌≡◌, ap, ◌∙◌, sym, subst, List, Result}
use Rattle.sl_model.specs.declared.schedule.Choice.{Choice}
use Rattle.sl_model.specs.Answers.{Gives}
use Rattle.slothy_cli.specs.declared.stop.Stop.{Stop}
use Rattle.slothy_cli.specs.Searched.{schedule_in}
use Rattle.slothy_cli.specs.Shown.{stop_told}
use Rattle.slothy_cli.proofs.Searched.{searched-few}
use Rattle.slothy_cli.proofs.best.search_trees.Goals as goal

pub returns : goal.returns
returns g c =
    subst (λ (r : Result (List Choice) Stop). Gives stop_told (λ schedule. schedule.items) c.schedule_in.result r)
    (sym (searched-few c.args.forest.now.problem c.args.aim.most c.args.forest.now.budget c.requires.few ∙ ap (schedule_in c.args.aim.most) c.in_ok-solution.ensures))
    c.schedule_in.ensures
