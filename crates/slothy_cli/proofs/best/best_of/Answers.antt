use Rattle.std.proofs.Common.{subst}
use Rattle.sl_model.specs.Answers.{Gives}
use Rattle.bnb_solver.specs.Straight.{Straight as TreesOf}
use Rattle.slothy_cli.specs.declared.best.Best.{Best}
use Rattle.slothy_cli.specs.Plan.{region_problem}
use Rattle.slothy_cli.specs.Searched.{searched}
use Rattle.slothy_cli.specs.Shown.{shown_aim, setting_of, stop_told}
use Rattle.slothy_cli.proofs.Searched.{best-of, out_of_reach-of, refused-search, refused-reach}
use Rattle.slothy_cli.proofs.best.best_of.Goals as goal

pub returns-in-Ok-clause-answer : goal.returns-in-Ok-clause-answer
returns-in-Ok-clause-answer g c =
    subst (λ (f : TreesOf). Gives stop_told (λ (best : Best). best.schedule.items) c.best_in.result (searched f.problem c.args.aim.most f.budget)) c.in-Ok.ensures.0 c.best_in.ensures.answer

pub returns-in-Ok-clause-best : goal.returns-in-Ok-clause-best
returns-in-Ok-clause-best g c =
    best-of g.A.Arch.language.isa (shown_aim c.args.aim) (setting_of c.args.setting) c.in-Ok.forest c.in-Ok.ensures.0 c.best_in.ensures.searchable c.best_in.result c.best_in.ensures.answer c.best_in.ensures.same

pub returns-in-Ok-clause-out_of_reach : goal.returns-in-Ok-clause-out_of_reach
returns-in-Ok-clause-out_of_reach g c =
    out_of_reach-of g.A.Arch.language.isa (shown_aim c.args.aim) (setting_of c.args.setting) c.in-Ok.forest c.in-Ok.ensures.0 c.best_in.ensures.searchable c.best_in.result c.best_in.ensures.answer

pub returns-in-Err-clause-answer : goal.returns-in-Err-clause-answer
returns-in-Err-clause-answer g c =
    refused-search (region_problem g.A.Arch.language.isa (shown_aim c.args.aim) (setting_of c.args.setting)) c.args.aim.most c.args.aim.budget (stop_told c.in-Err.failure) c.in-Err.ensures

pub returns-in-Err-clause-out_of_reach : goal.returns-in-Err-clause-out_of_reach
returns-in-Err-clause-out_of_reach g c =
    refused-reach (region_problem g.A.Arch.language.isa (shown_aim c.args.aim) (setting_of c.args.setting)) c.args.aim.most c.args.aim.budget (stop_told c.in-Err.failure) c.in-Err.ensures
