use Rattle.std.proofs.Common.{◌≡◌, ◌≤◌, ℕ, List, length, Ok, Result, sym, ap, ◌∙◌, subst, arith}
use Rattle.sl_model.specs.declared.limits.TheConstants.{ITEMS}
use Rattle.sl_isa.specs.Language.{Language}
use Rattle.slothy_cli.specs.Command.{Aim}
use Rattle.slothy_cli.specs.Outcome.{KernelAnswers}
use Rattle.slothy_cli.specs.Plan.{region_problem}
use Rattle.slothy_cli.specs.Searched.{region_searched, IsBestOf}
use Rattle.slothy_cli.specs.Setting.{Setting}
use Rattle.slothy_cli.specs.Shown.{shown_aim, setting_of, stop_told}
use Rattle.slothy_cli.proofs.DemoAnswer.{line-settles}
use Rattle.slothy_cli.proofs.OptAnswer.{found-few, found-known, found-units}
use Rattle.slothy_cli.proofs.Searched.{handed, answers-stopped}
use Rattle.slothy_cli.proofs.demo.demo_text.Goals as goal

pub line_of-requires-clause-few : goal.line_of-requires-clause-few
line_of-requires-clause-few g c =
    let found : IsBestOf g.A.Arch.language.isa (shown_aim c.args.aim) (setting_of c.args.setting) c.problem-problem.result.now c.deref.result.now =
    handed g.A.Arch.language.isa (shown_aim c.args.aim) (setting_of c.args.setting) c.in-Ok.best.forest.problem c.problem-problem.result.now c.in-Ok.best.schedule.items c.deref.result.now c.in-Ok.ensures.best c.problem-problem.ensures c.deref.ensures.value in
    let few : length c.deref.result.now ≤ length c.args.setting.region.now.items.items = found-few g.A.Arch.language.isa (shown_aim c.args.aim) (setting_of c.args.setting) c.problem-problem.result.now c.deref.result.now found in
    let most : length c.args.setting.region.now.items.items ≤ ITEMS = c.requires.setting.right.few in
    omega arith

pub line_of-requires-clause-known : goal.line_of-requires-clause-known
line_of-requires-clause-known g c =
    let found : IsBestOf g.A.Arch.language.isa (shown_aim c.args.aim) (setting_of c.args.setting) c.problem-problem.result.now c.deref.result.now =
    handed g.A.Arch.language.isa (shown_aim c.args.aim) (setting_of c.args.setting) c.in-Ok.best.forest.problem c.problem-problem.result.now c.in-Ok.best.schedule.items c.deref.result.now c.in-Ok.ensures.best c.problem-problem.ensures c.deref.ensures.value in
    found-known g.A.Arch.language.isa (shown_aim c.args.aim) (setting_of c.args.setting) c.problem-problem.result.now c.deref.result.now found

pub line_of-requires-clause-units : goal.line_of-requires-clause-units
line_of-requires-clause-units g c =
    let found : IsBestOf g.A.Arch.language.isa (shown_aim c.args.aim) (setting_of c.args.setting) c.problem-problem.result.now c.deref.result.now =
    handed g.A.Arch.language.isa (shown_aim c.args.aim) (setting_of c.args.setting) c.in-Ok.best.forest.problem c.problem-problem.result.now c.in-Ok.best.schedule.items c.deref.result.now c.in-Ok.ensures.best c.problem-problem.ensures c.deref.ensures.value in
    found-units g.A.Arch.language.isa (shown_aim c.args.aim) (setting_of c.args.setting) c.problem-problem.result.now c.deref.result.now found

pub returns-in-Ok : goal.returns-in-Ok
returns-in-Ok g c =
    let language : Language = g.A.Arch.language in
    let setting : Setting = setting_of c.args.setting in
    let aim : Aim = shown_aim c.args.aim in
    let found : IsBestOf g.A.Arch.language.isa (shown_aim c.args.aim) (setting_of c.args.setting) c.problem-problem.result.now c.deref.result.now =
    handed g.A.Arch.language.isa (shown_aim c.args.aim) (setting_of c.args.setting) c.in-Ok.best.forest.problem c.problem-problem.result.now c.in-Ok.best.schedule.items c.deref.result.now c.in-Ok.ensures.best c.problem-problem.ensures c.deref.ensures.value in
    line-settles language aim c.args.key c.args.count setting c.problem-problem.result.now c.deref.result.now c.in_ok-before.before found
    (c.in-Ok.ensures.answer ∙ ap Ok (sym c.deref.ensures.value)) c.in_ok-before.ensures (λ text. text.items) c.line_of.result c.line_of.ensures

pub returns-in-Err : goal.returns-in-Err
returns-in-Err g c =
    let language : Language = g.A.Arch.language in
    let setting : Setting = setting_of c.args.setting in
    let aim : Aim = shown_aim c.args.aim in
    answers-stopped (region_problem language.isa aim setting) aim.most (region_searched language.isa aim setting) (KernelAnswers language aim c.args.key c.args.count setting) (stop_told c.in-Err.failure)
    c.in-Err.ensures.answer c.in-Err.ensures.out_of_reach
