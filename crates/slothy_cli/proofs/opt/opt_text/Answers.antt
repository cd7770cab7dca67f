use Rattle.std.proofs.Common.{◌≡◌, ◌≤◌, ℕ, List, length, Ok, Result, sym, ap, ◌∙◌, subst, arith}
use Rattle.sl_model.specs.declared.instruction.Instr.{Instr}
use Rattle.sl_model.specs.declared.limits.TheConstants.{ITEMS}
use Rattle.sl_model.specs.Legal.{Problem}
use Rattle.sl_model.specs.Space.{IsBest}
use Rattle.sl_isa.specs.Language.{Language}
use Rattle.search_space.specs.Searchable.{IsSearchable}
use Rattle.renamer.specs.WellPosed.{IsGraphOf}
use Rattle.renamer.proofs.ForCallers.{straight-sound}
use Rattle.slothy_cli.specs.Command.{Aim}
use Rattle.slothy_cli.specs.Outcome.{FoundAnswers, OptAnswers}
use Rattle.slothy_cli.specs.Plan.{region_problem, schedule_file}
use Rattle.slothy_cli.specs.Searched.{region_searched, IsBestOf}
use Rattle.slothy_cli.specs.Setting.{Setting}
use Rattle.slothy_cli.specs.Shown.{shown_aim, setting_of, stop_told}
use Rattle.slothy_cli.proofs.OptAnswer.{IsPlanRight, written-answers, found-few, found-known, found-units, found-on_core, found-legal, found-named, settles-weaken}
use Rattle.slothy_cli.proofs.Searched.{handed, answers-found, answers-stopped}
use Rattle.slothy_cli.proofs.opt.opt_text.Goals as goal

pub written_file-requires-clause-few : goal.written_file-requires-clause-few
written_file-requires-clause-few g c =
    let found : IsBestOf g.A.Arch.language.isa (shown_aim c.args.aim) (setting_of c.args.setting) c.problem-problem.result.now c.deref.result.now =
    handed g.A.Arch.language.isa (shown_aim c.args.aim) (setting_of c.args.setting) c.in-Ok.best.forest.problem c.problem-problem.result.now c.in-Ok.best.schedule.items c.deref.result.now c.in-Ok.ensures.best c.problem-problem.ensures c.deref.ensures.value in
    let few : length c.deref.result.now ≤ length c.args.setting.region.now.items.items = found-few g.A.Arch.language.isa (shown_aim c.args.aim) (setting_of c.args.setting) c.problem-problem.result.now c.deref.result.now found in
    let most : length c.args.setting.region.now.items.items ≤ ITEMS = c.requires.setting.right.few in
    omega arith

pub written_file-requires-clause-known : goal.written_file-requires-clause-known
written_file-requires-clause-known g c =
    let found : IsBestOf g.A.Arch.language.isa (shown_aim c.args.aim) (setting_of c.args.setting) c.problem-problem.result.now c.deref.result.now =
    handed g.A.Arch.language.isa (shown_aim c.args.aim) (setting_of c.args.setting) c.in-Ok.best.forest.problem c.problem-problem.result.now c.in-Ok.best.schedule.items c.deref.result.now c.in-Ok.ensures.best c.problem-problem.ensures c.deref.ensures.value in
    found-known g.A.Arch.language.isa (shown_aim c.args.aim) (setting_of c.args.setting) c.problem-problem.result.now c.deref.result.now found

pub written_file-requires-clause-units : goal.written_file-requires-clause-units
written_file-requires-clause-units g c =
    let found : IsBestOf g.A.Arch.language.isa (shown_aim c.args.aim) (setting_of c.args.setting) c.problem-problem.result.now c.deref.result.now =
    handed g.A.Arch.language.isa (shown_aim c.args.aim) (setting_of c.args.setting) c.in-Ok.best.forest.problem c.problem-problem.result.now c.in-Ok.best.schedule.items c.deref.result.now c.in-Ok.ensures.best c.problem-problem.ensures c.deref.ensures.value in
    found-units g.A.Arch.language.isa (shown_aim c.args.aim) (setting_of c.args.setting) c.problem-problem.result.now c.deref.result.now found

pub written_file-requires-clause-on_core : goal.written_file-requires-clause-on_core
written_file-requires-clause-on_core g c =
    let found : IsBestOf g.A.Arch.language.isa (shown_aim c.args.aim) (setting_of c.args.setting) c.problem-problem.result.now c.deref.result.now =
    handed g.A.Arch.language.isa (shown_aim c.args.aim) (setting_of c.args.setting) c.in-Ok.best.forest.problem c.problem-problem.result.now c.in-Ok.best.schedule.items c.deref.result.now c.in-Ok.ensures.best c.problem-problem.ensures c.deref.ensures.value in
    found-on_core g.A.Arch.language (shown_aim c.args.aim) (setting_of c.args.setting) c.problem-problem.result.now c.deref.result.now c.requires.setting found

pub written_file-requires-clause-legal : goal.written_file-requires-clause-legal
written_file-requires-clause-legal g c =
    let found : IsBestOf g.A.Arch.language.isa (shown_aim c.args.aim) (setting_of c.args.setting) c.problem-problem.result.now c.deref.result.now =
    handed g.A.Arch.language.isa (shown_aim c.args.aim) (setting_of c.args.setting) c.in-Ok.best.forest.problem c.problem-problem.result.now c.in-Ok.best.schedule.items c.deref.result.now c.in-Ok.ensures.best c.problem-problem.ensures c.deref.ensures.value in
    found-legal g.A.Arch.language.isa (shown_aim c.args.aim) (setting_of c.args.setting) c.problem-problem.result.now c.deref.result.now found

pub written_file-requires-clause-named : goal.written_file-requires-clause-named
written_file-requires-clause-named g c =
    let found : IsBestOf g.A.Arch.language.isa (shown_aim c.args.aim) (setting_of c.args.setting) c.problem-problem.result.now c.deref.result.now =
    handed g.A.Arch.language.isa (shown_aim c.args.aim) (setting_of c.args.setting) c.in-Ok.best.forest.problem c.problem-problem.result.now c.in-Ok.best.schedule.items c.deref.result.now c.in-Ok.ensures.best c.problem-problem.ensures c.deref.ensures.value in
    found-named g.A.Arch.language (shown_aim c.args.aim) (setting_of c.args.setting) c.problem-problem.result.now c.deref.result.now c.requires.setting found g.met.A.Arch.lawful

pub written_file-requires-clause-graph : goal.written_file-requires-clause-graph
written_file-requires-clause-graph g c =
    let found : IsBestOf g.A.Arch.language.isa (shown_aim c.args.aim) (setting_of c.args.setting) c.problem-problem.result.now c.deref.result.now =
    handed g.A.Arch.language.isa (shown_aim c.args.aim) (setting_of c.args.setting) c.in-Ok.best.forest.problem c.problem-problem.result.now c.in-Ok.best.schedule.items c.deref.result.now c.in-Ok.ensures.best c.problem-problem.ensures c.deref.ensures.value in
    let items : List Instr = c.args.setting.region.now.items.items in
    subst (λ (p : Problem). IsGraphOf g.A.Arch.language.isa p.graph) (sym found.is) (straight-sound g.A.Arch.language.isa items c.requires.setting.right.valid).of

pub returns-in-Ok : goal.returns-in-Ok
returns-in-Ok g c =
    let language : Language = g.A.Arch.language in
    let setting : Setting = setting_of c.args.setting in
    let aim : Aim = shown_aim c.args.aim in
    let found : IsBestOf g.A.Arch.language.isa (shown_aim c.args.aim) (setting_of c.args.setting) c.problem-problem.result.now c.deref.result.now =
    handed g.A.Arch.language.isa (shown_aim c.args.aim) (setting_of c.args.setting) c.in-Ok.best.forest.problem c.problem-problem.result.now c.in-Ok.best.schedule.items c.deref.result.now c.in-Ok.ensures.best c.problem-problem.ensures c.deref.ensures.value in
    let searchable : IsSearchable (region_problem language.isa aim setting) = subst IsSearchable found.is found.searchable in
    let best : IsBest (region_problem language.isa aim setting) aim.most c.deref.result.now = subst (λ p. IsBest p aim.most c.deref.result.now) found.is found.best in
    settles-weaken (λ text. text.items) c.written_file.result _ (OptAnswers language aim setting)
    (λ answer told. answers-found (region_problem language.isa aim setting) aim.most (region_searched language.isa aim setting) (FoundAnswers language aim setting) c.deref.result.now answer
    (c.in-Ok.ensures.answer ∙ ap Ok (sym c.deref.ensures.value))
    (written-answers language aim setting c.deref.result.now answer g.met.A.Arch.lawful c.requires.setting searchable best
    (subst (λ p. IsPlanRight setting p c.deref.result.now) found.is (told.1, told.2))
    (told.0 ∙ ap (λ p. Ok (schedule_file language setting.core setting.region p c.deref.result.now)) found.is)))
    c.written_file.ensures

pub returns-in-Err : goal.returns-in-Err
returns-in-Err g c =
    let language : Language = g.A.Arch.language in
    let setting : Setting = setting_of c.args.setting in
    let aim : Aim = shown_aim c.args.aim in
    answers-stopped (region_problem language.isa aim setting) aim.most (region_searched language.isa aim setting) (FoundAnswers language aim setting) (stop_told c.in-Err.failure)
    c.in-Err.ensures.answer c.in-Err.ensures.out_of_reach
