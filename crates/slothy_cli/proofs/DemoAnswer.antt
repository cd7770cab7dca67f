-- What `demo` answers.
use Rattle.std.proofs.Common.{◌≡◌, ℕ, List, Option, None, Some, Result, Ok, Err, sym, ap, ◌∙◌, subst}
use Rattle.sl_model.specs.declared.schedule.Choice.{Choice}
use Rattle.sl_model.specs.Answers.{Gives, Settles}
use Rattle.sl_model.specs.Legal.{Problem}
use Rattle.sl_model.specs.Space.{IsBest, stalls_of}
use Rattle.sl_isa.specs.Language.{Language}
use Rattle.search_space.specs.Searchable.{IsSearchable}
use Rattle.slothy_cli.specs.declared.stop.Failure.{Failure}
use Rattle.slothy_cli.specs.declared.stop.Failure.TheVariants.{Stopped, NoMemory}
use Rattle.slothy_cli.specs.declared.stop.Stop.{Stop}
use Rattle.slothy_cli.specs.Command.{Aim}
use Rattle.slothy_cli.specs.CostText.{own_stalls}
use Rattle.slothy_cli.specs.DemoLine.{demo_line}
use Rattle.slothy_cli.specs.Outcome.{KernelAnswers, DemoAnswers}
use Rattle.slothy_cli.specs.Plan.{region_problem}
use Rattle.slothy_cli.specs.Searched.{region_searched, IsBestOf}
use Rattle.slothy_cli.specs.Setting.{Setting}
use Rattle.slothy_cli.specs.Shown.{stop_told}
use Rattle.slothy_cli.proofs.Searched.{best-fewest, answers-found}

-- the line of the best schedule, or want of memory
pub line-settles : {X : Type 0} (language : Language) (aim : Aim) (key count : ℕ) (setting : Setting) (problem : Problem) (schedule : List Choice) (before : ℕ) → IsBestOf language.isa aim setting problem schedule
    → region_searched language.isa aim setting ≡ Ok schedule → before ≡ own_stalls language.isa setting → (view : X → List ℕ) (line : Result X Failure)
    → Gives stop_told view line (Ok (demo_line key count before (stalls_of problem schedule))) → Settles stop_told view line (DemoAnswers language aim key count setting)
line-settles language aim key count setting problem schedule before best came own view (Ok x) told =
    answers-found (region_problem language.isa aim setting) aim.most (region_searched language.isa aim setting) (KernelAnswers language aim key count setting) schedule (Ok (view x)) came (
      subst (λ p. IsBest p aim.most schedule) best.is best.best,
      best-fewest language.isa aim setting (subst IsSearchable best.is best.searchable) schedule (subst (λ p. IsBest p aim.most schedule) best.is best.best),
      sym told ∙ ap (λ n. Ok (demo_line key count n (stalls_of problem schedule))) own ∙ ap (λ p. Ok (demo_line key count (own_stalls language.isa setting) (stalls_of p schedule))) best.is,
    )
line-settles language aim key count setting problem schedule before best came own view (Err (Stopped stop)) told = absurd (cc)
line-settles language aim key count setting problem schedule before best came own view (Err NoMemory) told = tt
