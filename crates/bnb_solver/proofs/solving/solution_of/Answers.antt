use Rattle.std.proofs.Common.{◌<◌, length, Some, sym, ap, ◌∙◌, true≢false, lt-ltb, ltb-true}
use Rattle.std.proofs.lemmas.Option.{slice_get-get_or}
use Rattle.search_space.specs.Levels.Outcome.{Found}
use Rattle.search_space.specs.Levels.Verdict.{First}
use Rattle.bnb_solver.proofs.Verdicts.{of-none, of-spent, of-worker, of-found}
use Rattle.bnb_solver.proofs.solving.solution_of.Goals as goal

pub returns-in_default : goal.returns-in_default
returns-in_default c = of-none c.args.forest.now.problem c.args.most c.args.forest.now.budget c.args.answer c.in_default.is c.requires.verdict

pub returns-then-spent : goal.returns-then-spent
returns-then-spent c =
    of-spent c.args.forest.now.problem c.args.most c.args.forest.now.budget c.args.answer c.in-First.level c.in-First.tree c.in-First.worker c.in-First.spent c.in-First.is c.requires.verdict c.if-spent.true

pub unreachable-requires : goal.unreachable-requires
unreachable-requires c =
    let within : c.in-First.worker < length c.args.workers.now =
    of-worker c.args.forest.now.problem c.args.most c.args.forest.now.budget c.args.answer c.in-First.level c.in-First.tree c.in-First.worker c.in-First.spent c.in-First.is c.requires.verdict c.args.workers.now c.requires.held c.if-spent.false in
    true≢false (sym (c.in_default-get.ensures.lookup.0 ∙ lt-ltb c.in-First.worker (length c.args.workers.now) within))

pub returns : goal.returns
returns c =
    let within : c.in-First.worker < length c.args.workers.now = ltb-true c.in-First.worker (length c.args.workers.now) (sym c.in-Some.ensures.lookup.0) in
    of-found c.args.forest.now.problem c.args.most c.args.forest.now.budget c.args.answer c.in-First.level c.in-First.tree c.in-First.worker c.in-First.spent c.in-First.is c.requires.verdict c.args.workers.now c.requires.held c.if-spent.false
    c.in-Some.work.now (slice_get-get_or c.args.workers.now c.in-First.worker c.in-Some.work.now within ∙ ap Some (sym c.in-Some.ensures.lookup.1))
    ∙ ap (λ x. First c.in-First.level c.in-First.tree (Found x)) (sym (c.in_ok-schedule.ensures.items ∙ c.found.ensures))
