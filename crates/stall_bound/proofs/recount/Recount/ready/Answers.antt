use Rattle.std.proofs.Common.{◌≡◌, ℕ, ◌+◌, ◌*◌, ◌≤◌, List, drop, max, sym, ap, ◌∙◌, subst, arith}
use Rattle.sl_model.specs.declared.schedule.Choice.{Choice}
use Rattle.sl_model.specs.declared.schedule.Source.{Source}
use Rattle.sl_model.specs.Cycles.{ready_at, ready_from}
use Rattle.sl_model.specs.Legal.{Problem, sources_in}
use Rattle.search_space.specs.Bound.{issued_for}
use Rattle.stall_bound.proofs.Folds.{fold-more, fold-done}
use Rattle.stall_bound.proofs.RecountLemmas.{ready-step, ready-none}
use Rattle.stall_bound.proofs.recount.Recount.ready.Goals as goal

pub loop-operand-preserved : goal.loop-operand-preserved
loop-operand-preserved c =
    let problem : Problem = c.args.problem.now in
    let item : ℕ = c.args.item in
    let k : ℕ = c.loop-operand.operand in
    let sources : List Source = c.sources_of-source-items.result.now in
    let are : sources ≡ sources_in problem item = c.sources_of-source-items.ensures.sources in
    let greatest : c.max-ready.result ≡ max c.ready_at.result c.loop-operand.ready = c.max-ready.ensures in
    record {
      ready = λ (done : List Choice) h.
          let all : ℕ → List Source → ℕ = ready_from problem.costs done (issued_for problem done) item in
          subst (λ ss. max c.max-ready.result (all (k + 1) (drop (k + 1) ss)) ≡ all 0 (sources_in problem item)) are
          (fold-more (ready_at problem.costs done (issued_for problem done) item) all (ready-step problem done item) k c.loop-operand.ready c.max-ready.result
          (all 0 (sources_in problem item)) sources _ c.loop-operand-test.true
          (greatest ∙ ap (λ n. max n c.loop-operand.ready) (c.ready_at.ensures.ready done h))
          (subst (λ ss. max c.loop-operand.ready (all k (drop k ss)) ≡ all 0 (sources_in problem item)) (sym are) (c.loop-operand.invariant.ready done h)));
      soon =
          let before : c.loop-operand.ready ≤ 512 * c.args.self.now.placed + 255 = c.loop-operand.invariant.soon in
          let now : c.ready_at.result ≤ 512 * c.args.self.now.placed + 255 = c.ready_at.ensures.soon in
          omega arith;
    }

pub returns-clause-ready : goal.returns-clause-ready
returns-clause-ready c = λ (done : List Choice) h.
    let problem : Problem = c.args.problem.now in
    let item : ℕ = c.args.item in
    let all : ℕ → List Source → ℕ = ready_from problem.costs done (issued_for problem done) item in
    fold-done (ready_at problem.costs done (issued_for problem done) item) all (ready-none problem done item) c.loop-operand.operand c.loop-operand.ready
    (all 0 (sources_in problem item)) c.sources_of-source-items.result.now c.loop-operand-test.false
    (subst (λ ss. max c.loop-operand.ready (all c.loop-operand.operand (drop c.loop-operand.operand ss)) ≡ all 0 (sources_in problem item))
    (sym c.sources_of-source-items.ensures.sources) (c.loop-operand.invariant.ready done h))
