use Rattle.std.proofs.Common.{◌≡◌, ℕ, ◌+◌, ◌*◌, ◌≤◌, List, drop, max, sym, ap, ◌∙◌, subst, arith}
use Rattle.sl_model.specs.declared.schedule.Choice.{Choice}
use Rattle.sl_model.specs.declared.schedule.Source.{Source}
use Rattle.sl_model.specs.Legal.{Problem, sources_in}
use Rattle.search_space.specs.Bound.{known_at, known_from}
use Rattle.stall_bound.proofs.Folds.{fold-more, fold-done}
use Rattle.stall_bound.proofs.RecountLemmas.{known-step, known-none}
use Rattle.stall_bound.proofs.recount.Recount.known.Goals as goal

pub loop-operand-preserved : goal.loop-operand-preserved
loop-operand-preserved c =
    let problem : Problem = c.args.problem.now in
    let item : ℕ = c.args.item in
    let k : ℕ = c.loop-operand.operand in
    let sources : List Source = c.sources_of-source-items.result.now in
    let are : sources ≡ sources_in problem item = c.sources_of-source-items.ensures.sources in
    let greatest : c.max-known.result ≡ max c.known_at.result c.loop-operand.known = c.max-known.ensures in
    record {
      known = λ (done : List Choice) h.
          let all : ℕ → List Source → ℕ = known_from problem done item in
          subst (λ ss. max c.max-known.result (all (k + 1) (drop (k + 1) ss)) ≡ all 0 (sources_in problem item)) are
          (fold-more (known_at problem done item) all (known-step problem done item) k c.loop-operand.known c.max-known.result
          (all 0 (sources_in problem item)) sources _ c.loop-operand-test.true
          (greatest ∙ ap (λ n. max n c.loop-operand.known) (c.known_at.ensures.known done h))
          (subst (λ ss. max c.loop-operand.known (all k (drop k ss)) ≡ all 0 (sources_in problem item)) (sym are) (c.loop-operand.invariant.known done h)));
      soon =
          let before : c.loop-operand.known ≤ 512 * c.args.self.now.placed + 255 = c.loop-operand.invariant.soon in
          let now : c.known_at.result ≤ 512 * c.args.self.now.placed + 255 = c.known_at.ensures.soon in
          omega arith;
    }

pub returns-clause-known : goal.returns-clause-known
returns-clause-known c = λ (done : List Choice) h.
    let problem : Problem = c.args.problem.now in
    let item : ℕ = c.args.item in
    let all : ℕ → List Source → ℕ = known_from problem done item in
    fold-done (known_at problem done item) all (known-none problem done item) c.loop-operand.operand c.loop-operand.known
    (all 0 (sources_in problem item)) c.sources_of-source-items.result.now c.loop-operand-test.false
    (subst (λ ss. max c.loop-operand.known (all c.loop-operand.operand (drop c.loop-operand.operand ss)) ≡ all 0 (sources_in problem item))
    (sym c.sources_of-source-items.ensures.sources) (c.loop-operand.invariant.known done h))
