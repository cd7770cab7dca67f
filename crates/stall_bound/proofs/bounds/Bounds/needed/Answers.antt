use Rattle.std.proofs.Common.{◌≡◌, ℕ, ◌+◌, List, drop, max, sym, ap, ◌∙◌, subst}
use Rattle.sl_model.specs.declared.schedule.Choice.{Choice}
use Rattle.sl_model.specs.Legal.{Problem}
use Rattle.search_space.specs.Bound.{needs, needed}
use Rattle.stall_bound.proofs.Folds.{fold-more, fold-done}
use Rattle.stall_bound.proofs.NeedLemmas.{most_needed, needs-step, needs-none}
use Rattle.stall_bound.proofs.bounds.Bounds.needed.Goals as goal

pub loop-item-preserved : goal.loop-item-preserved
loop-item-preserved c = λ (done : List Choice) h.
    let problem : Problem = c.args.problem.now in
    let k : ℕ = c.loop-item.item-index in
    let order : List ℕ = problem.graph.order in
    let are : c.order-item-items.result.now ≡ order = c.order-item-items.ensures.order in
    subst (λ ps. max c.max-needed.result (most_needed problem done (drop (k + 1) ps)) ≡ most_needed problem done order) are
    (fold-more (λ k p. needs problem done p) (λ k ps. most_needed problem done ps) (needs-step problem done) k c.loop-item.needed c.max-needed.result
    (most_needed problem done order) c.order-item-items.result.now _ c.loop-item-test.true
    (c.max-needed.ensures ∙ ap (λ n. max n c.loop-item.needed) (c.needs.ensures done h))
    (subst (λ ps. max c.loop-item.needed (most_needed problem done (drop k ps)) ≡ most_needed problem done order) (sym are) (c.loop-item.invariant done h)))

pub returns : goal.returns
unfolding needed
returns c = λ (done : List Choice) h.
    let problem : Problem = c.args.problem.now in
    let order : List ℕ = problem.graph.order in
    fold-done (λ k p. needs problem done p) (λ k ps. most_needed problem done ps) (needs-none problem done) c.loop-item.item-index c.loop-item.needed
    (most_needed problem done order) c.order-item-items.result.now c.loop-item-test.false
    (subst (λ ps. max c.loop-item.needed (most_needed problem done (drop c.loop-item.item-index ps)) ≡ most_needed problem done order)
    (sym c.order-item-items.ensures.order) (c.loop-item.invariant done h))
