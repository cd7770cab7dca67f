use Rattle.std.proofs.Common.{◌≡◌, ◌+◌, ◌-◌, ◌≤◌, ◌<◌, [], ◌∷◌, ◌++◌, reverse, Some, ap, ◌∙◌, arith}
use Rattle.search_space.specs.Bound.{bound}
use Rattle.search_space.specs.Levels.{entries, visited}
use Rattle.bnb_solver.specs.Straight.{tree_of}
use Rattle.bnb_solver.proofs.OneTree.{begun-made, bounded, past-outcome, past-visited, spent-outcome, spent-visited, tree-tells, tree-sees}
use Rattle.bnb_solver.proofs.searching.search_behind.Goals as goal

pub returns-then-bound_with-level-clause-outcome : goal.returns-then-bound_with-level-clause-outcome
returns-then-bound_with-level-clause-outcome g c =
    let at : c.bound_with.result ≡ bound c.args.problem.now (c.args.choice ∷ []) = c.bound_with.ensures ∙ ap (λ choices. bound c.args.problem.now (c.args.choice ∷ reverse choices)) c.start.ensures.empty in
    let past : c.args.level < bound c.args.problem.now (c.args.choice ∷ []) = omega arith in
    past-outcome c.args.problem.now c.requires.tree.searchable (Some c.args.choice) c.args.level c.args.budget (begun-made c.args.problem.now c.args.choice c.requires.tree) past

pub returns-then-bound_with-level-clause-pushes : goal.returns-then-bound_with-level-clause-pushes
returns-then-bound_with-level-clause-pushes g c =
    let at : c.bound_with.result ≡ bound c.args.problem.now (c.args.choice ∷ []) = c.bound_with.ensures ∙ ap (λ choices. bound c.args.problem.now (c.args.choice ∷ reverse choices)) c.start.ensures.empty in
    let past : c.args.level < bound c.args.problem.now (c.args.choice ∷ []) = omega arith in
    let seen : visited c.args.problem.now c.args.level c.args.budget (entries (tree_of c.args.problem.now (Some c.args.choice)) c.args.level) ≡ 0 =
    past-visited c.args.problem.now c.requires.tree.searchable (Some c.args.choice) c.args.level c.args.budget (begun-made c.args.problem.now c.args.choice c.requires.tree) past in
    (omega arith, omega arith)

pub returns-then-budget-eq0-clause-outcome : goal.returns-then-budget-eq0-clause-outcome
returns-then-budget-eq0-clause-outcome g c =
    let at : c.bound_with.result ≡ bound c.args.problem.now (c.args.choice ∷ []) = c.bound_with.ensures ∙ ap (λ choices. bound c.args.problem.now (c.args.choice ∷ reverse choices)) c.start.ensures.empty in
    let within : bound c.args.problem.now (c.args.choice ∷ []) ≤ c.args.level = omega arith in
    spent-outcome c.args.problem.now c.requires.tree.searchable (Some c.args.choice) c.args.level c.args.budget within c.if-budget-eq0.true

pub returns-then-budget-eq0-clause-pushes : goal.returns-then-budget-eq0-clause-pushes
returns-then-budget-eq0-clause-pushes g c =
    let seen : visited c.args.problem.now c.args.level c.args.budget (entries (tree_of c.args.problem.now (Some c.args.choice)) c.args.level) ≡ 0 =
    spent-visited c.args.problem.now c.requires.tree.searchable (Some c.args.choice) c.args.level c.args.budget c.if-budget-eq0.true in
    (omega arith, omega arith)

pub returns-clause-outcome : goal.returns-clause-outcome
returns-clause-outcome g c =
    tree-tells c.args.problem.now c.requires.tree.searchable (Some c.args.choice) c.args.level c.args.budget c.push.new.self.choices
    (ap (λ p. p.choices) c.push.ensures.choices ∙ ap (λ choices. choices ++ c.args.choice ∷ []) c.start.ensures.empty)
    c.extend.new.budget c.extend.result c.extend.new.prefix.choices c.extend.ensures.searched

pub returns-clause-pushes : goal.returns-clause-pushes
returns-clause-pushes g c =
    let fell : c.extend.new.steps + c.extend.new.budget + 1 ≡ c.push.new.steps + c.args.budget = c.extend.ensures.pushes in
    let less : c.extend.new.budget < c.args.budget = c.extend.ensures.less in
    let step : c.push.new.steps ≡ c.args.steps.now + 1 = c.push.ensures.step in
    bounded c.extend.result c.args.budget c.extend.new.budget (visited c.args.problem.now c.args.level c.args.budget (entries (tree_of c.args.problem.now (Some c.args.choice)) c.args.level)) (c.extend.new.steps - c.args.steps.now)
    (tree-sees c.args.problem.now c.requires.tree.searchable (Some c.args.choice) c.args.level c.args.budget c.push.new.self.choices
    (ap (λ p. p.choices) c.push.ensures.choices ∙ ap (λ choices. choices ++ c.args.choice ∷ []) c.start.ensures.empty)
    c.extend.new.budget c.extend.result c.extend.new.prefix.choices c.extend.ensures.searched)
    (omega arith) (omega arith)
