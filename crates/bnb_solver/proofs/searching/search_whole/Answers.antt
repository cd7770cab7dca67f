use Rattle.std.proofs.Common.{◌≡◌, ◌+◌, ◌-◌, ◌≤◌, ◌<◌, [], ◌∷◌, ◌++◌, reverse, None, ap, ◌∙◌, arith}
use Rattle.search_space.specs.Bound.{bound}
use Rattle.search_space.specs.Levels.{entries, visited}
use Rattle.bnb_solver.specs.Straight.{tree_of}
use Rattle.bnb_solver.proofs.OneTree.{bounded, past-outcome, past-visited, spent-outcome, spent-visited, tree-tells, tree-sees}
use Rattle.bnb_solver.proofs.searching.search_whole.Goals as goal

pub returns-then-bound-level-clause-outcome : goal.returns-then-bound-level-clause-outcome
returns-then-bound-level-clause-outcome g c =
    let at : c.bound.result ≡ bound c.args.problem.now [] = c.bound.ensures ∙ ap (λ choices. bound c.args.problem.now (reverse choices)) c.start.ensures.empty in
    let past : c.args.level < bound c.args.problem.now [] = omega arith in
    past-outcome c.args.problem.now c.is_searchable.ensures None c.args.level c.args.budget tt past

pub returns-then-bound-level-clause-pushes : goal.returns-then-bound-level-clause-pushes
returns-then-bound-level-clause-pushes g c =
    let at : c.bound.result ≡ bound c.args.problem.now [] = c.bound.ensures ∙ ap (λ choices. bound c.args.problem.now (reverse choices)) c.start.ensures.empty in
    let past : c.args.level < bound c.args.problem.now [] = omega arith in
    let seen : visited c.args.problem.now c.args.level c.args.budget (entries (tree_of c.args.problem.now None) c.args.level) ≡ 0 =
    past-visited c.args.problem.now c.is_searchable.ensures None c.args.level c.args.budget tt past in
    (omega arith, omega arith)

pub returns-then-budget-eq0-clause-outcome : goal.returns-then-budget-eq0-clause-outcome
returns-then-budget-eq0-clause-outcome g c =
    let at : c.bound.result ≡ bound c.args.problem.now [] = c.bound.ensures ∙ ap (λ choices. bound c.args.problem.now (reverse choices)) c.start.ensures.empty in
    let within : bound c.args.problem.now [] ≤ c.args.level = omega arith in
    spent-outcome c.args.problem.now c.is_searchable.ensures None c.args.level c.args.budget within c.if-budget-eq0.true

pub returns-then-budget-eq0-clause-pushes : goal.returns-then-budget-eq0-clause-pushes
returns-then-budget-eq0-clause-pushes g c =
    let seen : visited c.args.problem.now c.args.level c.args.budget (entries (tree_of c.args.problem.now None) c.args.level) ≡ 0 =
    spent-visited c.args.problem.now c.is_searchable.ensures None c.args.level c.args.budget c.if-budget-eq0.true in
    (omega arith, omega arith)

pub returns-clause-outcome : goal.returns-clause-outcome
returns-clause-outcome g c =
    tree-tells c.args.problem.now c.is_searchable.ensures None c.args.level c.args.budget c.start.new.self.choices
    c.start.ensures.empty
    c.extend.new.budget c.extend.result c.extend.new.prefix.choices c.extend.ensures.searched

pub returns-clause-pushes : goal.returns-clause-pushes
returns-clause-pushes g c =
    let fell : c.extend.new.steps + c.extend.new.budget + 1 ≡ c.args.steps.now + c.args.budget = c.extend.ensures.pushes in
    let less : c.extend.new.budget < c.args.budget = c.extend.ensures.less in
    bounded c.extend.result c.args.budget c.extend.new.budget (visited c.args.problem.now c.args.level c.args.budget (entries (tree_of c.args.problem.now None) c.args.level)) (c.extend.new.steps - c.args.steps.now)
    (tree-sees c.args.problem.now c.is_searchable.ensures None c.args.level c.args.budget c.start.new.self.choices
    c.start.ensures.empty
    c.extend.new.budget c.extend.result c.extend.new.prefix.choices c.extend.ensures.searched)
    (omega arith) (omega arith)
