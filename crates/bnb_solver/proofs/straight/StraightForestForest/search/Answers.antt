use Rattle.std.proofs.Common.{◌≡◌, ◌<◌, length, get_or, None, sym, ap, ◌∙◌, subst}
use Rattle.search_space.specs.Levels.{IsTree}
use Rattle.bnb_solver.specs.Straight.{beginnings, tree_of}
use Rattle.bnb_solver.proofs.Numbered.{get-default, tree-at}
use Rattle.bnb_solver.proofs.straight.StraightForestForest.search.Goals as goal

pub search-requires-clause-tree : goal.search-requires-clause-tree
search-requires-clause-tree g c =
    let problem = c.self.inside.problem in
    let same : problem ≡ c.args.self.now.problem = ap (λ f. f.problem) c.self.view_is in
    let within : c.args.tree < length (beginnings problem) = subst (λ p. c.args.tree < length (beginnings p)) (sym same) c.requires.tree in
    let at : get_or (beginnings problem) c.args.tree None ≡ c.index-first.result.now =
    get-default (beginnings problem) c.args.tree None c.index-first.result.now within ∙ ap (λ l. get_or l c.args.tree c.index-first.result.now) (sym c.self.invariant.0) ∙ sym c.index-first.ensures in
    subst (λ first. IsTree (tree_of problem first)) at (tree-at problem c.is_searchable.ensures c.args.tree within)
