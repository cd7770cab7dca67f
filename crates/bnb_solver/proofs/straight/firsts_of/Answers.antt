use Rattle.std.proofs.Common.{◌≡◌, ◌<◌, [], ◌∷◌, ◌++◌, length, None, sym, ap, ◌∙◌, arith}
use Rattle.bnb_solver.proofs.Numbered.{firsts-none, firsts-some}
use Rattle.bnb_solver.proofs.straight.firsts_of.Goals as goal

pub returns-then-len-eq0-clause-firsts : goal.returns-then-len-eq0-clause-firsts
returns-then-len-eq0-clause-firsts c =
    c.in_ok-push.ensures.items ∙ ap (λ l. l ++ None ∷ []) c.new-list.ensures.items ∙ sym (firsts-none c.args.problem.now (sym c.len.ensures.len ∙ c.if-len-eq0.true))

pub returns-clause-firsts : goal.returns-clause-firsts
returns-clause-firsts c =
    let some : 0 < length c.args.problem.now.graph.items = omega arith in
    c.in_ok-push_firsts.ensures.firsts ∙ sym (firsts-some c.args.problem.now some)
