use Rattle.std.proofs.Common.{◌*◌, ◌<◌, ◌≤◌, None, IfSome, get_or, sym, subst, arith}
use Rattle.sl_model.specs.declared.limits.TheConstants.{ITEMS}
use Rattle.stall_bound.proofs.RecountLemmas.{recount-cycle}
use Rattle.stall_bound.proofs.recount.Recount.cycle_at.Goals as goal

pub returns-clause-soon : goal.returns-clause-soon
returns-clause-soon c =
    let below : c.args.item < ITEMS = omega arith in
    subst (λ p. IfSome (get_or c.args.self.now.cycles p None) (λ cycle. cycle ≤ 512 * c.args.self.now.placed)) (sym c.from.ensures)
    (recount-cycle c.args.problem.now c.requires.is_one.0 c.args.self.now c.args.item c.requires.is_one.1 below)
