use Rattle.std.proofs.Common.{ℕ, ◌<◌, List, length, get_or, sym, subst}
use Rattle.sl_model.specs.Legal.{Problem}
use Rattle.legal_space.proofs.Standing.{order-known}
use Rattle.legal_space.proofs.problem.Problem.order.Goals as goal

pub returns-clause-known : goal.returns-clause-known
returns-clause-known c =
    subst (λ (problem : Problem). (k : ℕ) → k < length c.order.result.now → get_or c.order.result.now k 0 < length problem.graph.items) c.self.view_is
    (subst (λ (order : List ℕ). (k : ℕ) → k < length order → get_or order k 0 < length c.self.inside.graph.items) (sym c.order.ensures)
    (order-known c.self.inside.graph c.is_sound.ensures.flow.sources))
