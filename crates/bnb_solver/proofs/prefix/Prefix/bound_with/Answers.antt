use Rattle.search_space.proofs.ForCallers.{legal-unit}
use Rattle.std.proofs.Common.{reverse}
use Rattle.bnb_solver.proofs.prefix.Prefix.bound_with.Goals as goal

pub bound_with-requires-clause-choice_unit : goal.bound_with-requires-clause-choice_unit
bound_with-requires-clause-choice_unit c =
    legal-unit c.args.problem.now c.is_searchable.ensures (reverse c.args.self.now.choices) c.args.choice.now c.requires.legal
