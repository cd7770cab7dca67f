use Rattle.std.proofs.Common.{sym, ◌∙◌, subst}
use Rattle.race_pool.specs.declared.key.Level.{Level}
use Rattle.race_pool.specs.Decisive.{Has}
use Rattle.race_pool.proofs.Decided.{decided_has}
use Rattle.race_pool.proofs.turn.take_turn.Goals as goal

pub publish-requires-clause-decisive : goal.publish-requires-clause-decisive
publish-requires-clause-decisive g c κs within =
    subst (λ (l : Level). Has l.decisive c.args.tree) (sym c.requires.level)
    (decided_has (λ t. g.F.Forest.outcome c.args.round.now.forest.now t c.args.round.now.level) (λ t. g.F.Forest.holds c.args.round.now.forest.now c.search_tree-seat.new.worker t c.args.round.now.level) (g.F.Forest.tree_count c.args.round.now.forest.now) c.args.tree c.search_tree-seat.result.1 c.requires.tree c.search_tree-seat.ensures.searched (sym c.is_decided.ensures ∙ c.if-is_decided.true))
