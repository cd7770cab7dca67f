use Rattle.std.proofs.Common.{◌≡◌, List, map, drop, max}
use Rattle.sl_model.specs.declared.schedule.Choice.{Choice}
use Rattle.search_space.specs.Bound.{greatest, needs}
use Rattle.stall_bound.specs.Recounts.{Recounts}
use Rattle.stall_bound.proofs.bounds.Bounds.needed.Given as goal

-- the greatest of what the items so far need, with that of the items that are left, is that of all
abbrev pub invariant-loop-item : goal.invariant-loop-item
invariant-loop-item l = (done : List Choice) → Recounts l.problem done l.recount →
    max l.needed (greatest (map (needs l.problem done) (drop l.item-index l.problem.graph.order))) ≡ greatest (map (needs l.problem done) l.problem.graph.order)
