use Rattle.std.proofs.Common.{◌≡◌, ℕ, ◌<◌, ◌-◌, ◌%◌}
use Rattle.race_pool.specs.declared.forest.Outcome.TheVariants.{Nothing}
use Rattle.race_pool.specs.Seats.{IsSeated}
use Rattle.race_pool.proofs.scan.scan.Given as goal

abbrev pub invariant-loop-seat : goal.invariant-loop-seat
invariant-loop-seat g l =
    IsSeated l.round.word.now.table_id l.round.word.now.key l.seat
    × g.F.Forest.fits l.round.forest.now l.worker
    × (l.tree < g.F.Forest.tree_count l.round.forest.now)
    × (l.count ≡ g.F.Forest.tree_count l.round.forest.now)
    × (l.tree % l.round.stride ≡ l.first)
    × ((t : ℕ) → t < l.tree → t % l.round.stride ≡ l.first → g.F.Forest.outcome l.round.forest.now t l.round.level ≡ Nothing)

abbrev pub decreases-loop-seat : goal.decreases-loop-seat
decreases-loop-seat g l = l.count - l.tree
