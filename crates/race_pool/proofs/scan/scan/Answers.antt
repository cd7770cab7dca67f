use Rattle.std.proofs.Common.{◌+◌, ◌<◌, ◌≤◌, arith, ◌∙◌, inl}
use Rattle.std.proofs.Math.Nat.{add-mod_right}
use Rattle.race_pool.proofs.Strides.{mine_more}
use Rattle.race_pool.proofs.scan.scan.Goals as goal

pub returns-then-round-count-clause-ended : goal.returns-then-round-count-clause-ended
returns-then-round-count-clause-ended g c =
    let i = c.loop-seat.invariant in
    let stride = c.args.round.now.stride in
    let all = mine_more (λ t. g.F.Forest.outcome c.args.round.now.forest.now t c.args.round.now.level) c.loop-seat.tree stride c.args.first i.4 i.5 (rw c.in-Nothing.is at c.take_turn-kept.ensures.searched) in
    let past : g.F.Forest.tree_count c.args.round.now.forest.now ≤ c.loop-seat.tree + stride = omega (arith, c.if-round-count.true, i.2, i.3) in
    (c.loop-seat.tree + stride, (λ t lt below mine. all t lt mine), inl past)

pub loop-seat-preserved : goal.loop-seat-preserved
loop-seat-preserved g c =
    let i = c.loop-seat.invariant in
    let stride = c.args.round.now.stride in
    let all = mine_more (λ t. g.F.Forest.outcome c.args.round.now.forest.now t c.args.round.now.level) c.loop-seat.tree stride c.args.first i.4 i.5 (rw c.in-Nothing.is at c.take_turn-kept.ensures.searched) in
    let low : c.loop-seat.tree + stride < g.F.Forest.tree_count c.args.round.now.forest.now = omega (arith, c.if-round-count.false, i.2, i.3) in
    (c.take_turn-kept.ensures.seated, c.take_turn-kept.ensures.fits, low, i.3, add-mod_right c.loop-seat.tree stride ∙ i.4, all)
