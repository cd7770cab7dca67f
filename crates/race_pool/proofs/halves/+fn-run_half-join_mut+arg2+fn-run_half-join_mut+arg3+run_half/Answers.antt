use Rattle.std.proofs.Common.{◌≡◌, ℕ, ◌+◌, ◌/◌, length, rules, refl}
use Rattle.race_pool.proofs.Joined.{halves, moved}
use Rattle.race_pool.proofs.halves.+fn-run_half-join_mut+arg2+fn-run_half-join_mut+arg3+run_half.Goals as goal

pub returns : goal.returns
returns g t c =
    let outcome = λ (u : ℕ). g.F.Forest.outcome c.args.round.now.forest.now u c.args.round.now.level in
    let count = g.F.Forest.tree_count c.args.round.now.forest.now in
    let fits = g.F.Forest.fits c.args.round.now.forest.now in
    let holds = λ (w : g.row.F-Worker.Denot) (u : ℕ). g.F.Forest.holds c.args.round.now.forest.now w u c.args.round.now.level in
    let word = c.args.round.now.word.now in
    let m = length c.args.workers.now / 2 in
    let n = length c.split_at_mut-front.result.1.now in
    let new = c.join_mut-a.new in
    let seat = c.seat-1.given.0 in
    let other = c.other-2-1.given.0 in
    let xs = c.front-1.given.0 in
    let ys = c.back-1.given.0 in
    let half : length c.split_at_mut-front.result.0.now ≡ m = search rules in
    let sum : m + n ≡ length c.args.workers.now = search rules in
    let front = moved outcome count fits holds word.table_id word.key c.args.round.now.stride c.args.first (length c.split_at_mut-front.result.0.now) m new.f.4.now xs new.f.3.now seat c.join_mut-a.result.0 half (search rules) (search rules) c.join_mut-a.ensures.0.met.1 in
    let back = moved outcome count fits holds word.table_id word.key c.args.round.now.stride (c.args.first + m) n n new.g.4.now ys new.g.3.now other c.join_mut-a.result.1 refl (search rules) (search rules) c.join_mut-a.ensures.1.met.1 in
    halves outcome count fits holds word.table_id word.key c.args.round.now.stride c.args.first m n (length c.args.workers.now) xs ys seat other c.merge.new.seat c.join_mut-a.result.0 c.join_mut-a.result.1 c.lower.result front back c.lower.ensures.one c.lower.ensures.least c.merge.ensures.seated c.merge.ensures.best sum
