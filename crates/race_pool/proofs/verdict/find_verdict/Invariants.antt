use Rattle.std.proofs.Common.{◌≡◌, ℕ, ◌-◌, ◌≤◌, ◌<◌, length}
use Rattle.std.specs.Prelude.{All}
use Rattle.race_pool.specs.Level.{HaveNothing}
use Rattle.race_pool.proofs.verdict.find_verdict.Given as goal

abbrev pub invariant-loop-answer : goal.invariant-loop-answer
invariant-loop-answer g l = record {
  kept : length l.workers ≡ length l.initial.workers;
  fits : All (g.F.Forest.fits l.forest) l.workers;
  within : l.level ≤ l.most;
  lower : (lower : ℕ) → lower < l.level → HaveNothing (λ t. g.F.Forest.outcome l.forest t lower) (g.F.Forest.tree_count l.forest);
}

abbrev pub decreases-loop-answer : goal.decreases-loop-answer
decreases-loop-answer g l = l.most - l.level
