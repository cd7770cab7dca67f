use Rattle.std.proofs.Common.{◌≡◌, ℕ, ◌≤◌, false}
use Rattle.schedule_tests.proofs.race.ChaseForest.search.Given as goal

abbrev pub invariant-loop : goal.invariant-loop
invariant-loop g l =
    (g.S.Stop.told l.stop ≡ false)
    × (g.S.Stop.polls l.initial.stop ≤ g.S.Stop.polls l.stop)
    × (g.S.Stop.mark l.stop ≡ g.S.Stop.mark l.initial.stop)
