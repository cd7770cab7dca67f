use Rattle.std.proofs.Common.{◌≡◌, ◌≤◌, length, max}
use Rattle.std.specs.Prelude.{All}
use Rattle.bnb_solver.specs.Work.{Work}
use Rattle.bnb_solver.proofs.solving.rooms_for.Given as goal

abbrev pub invariant-loop : goal.invariant-loop
invariant-loop l = record {
  count : length l.rooms.items ≡ l.counter;
  room : All (λ (work : Work). work.room ≡ l.items) l.rooms.items;
}
