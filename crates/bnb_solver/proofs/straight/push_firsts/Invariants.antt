use Rattle.std.proofs.Common.{◌≡◌, ◌≤◌, [], ◌++◌, map, length, Some}
use Rattle.search_space.specs.Next.{next_choices, rest_behind}
use Rattle.bnb_solver.specs.declared.refusal.TheConstants.{TREES}
use Rattle.bnb_solver.proofs.straight.push_firsts.Given as goal

abbrev pub invariant-loop-choice : goal.invariant-loop-choice
invariant-loop-choice l = record {
  all : l.list.items ++ map Some (rest_behind l.problem [] l.after) ≡ map Some (next_choices l.problem []);
  few : length l.list.items ≤ TREES;
}

abbrev pub decreases-loop-choice : goal.decreases-loop-choice
decreases-loop-choice l = length (rest_behind l.problem [] l.after)
