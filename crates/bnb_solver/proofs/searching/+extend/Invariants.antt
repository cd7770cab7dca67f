use Rattle.std.proofs.Common.{◌≡◌, ◌+◌, ◌-◌, ◌^◌, ◌≤◌, false, min, length, reverse}
use Rattle.search_space.specs.Next.{rest_behind}
use Rattle.bnb_solver.proofs.Progress.{Progress}
use Rattle.bnb_solver.proofs.searching.+extend.Given as goal

abbrev pub decreases-extend : goal.decreases-extend
decreases-extend g l = length l.problem.now.graph.items - length l.prefix.now.choices

abbrev pub invariant-loop-choice : goal.invariant-loop-choice
invariant-loop-choice g l = record {
  prefix : l.prefix ≡ l.initial.prefix;
  reached : Progress l.problem l.level (length l.problem.graph.items - length l.initial.prefix.choices - 1) (reverse l.initial.prefix.choices) l.initial.budget l.budget l.after;
  pushes : l.steps + l.budget ≡ l.initial.steps + l.initial.budget;
  less : l.budget ≤ l.initial.budget;
  untold : g.S.Stop.told l.stop ≡ false;
  polled : min (g.S.Stop.polls l.initial.stop + (l.steps - l.initial.steps)) (2 ^ 64 - 1) ≤ g.S.Stop.polls l.stop;
  kept : g.S.Stop.mark l.stop ≡ g.S.Stop.mark l.initial.stop;
}

abbrev pub decreases-loop-choice : goal.decreases-loop-choice
decreases-loop-choice g l = length (rest_behind l.problem (reverse l.initial.prefix.choices) l.after)
