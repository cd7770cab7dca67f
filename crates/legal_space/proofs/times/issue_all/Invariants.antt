use Rattle.std.proofs.Common.{◌≡◌, ◌*◌, ◌≤◌, None, length, take, drop, reverse, get_or, EachIndex}
use Rattle.sl_model.specs.Cycles.{issued, timed, timed_from, cycles_of}
use Rattle.sl_model.specs.Legal.{sources_in}
use Rattle.issue_cost.specs.Timeline.{IsFreeBy}
use Rattle.legal_space.specs.Timed.{HasCycles}
use Rattle.legal_space.proofs.times.issue_all.Given as goal

abbrev pub invariant-loop-choice : goal.invariant-loop-choice
invariant-loop-choice l = record {
  whole : timed_from l.problem.costs (sources_in l.problem) (reverse (take l.choice-index l.schedule)) (issued l.issue.pushes) (drop l.choice-index l.schedule) ≡ timed l.problem.costs (sources_in l.problem) l.schedule;
  cycles : l.cycles.items ≡ cycles_of (issued l.issue.pushes);
  count : length (issued l.issue.pushes) ≡ l.choice-index;
  pushes : length l.issue.pushes ≡ l.choice-index;
  unbroken : l.issue.pass ≡ None;
  room : l.issue.room ≡ l.fn.issue.room;
  items : length l.latest ≡ length l.problem.graph.items;
  has : HasCycles l.latest (reverse (take l.choice-index l.schedule)) (issued l.issue.pushes);
  early : EachIndex l.latest (λ q. get_or l.latest q 0 ≤ 512 * l.choice-index);
  free : IsFreeBy (512 * l.choice-index) (issued l.issue.pushes);
}
