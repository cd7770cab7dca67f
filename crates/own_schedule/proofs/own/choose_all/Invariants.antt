use Rattle.std.proofs.Common.{◌≡◌, [], true, length, nat_lt}
use Rattle.std.specs.List.{fold, list_all}
use Rattle.sl_model.specs.Source.{numbers_below}
use Rattle.own_schedule.specs.OwnSchedule.{with_item}
use Rattle.own_schedule.specs.Issuing.{IsIssued}
use Rattle.own_schedule.proofs.own.choose_all.Given as goal

-- the schedule so far is that of the items so far, and is issued
abbrev pub invariant-loop-item : goal.invariant-loop-item
invariant-loop-item l = record {
  made : l.schedule.items ≡ fold (with_item l.core l.problem) [] (numbers_below l.item);
  count : length l.schedule.items ≡ l.item;
  issued : IsIssued l.problem l.schedule.items l.issue l.latest;
  known : list_all (λ c. nat_lt c.item (length l.problem.graph.items)) l.schedule.items ≡ true;
  units : list_all (λ c. nat_lt c.unit (length l.core.units)) l.schedule.items ≡ true;
}
