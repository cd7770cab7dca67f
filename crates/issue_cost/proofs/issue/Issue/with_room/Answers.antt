use Rattle.std.proofs.Common.{[], subst, sym, arith}
use Rattle.issue_cost.specs.Entries.{AreCounted}
use Rattle.issue_cost.proofs.issue.Issue.with_room.Goals as goal

pub invariant_of-result : goal.invariant_of-result
unfolding AreCounted
invariant_of-result c = record {
  small = omega (arith, c.in_ok-entries.ensures.exact);
  few = omega (arith, c.in_ok-entries.ensures.len);
  counted = subst (λ entries. AreCounted [] entries) (sym c.in_ok-entries.ensures.items) tt;
  break_within = tt;
}
