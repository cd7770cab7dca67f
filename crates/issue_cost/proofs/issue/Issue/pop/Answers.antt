use Rattle.std.proofs.Common.{◌≡◌, ◌+◌, ◌≤◌, false, [], length, option_to_list, subst, sym, ap, ◌∙◌, arith}
use Rattle.std.proofs.lemmas.List.{length-map}
use Rattle.sl_model.specs.Cycles.{is_place}
use Rattle.issue_cost.specs.Timeline.{is_at_break}
use Rattle.issue_cost.specs.Entries.{pushed, AreCounted}
use Rattle.issue_cost.proofs.EntryLemmas.{AreCounted-front, break_within-pop, at_most_one}
use Rattle.issue_cost.proofs.issue.Issue.pop.Goals as goal

pub invariant_of-self-else-is_at_break : goal.invariant_of-self-else-is_at_break
invariant_of-self-else-is_at_break c =
    let elsewhere : is_place c.self.inside.pass (length c.self.inside.entries.items) ≡ false =
    ap (is_place c.self.inside.pass) (sym (length-map c.self.inside.entries.items pushed)) ∙ ap is_at_break c.self.view_is ∙ sym c.is_at_break.ensures ∙ c.if-is_at_break.false in
    let less : length c.self.inside.entries.items ≤ length c.pop.new.self.items + 1 = omega (arith, c.pop.ensures.len, at_most_one c.pop.result) in
    record {
      small = omega (arith, c.pop.ensures.capacity);
      few = omega (arith, c.pop.ensures.len, c.pop.ensures.capacity);
      counted = AreCounted-front [] c.pop.new.self.items (option_to_list c.pop.result) (subst (λ entries. AreCounted [] entries) c.pop.ensures.items c.self.invariant.counted);
      break_within = break_within-pop c.self.inside.pass (length c.self.inside.entries.items) (length c.pop.new.self.items) c.self.invariant.break_within elsewhere less;
    }
