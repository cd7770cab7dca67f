use Rattle.std.proofs.Common.{◌≡◌, ◌+◌, ◌*◌, ◌^◌, ◌≤◌, max, [], ◌∷◌, length, map, subst, sym, ap, ap₂, ◌∙◌, arith}
use Rattle.sl_model.specs.Cycles.{Issued, issued, issued_at, next_cycle, unit_free, row_of}
use Rattle.issue_cost.specs.Timeline.{IsFreeBy, start_from, start_of}
use Rattle.issue_cost.specs.Tallies.{Tallies}
use Rattle.issue_cost.specs.Entries.{pushed, AreCounted}
use Rattle.issue_cost.proofs.IssueRule.{issued_at-length, length-issued_from, unit_free-taken, IsFreeBy-taken}
use Rattle.issue_cost.proofs.EntryLemmas.{AreCounted-push, issued-push, start-entry, break_within-push}
use Rattle.issue_cost.proofs.issue.Issue.push.Goals as goal

pub after-tally-requires-clause-count_fits : goal.after-tally-requires-clause-count_fits
after-tally-requires-clause-count_fits c =
    let count : c.tally.result.count ≡ issued_at c.tally.result.cycle (issued c.args.self.now.pushes) = c.tally.ensures.tally.count in
    let few : issued_at c.tally.result.cycle (issued c.args.self.now.pushes) ≤ length (issued c.args.self.now.pushes) =
    issued_at-length c.tally.result.cycle (issued c.args.self.now.pushes) in
    let len : length (issued c.args.self.now.pushes) ≡ 0 + length c.args.self.now.pushes = length-issued_from [] c.args.self.now.pushes in
    omega arith

-- the cycle, by the numbers that the entry keeps
cycle_is : (c : goal.After-push_reserved) → c.cycle_for-cycle.result ≡ next_cycle c.width.result c.args.unit c.max-ready.result (issued c.args.self.now.pushes)
cycle_is c =
    c.cycle_for-cycle.ensures.cycle
    ∙ ap₂ (λ width ready. next_cycle width c.args.unit ready (issued c.args.self.now.pushes)) (sym c.width.ensures.width)
    (sym (c.max-ready.ensures ∙ ap (λ start. max start c.args.ready) c.start.ensures.start))

-- the tally with the new item, as the definition issues it
tally_after : (c : goal.After-push_reserved) → Tallies (record { unit = c.args.unit; busy = c.busy-busy.result; cycle = next_cycle c.width.result c.args.unit c.max-ready.result (issued c.args.self.now.pushes) } ∷ issued c.args.self.now.pushes) c.after-tally.result
tally_after c =
    subst
    (λ cycle. Tallies (record { unit = c.args.unit; busy = c.busy-busy.result; cycle = cycle } ∷ issued c.args.self.now.pushes) c.after-tally.result)
    (cycle_is c)
    (c.after-tally.ensures (issued c.args.self.now.pushes) c.tally.ensures.tally c.cycle_for-cycle.ensures.may_issue.unit_is_free)

-- when the operands are ready in this pass
ready_fits : (c : goal.After-push_reserved) → c.max-ready.result ≤ 2 ^ 30 + 256 * length (issued (map pushed c.self.inside.entries.items))
ready_fits c =
    let len : length (issued c.args.self.now.pushes) ≡ 0 + length c.args.self.now.pushes = length-issued_from [] c.args.self.now.pushes in
    subst (λ v. c.max-ready.result ≤ 2 ^ 30 + 256 * length (issued v.pushes)) (sym c.self.view_is)
    (omega (arith, c.max-ready.ensures, c.start.ensures.fits, c.requires.ready, len))

pub invariant_of-self : goal.invariant_of-self
invariant_of-self c = record {
  small = omega (arith, c.push_reserved.ensures.capacity);
  few = omega (arith, c.push_reserved.ensures.len, c.push_reserved.ensures.capacity, c.requires.room);
  counted = subst (λ entries. AreCounted [] entries) (sym c.push_reserved.ensures.items)
      (AreCounted-push [] c.self.inside.entries.items _ c.self.invariant.counted (record {
        ready_fits = ready_fits c;
        busy_fits = c.busy-busy.ensures.most;
        tally = subst
            (λ v. Tallies (record { unit = c.args.unit; busy = c.busy-busy.result; cycle = next_cycle c.width.result c.args.unit c.max-ready.result (issued v.pushes) } ∷ issued v.pushes) c.after-tally.result)
            (sym c.self.view_is) (tally_after c);
      }));
  break_within = break_within-push c.self.inside.pass (length c.self.inside.entries.items) (length c.push_reserved.new.self.items) c.self.invariant.break_within
      (omega (arith, c.push_reserved.ensures.len));
}

pub returns-clause-counted : goal.returns-clause-counted
returns-clause-counted c =
    ap (λ entries. issued (map pushed entries)) c.push_reserved.ensures.items
    ∙ issued-push c.self.inside.entries.items _
    ∙ ap (λ v. record { unit = c.args.unit; busy = c.busy-busy.result; cycle = next_cycle c.width.result c.args.unit c.max-ready.result (issued v.pushes) } ∷ issued v.pushes) c.self.view_is
    ∙ ap₂ (λ busy cycle. record { unit = c.args.unit; busy = busy; cycle = cycle } ∷ issued c.args.self.now.pushes) c.busy-busy.ensures.busy (sym (cycle_is c))

pub returns-clause-started : goal.returns-clause-started
returns-clause-started c =
    ap (λ entries. start_from (map pushed entries) c.self.inside.pass) c.push_reserved.ensures.items
    ∙ start-entry c.self.inside.entries.items _ c.self.inside.pass c.self.invariant.break_within
    ∙ ap start_of c.self.view_is

-- what was issued
abbrev item : (c : goal.After-push_reserved) → Issued
item c = record { unit = c.args.unit; busy = (row_of c.args.costs.now c.args.item).busy; cycle = c.cycle_for-cycle.result }

pub returns-clause-kept : goal.returns-clause-kept
returns-clause-kept c =
    ap (unit_free c.args.unit) (returns-clause-counted c)
    ∙ unit_free-taken (item c) (issued c.args.self.now.pushes) c.cycle_for-cycle.ensures.may_issue.unit_is_free

pub returns-clause-free : goal.returns-clause-free
returns-clause-free c = λ limit by ready.
    let brief : (row_of c.args.costs.now c.args.item).busy ≤ 255 = subst (λ n. n ≤ 255) c.busy-busy.ensures.busy c.busy-busy.ensures.most in
    subst (IsFreeBy (limit + 255)) (sym (returns-clause-counted c))
    (IsFreeBy-taken limit (item c) (issued c.args.self.now.pushes) by (c.cycle_for-cycle.ensures.within limit by ready) brief)
