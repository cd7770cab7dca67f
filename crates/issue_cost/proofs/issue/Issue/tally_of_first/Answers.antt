use Rattle.std.proofs.Common.{◌+◌, ◌*◌, ◌^◌, ◌<◌, ◌≤◌, length, map, take, subst, sym, ap, arith}
use Rattle.std.proofs.lemmas.List.{length-map}
use Rattle.sl_model.specs.Cycles.{issued, issued_from}
use Rattle.issue_cost.specs.Timeline.{IsFreeBy}
use Rattle.issue_cost.specs.Tallies.{Tallies}
use Rattle.issue_cost.specs.Entries.{pushed}
use Rattle.issue_cost.proofs.EntryLemmas.{first-tally, first-free_by}
use Rattle.issue_cost.proofs.issue.Issue.tally_of_first.Goals as goal

pub returns-then-count-eq0-clause-tally : goal.returns-then-count-eq0-clause-tally
unfolding issued_from
returns-then-count-eq0-clause-tally c =
    subst (λ n. Tallies (issued (take n c.args.self.now.pushes)) c.start.result) (sym c.if-count-eq0.true) c.start.ensures

pub returns-then-count-eq0-clause-few : goal.returns-then-count-eq0-clause-few
returns-then-count-eq0-clause-few c = omega (arith, c.if-count-eq0.true)

pub returns-then-count-eq0-clause-free_by : goal.returns-then-count-eq0-clause-free_by
unfolding issued_from
returns-then-count-eq0-clause-free_by c =
    subst (λ n. IsFreeBy (2 ^ 30 + 256 * n) (issued (take n c.args.self.now.pushes))) (sym c.if-count-eq0.true) tt

pub returns-clause-tally : goal.returns-clause-tally
returns-clause-tally c =
    let some : 0 < c.args.count = omega (arith, c.if-count-eq0.false) in
    let within : c.args.count ≤ length c.self.inside.entries.items = omega (arith, c.requires, length-map c.self.inside.entries.items pushed, ap (λ v. length v.pushes) c.self.view_is) in
    subst (λ v. Tallies (issued (take c.args.count v.pushes)) c.index.result.now.tally) c.self.view_is
    (subst (λ e. Tallies (issued (take c.args.count (map pushed c.self.inside.entries.items))) e.tally) (sym c.index.ensures)
    (first-tally c.args.count c.self.inside.entries.items c.index.result.now c.self.invariant.counted some within))

pub returns-clause-few : goal.returns-clause-few
returns-clause-few c =
    let within : c.args.count ≤ length c.self.inside.entries.items = omega (arith, c.requires, length-map c.self.inside.entries.items pushed, ap (λ v. length v.pushes) c.self.view_is) in
    omega (arith, within, c.self.invariant.few, c.self.invariant.small)

pub returns-clause-free_by : goal.returns-clause-free_by
returns-clause-free_by c =
    let within : c.args.count ≤ length c.self.inside.entries.items = omega (arith, c.requires, length-map c.self.inside.entries.items pushed, ap (λ v. length v.pushes) c.self.view_is) in
    subst (λ v. IsFreeBy (2 ^ 30 + 256 * c.args.count) (issued (take c.args.count v.pushes))) c.self.view_is
    (first-free_by c.args.count c.self.inside.entries.items c.self.invariant.counted within)
