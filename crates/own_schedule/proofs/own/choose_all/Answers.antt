use Rattle.std.proofs.Common.{◌≡◌, ◌∙◌, ◌+◌, ◌<◌, ◌≤◌, ℕ, List, [], ◌∷◌, ◌++◌, length, nat_lt, sym, ap, subst, arith, rules}
use Rattle.std.specs.List.{list_all}
use Rattle.std.proofs.lemmas.Bool.{lt-ltb}
use Rattle.std.proofs.lemmas.List.{length_push}
use Rattle.sl_model.specs.declared.schedule.Choice.{Choice}
use Rattle.own_schedule.specs.Issuing.{IsIssued}
use Rattle.own_schedule.proofs.InOrder.{all-taken, choices-none, choices-more, choices-all, all-more}
use Rattle.own_schedule.proofs.OneMore.{issued-none}
use Rattle.own_schedule.proofs.own.choose_all.Goals as goal

pub loop-item-init : goal.loop-item-init
loop-item-init c =
    let empty : c.new-schedule.result.items ≡ [] = c.new-schedule.ensures.items in
    record {
      made = empty ∙ sym (choices-none c.args.core.now c.args.problem.now);
      count = ap length empty;
      issued = subst (λ (s : List Choice). IsIssued c.args.problem.now s c.args.issue.now c.args.latest.now) (sym empty) (issued-none c.args.problem.now c.args.issue.now c.args.latest.now c.requires.empty c.requires.none);
      known = ap (list_all (λ (k : Choice). nat_lt k.item (length c.args.problem.now.graph.items))) empty;
      units = ap (list_all (λ (k : Choice). nat_lt k.unit (length c.args.core.now.units))) empty;
    }

pub loop-item-preserved : goal.loop-item-preserved
loop-item-preserved c =
    let before : List Choice = c.deref.result.now in
    let choice : Choice = c.choose_next-choice.result in
    let here : before ≡ c.loop-item.schedule.items = c.deref.ensures.value in
    let pushed : c.push.new.self.items ≡ c.loop-item.schedule.items ++ choice ∷ [] = search rules in
    let told : c.push.new.self.items ≡ before ++ choice ∷ [] = pushed ∙ ap (λ (s : List Choice). s ++ choice ∷ []) (sym here) in
    let inside : choice.item < length c.args.problem.now.graph.items = subst (λ (n : ℕ). n < length c.args.problem.now.graph.items) (sym c.choose_next-choice.ensures.item)
    (subst (λ (n : ℕ). c.loop-item.item < n) c.len-item-end.ensures.len c.loop-item-test.true) in
    record {
      made = choices-more c.args.core.now c.args.problem.now c.loop-item.item before c.push.new.self.items choice (here ∙ c.loop-item.invariant.made) c.choose_next-choice.ensures.next told;
      count = ap length told ∙ length_push before choice ∙ ap (λ (n : ℕ). n + 1) (ap length here ∙ c.loop-item.invariant.count);
      issued = subst (λ (s : List Choice). IsIssued c.args.problem.now s c.choose_next-choice.new.issue c.choose_next-choice.new.latest) (sym told) c.choose_next-choice.ensures.issued;
      known = all-more (λ (k : Choice). nat_lt k.item (length c.args.problem.now.graph.items)) before c.push.new.self.items choice (ap (list_all (λ (k : Choice). nat_lt k.item (length c.args.problem.now.graph.items))) here ∙ c.loop-item.invariant.known)
          (lt-ltb choice.item (length c.args.problem.now.graph.items) inside) told;
      units = all-more (λ (k : Choice). nat_lt k.unit (length c.args.core.now.units)) before c.push.new.self.items choice (ap (list_all (λ (k : Choice). nat_lt k.unit (length c.args.core.now.units))) here ∙ c.loop-item.invariant.units)
          (lt-ltb choice.unit (length c.args.core.now.units) c.choose_next-choice.ensures.unit) told;
    }

pub returns-clause-schedule : goal.returns-clause-schedule
returns-clause-schedule c =
    choices-all c.args.core.now c.args.problem.now c.loop-item.item c.loop-item.schedule.items c.loop-item.invariant.made
    (all-taken c.loop-item.item c.len-item-end.result (length c.args.problem.now.graph.items) c.loop-item-test.false c.loop-item.auto.item-end c.len-item-end.ensures.len)

pub returns-clause-count : goal.returns-clause-count
returns-clause-count c =
    c.loop-item.invariant.count
    ∙ all-taken c.loop-item.item c.len-item-end.result (length c.args.problem.now.graph.items) c.loop-item-test.false c.loop-item.auto.item-end c.len-item-end.ensures.len
