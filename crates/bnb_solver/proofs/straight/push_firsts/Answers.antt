use Rattle.std.proofs.Common.{◌≡◌, ◌+◌, ◌≤◌, length, Some, refl, sym, ap, ◌∙◌, arith}
use Rattle.std.proofs.lemmas.List.{length_push}
use Rattle.bnb_solver.specs.declared.refusal.TheConstants.{TREES}
use Rattle.bnb_solver.proofs.Numbered.{all-start, all-more, all-end, all-many, rest-fewer}
use Rattle.bnb_solver.proofs.straight.push_firsts.Goals as goal

pub loop-choice-init : goal.loop-choice-init
loop-choice-init c = record {
  all = all-start c.args.problem.now c.is_searchable.ensures c.args.list.now.items c.requires.empty;
  few = omega (arith, ap length c.requires.empty);
}

pub returns-in_default-clause-firsts : goal.returns-in_default-clause-firsts
returns-in_default-clause-firsts c =
    all-end c.args.problem.now c.is_searchable.ensures c.loop-choice.list.items c.loop-choice.after (sym c.in_default.ensures) c.loop-choice.invariant.all

pub returns-then-len-eq-TREES-clause-refused : goal.returns-then-len-eq-TREES-clause-refused
returns-then-len-eq-TREES-clause-refused c =
    let full : length c.loop-choice.list.items ≡ TREES = omega arith in
    (refl, all-many c.args.problem.now c.is_searchable.ensures c.loop-choice.list.items c.loop-choice.after c.in-Some.choice c.requires.some (sym c.in-Some.ensures) full c.loop-choice.invariant.all)

pub loop-choice-smaller : goal.loop-choice-smaller
loop-choice-smaller c = rest-fewer c.args.problem.now c.is_searchable.ensures c.loop-choice.after c.in-Some.choice (sym c.in-Some.ensures)

pub loop-choice-preserved : goal.loop-choice-preserved
loop-choice-preserved c =
    let one : length c.push.new.self.items ≡ length c.loop-choice.list.items + 1 = ap length c.in_ok-push.ensures.items ∙ length_push c.loop-choice.list.items (Some c.in-Some.choice) in
    record {
      all = all-more c.args.problem.now c.is_searchable.ensures c.loop-choice.list.items c.push.new.self.items c.loop-choice.after c.in-Some.choice (sym c.in-Some.ensures) c.in_ok-push.ensures.items c.loop-choice.invariant.all;
      few = omega arith;
    }
