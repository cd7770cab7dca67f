use Rattle.std.proofs.Common.{◌≡◌, ◌<◌, true, None, length, reverse, sym, ap, subst, ◌∙◌}
use Rattle.sl_model.specs.Source.{outputs, item_at, place_from}
use Rattle.sl_model.specs.Body.{stands_in}
use Rattle.sl_model.specs.Graph.{last_of}
use Rattle.dataflow.proofs.last.last_of.Goals as goal
use Rattle.dataflow.proofs.LastSteps.{stands-last, stands-before, passed}

pub bounds-items-from : goal.bounds-items-from
bounds-items-from c =
    let stands : stands_in c.in-Some.last.now c.loop-last.rest.now ≡ true =
    subst (λ order. stands_in c.in-Some.last.now order ≡ true) (sym c.in-Some.ensures.cases.0) (stands-last c.in-Some.before.now c.in-Some.last.now) in
    subst (λ n. n < length c.args.items.now) (sym c.from.ensures) (c.loop-last.invariant.1 c.in-Some.last.now stands)

pub loop-last-preserved : goal.loop-last-preserved
loop-last-preserved c =
    let none : place_from 0 c.args.reg (outputs (item_at c.args.items.now c.in-Some.last.now)) ≡ None =
    ap (λ n. place_from 0 c.args.reg (outputs (item_at c.args.items.now n))) (sym c.from.ensures) ∙ sym c.place_of.ensures ∙ c.in_default-place_of.is in (
      sym (ap (λ order. last_of c.args.items.now (reverse order) c.args.reg) c.in-Some.ensures.cases.0
          ∙ passed c.args.items.now c.in-Some.before.now c.in-Some.last.now c.args.reg none) ∙ c.loop-last.invariant.0,
      λ p stands. c.loop-last.invariant.1 p (subst (λ order. stands_in p order ≡ true) (sym c.in-Some.ensures.cases.0) (stands-before c.in-Some.before.now c.in-Some.last.now p stands)),
    )
