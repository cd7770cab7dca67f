use Rattle.std.proofs.Common.{◌||◌, drop, ◌+◌, eq-eqb, sym, ap, ◌∙◌}
use Rattle.std.proofs.lemmas.Bool.{ne_eqb}
use Rattle.sl_model.specs.Body.{above, stands_in}
use Rattle.dataflow.proofs.Above.{above-next, above-found, above-end}
use Rattle.dataflow.proofs.conflicts.stands_above.Goals as goal

pub returns-then-number-item : goal.returns-then-number-item
returns-then-number-item c =
    sym (above-found c.args.item c.args.other c.args.order.now c.loop-number.number-index c.loop-number-test.true (eq-eqb _ _ c.if-number-item.true)) ∙ c.loop-number.invariant

pub returns-then-number-other : goal.returns-then-number-other
returns-then-number-other c =
    sym (above-next c.args.item c.args.other c.args.order.now c.loop-number.number-index c.loop-number-test.true (ne_eqb _ _ c.if-number-item.false)
    ∙ ap (λ b. b || stands_in c.args.other (above c.args.item (drop (c.loop-number.number-index + 1) c.args.order.now))) (eq-eqb _ _ c.if-number-other.true))
    ∙ c.loop-number.invariant

pub loop-number-preserved : goal.loop-number-preserved
loop-number-preserved c =
    sym (above-next c.args.item c.args.other c.args.order.now c.loop-number.number-index c.loop-number-test.true (ne_eqb _ _ c.if-number-item.false)
    ∙ ap (λ b. b || stands_in c.args.other (above c.args.item (drop (c.loop-number.number-index + 1) c.args.order.now))) (ne_eqb _ _ c.if-number-other.false))
    ∙ c.loop-number.invariant

pub returns : goal.returns
returns c =
    sym (above-end c.args.item c.args.other c.args.order.now c.loop-number.number-index c.loop-number-test.false) ∙ c.loop-number.invariant
