use Rattle.std.proofs.Common.{reverse, sym, ap, ◌∙◌}
use Rattle.sl_model.specs.Body.{chosen}
use Rattle.search_space.specs.Trials.{has_lower}
use Rattle.reduced_choice.proofs.AnyRegs.{any-first, any-more, some-reg, no-reg}
use Rattle.reduced_choice.proofs.Kin.{is_better}
use Rattle.reduced_choice.proofs.trials.has_lower.Goals as goal

pub loop-bit-init : goal.loop-bit-init
loop-bit-init c = any-first (is_better c.args.problem.now (reverse c.args.done.now) c.args.front.now.item (chosen c.args.front.now) c.args.reg)

pub returns-then-is_better : goal.returns-then-is_better
unfolding has_lower
returns-then-is_better c =
    some-reg (is_better c.args.problem.now (reverse c.args.done.now) c.args.front.now.item (chosen c.args.front.now) c.args.reg) c.loop-bit.bit c.loop-bit-test.true
    (ap (is_better c.args.problem.now (reverse c.args.done.now) c.args.front.now.item (chosen c.args.front.now) c.args.reg) (sym c.reg_of_bit.ensures) ∙ sym c.is_better.ensures ∙ c.if-is_better.true)

pub loop-bit-preserved : goal.loop-bit-preserved
loop-bit-preserved c =
    any-more (is_better c.args.problem.now (reverse c.args.done.now) c.args.front.now.item (chosen c.args.front.now) c.args.reg) c.loop-bit.bit c.loop-bit.invariant
    (ap (is_better c.args.problem.now (reverse c.args.done.now) c.args.front.now.item (chosen c.args.front.now) c.args.reg) (sym c.reg_of_bit.ensures) ∙ sym c.is_better.ensures ∙ c.if-is_better.false)

pub returns : goal.returns
unfolding has_lower
returns c =
    no-reg (is_better c.args.problem.now (reverse c.args.done.now) c.args.front.now.item (chosen c.args.front.now) c.args.reg) c.loop-bit.bit c.loop-bit-test.false c.loop-bit.auto.bit-end c.loop-bit.invariant
