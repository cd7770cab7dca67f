use Rattle.std.proofs.Common.{reverse, sym, ap, ◌∙◌}
use Rattle.search_space.specs.Next.{could_go_lower}
use Rattle.reduced_choice.proofs.AnyRegs.{any-first, any-more, some-reg, no-reg}
use Rattle.reduced_choice.proofs.Kin.{could_go}
use Rattle.reduced_choice.proofs.reduced.could_go_lower.Goals as goal

pub loop-bit-init : goal.loop-bit-init
loop-bit-init c = any-first (could_go c.args.problem.now (reverse c.args.done.now) c.args.choice.now c.args.place c.args.reg)

pub returns-then-could_go : goal.returns-then-could_go
unfolding could_go_lower
returns-then-could_go c =
    some-reg (could_go c.args.problem.now (reverse c.args.done.now) c.args.choice.now c.args.place c.args.reg) c.loop-bit.bit c.loop-bit-test.true
    (ap (could_go c.args.problem.now (reverse c.args.done.now) c.args.choice.now c.args.place c.args.reg) (sym c.reg_of_bit.ensures) ∙ sym c.could_go.ensures ∙ c.if-could_go.true)

pub loop-bit-preserved : goal.loop-bit-preserved
loop-bit-preserved c =
    any-more (could_go c.args.problem.now (reverse c.args.done.now) c.args.choice.now c.args.place c.args.reg) c.loop-bit.bit c.loop-bit.invariant
    (ap (could_go c.args.problem.now (reverse c.args.done.now) c.args.choice.now c.args.place c.args.reg) (sym c.reg_of_bit.ensures) ∙ sym c.could_go.ensures ∙ c.if-could_go.false)

pub returns : goal.returns
unfolding could_go_lower
returns c =
    no-reg (could_go c.args.problem.now (reverse c.args.done.now) c.args.choice.now c.args.place c.args.reg) c.loop-bit.bit c.loop-bit-test.false c.loop-bit.auto.bit-end c.loop-bit.invariant
