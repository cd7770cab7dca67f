use Rattle.std.proofs.Common.{◌∙◌, sym, refl, get_or}
use Rattle.sl_text.proofs.NumeralLemmas.{so_far_start, so_far_next, no_number, a_number, great_number}
use Rattle.sl_text.proofs.digits.digits_value.Goals as goal

pub loop-c-init : goal.loop-c-init
loop-c-init c = so_far_start c.args.radix c.args.most c.args.text.now

pub returns-in_default : goal.returns-in_default
returns-in_default c =
    no_number c.args.radix c.args.most c.args.text.now c.loop-c.c-index (get_or c.args.text.now c.loop-c.c-index 0) c.loop-c.number
    c.loop-c.invariant (c.loop-c-test.true, refl) (sym c.digit_of.ensures.value ∙ c.in_default.is)

pub loop-c-preserved : goal.loop-c-preserved
loop-c-preserved c =
    so_far_next c.args.radix c.args.most c.args.text.now c.loop-c.c-index (get_or c.args.text.now c.loop-c.c-index 0) c.in-Some.digit
    c.loop-c.number c.with_digit-number.result c.loop-c.invariant (c.loop-c-test.true, refl) (sym c.digit_of.ensures.value ∙ c.in-Some.is)
    c.with_digit-number.ensures

pub returns-in-Some-number : goal.returns-in-Some-number
returns-in-Some-number c =
    a_number c.args.radix c.args.most c.args.text.now c.loop-c.c-index c.in-Some-number.number c.loop-c.number c.loop-c.invariant
    c.loop-c-test.false c.in-Some-number.is

pub returns-in-None : goal.returns-in-None
returns-in-None c =
    great_number c.args.radix c.args.most c.args.text.now c.loop-c.c-index c.loop-c.number c.loop-c.invariant c.loop-c-test.false
    c.in-None.is
