use Rattle.std.proofs.Common.{◌+◌, sym, ◌∙◌}
use Rattle.std.proofs.lemmas.List.{take_rest}
use Rattle.macro_expand.proofs.WordLemmas.{whole_field, passed_more, cut_field}
use Rattle.macro_expand.proofs.words.first_field.Goals as goal

pub returns-then-is_mark-clause-first : goal.returns-then-is_mark-clause-first
returns-then-is_mark-clause-first c = rw (take_rest c.args.tokens.now (c.loop-place.place + 1)) (cut_field c.args.code c.args.tokens.now c.loop-place.place _ c.loop-place-test.true c.loop-place.invariant (sym c.is_mark.ensures ∙ c.if-is_mark.true))

pub loop-place-preserved : goal.loop-place-preserved
loop-place-preserved c = passed_more c.args.code c.args.tokens.now c.loop-place.place _ c.loop-place-test.true c.loop-place.invariant (sym c.is_mark.ensures ∙ c.if-is_mark.false)

pub returns-clause-first : goal.returns-clause-first
returns-clause-first c = whole_field c.args.code c.args.tokens.now c.loop-place.place c.loop-place-test.false c.loop-place.invariant
