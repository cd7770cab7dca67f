use Rattle.std.proofs.Common.{arith, ◌+◌, ◌++◌, ap, sym, ◌∙◌, refl, slice_range}
use Rattle.std.proofs.lemmas.List.{take_rest}
use Rattle.std.specs.List.{prefix_len}
use Rattle.macro_expand.specs.Filled.{value_of, is_plain}
use Rattle.macro_expand.specs.Spelled.{spelled, spelled_lists, names_in}
use Rattle.macro_expand.proofs.FilledLemmas.{filled-backslash, filled-run, filled-done, plain-some}
use Rattle.macro_expand.proofs.filled.fill.Goals as goal

pub loop-place-preserved-then-text-place-eq92 : goal.loop-place-preserved-then-text-place-eq92
loop-place-preserved-then-text-place-eq92 c =
    let text = c.args.text.now in
    let place = c.loop-place.place in (
      filled-backslash (value_of (names_in c.args.names.now) (spelled_lists c.args.values.now)) text (spelled c.loop-place.out.items) (spelled c.push_value.new.out.items) _ _ place 0 c.taken.result
          c.loop-place-test.true c.if-text-place-eq92.true (take_rest text (place + 1)) c.taken.ensures.value c.in_ok-push_value.ensures.text c.loop-place.invariant.0,
      c.loop-place.invariant.1,
      λ texts parts lists out. c.in_ok-push_value.ensures.slices texts lists (c.loop-place.invariant.2 texts parts lists out),
    )

pub loop-place-preserved : goal.loop-place-preserved
loop-place-preserved c =
    let text = c.args.text.now in
    let place = c.loop-place.place in
    let size = c.plain_length.result in (
      filled-run (value_of (names_in c.args.names.now) (spelled_lists c.args.values.now)) text (spelled c.loop-place.out.items) (spelled c.push_cut.new.out.items) _ place size (place + size)
          (c.plain_length.ensures.value ∙ ap (prefix_len is_plain) (take_rest text place)) refl
          (c.in_ok-cursor.ensures.cut ∙ ap (λ t. spelled c.loop-place.out.items ++ slice_range t place (place + size)) (sym c.requires)) c.loop-place.invariant.0,
      c.in_ok-cursor.ensures.stands,
      λ texts parts lists out. c.in_ok-cursor.ensures.slices texts parts (c.loop-place.invariant.2 texts parts lists out),
    )

pub returns-clause-text : goal.returns-clause-text
returns-clause-text c =
    filled-done (value_of (names_in c.args.names.now) (spelled_lists c.args.values.now)) c.args.text.now (spelled c.loop-place.out.items) _ c.loop-place.place c.loop-place-test.false c.loop-place.invariant.0

pub loop-place-smaller : goal.loop-place-smaller
loop-place-smaller c =
    let some = plain-some c.args.text.now c.loop-place.place 0 c.plain_length.result c.loop-place-test.true c.if-text-place-eq92.false
    (c.plain_length.ensures.value ∙ ap (prefix_len is_plain) (take_rest c.args.text.now c.loop-place.place)) in
    omega (arith, some, c.loop-place-test.true)

pub returns-clause-slices : goal.returns-clause-slices
returns-clause-slices c = c.loop-place.invariant.2
