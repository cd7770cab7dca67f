use Rattle.std.proofs.Common.{◌+◌, ◌-◌, true, cond, ap, sym, ◌∙◌, refl, take, drop, length}
use Rattle.std.proofs.lemmas.List.{take_rest}
use Rattle.macro_expand.specs.Filled.{value_of, has_unknown, taken_behind}
use Rattle.macro_expand.specs.Spelled.{spelled_lists, names_in}
use Rattle.macro_expand.proofs.FilledLemmas.{unknown-backslash, unknown-plain, unknown-done}
use Rattle.macro_expand.proofs.filled.has_unknown.Goals as goal

pub loop-place-preserved-then-text-place-ne92 : goal.loop-place-preserved-then-text-place-ne92
loop-place-preserved-then-text-place-ne92 c =
    unknown-plain (value_of (names_in c.args.names.now) (spelled_lists c.args.values.now)) c.args.text.now c.loop-place.place 0 _ c.loop-place-test.true c.if-text-place-ne92.true c.loop-place.invariant

pub returns-then-is_unknown : goal.returns-then-is_unknown
returns-then-is_unknown c =
    let values = value_of (names_in c.args.names.now) (spelled_lists c.args.values.now) in
    let text = c.args.text.now in
    let place = c.loop-place.place in
    let behind = take (length text - (place + 1)) (drop (place + 1) text) in
    let size = taken_behind 92 behind in
    sym (ap (λ b. cond b true (has_unknown values 0 (drop (place + (1 + size)) text))) (sym c.is_unknown.ensures ∙ c.if-is_unknown.true))
    ∙ unknown-backslash values text behind place 0 size _ c.loop-place-test.true c.if-text-place-ne92.false (take_rest text (place + 1)) refl c.loop-place.invariant

pub loop-place-preserved : goal.loop-place-preserved
loop-place-preserved c =
    let values = value_of (names_in c.args.names.now) (spelled_lists c.args.values.now) in
    let text = c.args.text.now in
    let place = c.loop-place.place in
    let behind = take (length text - (place + 1)) (drop (place + 1) text) in
    let size = c.taken.result in
    sym (ap (λ b. cond b true (has_unknown values 0 (drop (place + (1 + size)) text))) (sym c.is_unknown.ensures ∙ c.if-is_unknown.false))
    ∙ unknown-backslash values text behind place 0 size _ c.loop-place-test.true c.if-text-place-ne92.false (take_rest text (place + 1)) c.taken.ensures.value c.loop-place.invariant

pub returns : goal.returns
returns c =
    unknown-done (value_of (names_in c.args.names.now) (spelled_lists c.args.values.now)) c.args.text.now _ c.loop-place.place c.loop-place-test.false c.loop-place.invariant
