use Rattle.std.proofs.Common.{ℕ, List, ◌+◌, ◌++◌, length, slice_range, refl, ap, sym, ◌∙◌, arith}
use Rattle.macro_expand.specs.Filled.{kept}
use Rattle.macro_expand.specs.Spelled.{spelled}
use Rattle.macro_expand.proofs.KeptLemmas.{rest-is, kept-run, kept-run-twice, kept-done}
use Rattle.macro_expand.proofs.filled.push_kept.Goals as goal

pub returns-then-end-text-clause-text : goal.returns-then-end-text-clause-text
returns-then-end-text-clause-text c =
    let text : List ℕ = c.args.text.now in
    let end : ℕ = c.loop-place.place + c.kept_length.result in
    let whole : List ℕ = spelled c.args.out.now.items ++ kept 0 text in
    kept-done text (spelled c.push_cut.new.out.items) whole end (omega (arith, c.if-end-text.true))
    (kept-run text (slice_range text c.loop-place.place (length text)) (spelled c.loop-place.out.items) (spelled c.push_cut.new.out.items) whole c.loop-place.place c.kept_length.result end refl (rest-is text c.loop-place.place) c.kept_length.ensures.front
    (c.in_ok-cursor.ensures.cut ∙ ap (λ t. spelled c.loop-place.out.items ++ slice_range t c.loop-place.place end) (sym c.requires)) c.loop-place.invariant.0)
    ∙ ap (λ t. spelled c.args.out.now.items ++ kept 0 t) c.requires

pub loop-place-preserved : goal.loop-place-preserved
loop-place-preserved c =
    let text : List ℕ = c.args.text.now in
    let end : ℕ = c.loop-place.place + c.kept_length.result in (
      kept-run-twice text (slice_range text c.loop-place.place (length text)) (spelled c.loop-place.out.items) (spelled c.push_cut.new.out.items) (spelled c.args.out.now.items ++ kept 0 text) c.loop-place.place c.kept_length.result 0
          (rest-is text c.loop-place.place) c.kept_length.ensures.within c.if-end-text.false c.loop-place-test.true c.kept_length.ensures.next c.kept_length.ensures.front
          (c.in_ok-cursor.ensures.cut ∙ ap (λ t. spelled c.loop-place.out.items ++ slice_range t c.loop-place.place end) (sym c.requires)) c.loop-place.invariant.0,
      c.in_ok-cursor.ensures.stands,
      λ texts parts out. c.in_ok-cursor.ensures.slices texts parts (c.loop-place.invariant.2 texts parts out),
    )

pub returns-clause-text : goal.returns-clause-text
returns-clause-text c =
    kept-done c.args.text.now (spelled c.loop-place.out.items) (spelled c.args.out.now.items ++ kept 0 c.args.text.now) c.loop-place.place c.loop-place-test.false c.loop-place.invariant.0
    ∙ ap (λ t. spelled c.args.out.now.items ++ kept 0 t) c.requires

pub returns-then-end-text-clause-slices : goal.returns-then-end-text-clause-slices
returns-then-end-text-clause-slices c texts parts out = c.in_ok-cursor.ensures.slices texts parts (c.loop-place.invariant.2 texts parts out)

pub returns-clause-slices : goal.returns-clause-slices
returns-clause-slices c = c.loop-place.invariant.2
