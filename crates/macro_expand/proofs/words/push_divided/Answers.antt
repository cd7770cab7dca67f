use Rattle.std.proofs.Common.{sym, ◌∙◌, length}
use Rattle.macro_expand.specs.Spelled.{spelled, spelled_lists}
use Rattle.macro_expand.proofs.WordLemmas.{divided-label, divided-plain, divided-none, divided-few, is-done, is-not-done}
use Rattle.macro_expand.proofs.words.push_divided.Goals as goal

pub returns-then-not-is_label-clause-text : goal.returns-then-not-is_label-clause-text
returns-then-not-is_label-clause-text c =
    divided-plain c.loop-rest.labelled (spelled c.args.parts.now) c.loop-rest.rest.now _ (spelled_lists c.loop-rest.out.items) (spelled_lists c.push_span.new.out.items) _
    c.in-len2-up.len_at_least (sym c.is_label.ensures ∙ c.if-not-is_label.true) c.in_ok-push_span.ensures.span c.loop-rest.invariant.0

pub loop-rest-preserved : goal.loop-rest-preserved
loop-rest-preserved c = (
  divided-label c.loop-rest.labelled (spelled c.args.parts.now) c.loop-rest.rest.now _ (spelled_lists c.loop-rest.out.items) (spelled_lists c.push_span-in-len2-up.new.out.items) _
      c.in-len2-up.len_at_least (sym c.is_label.ensures ∙ c.if-not-is_label.false) c.in_ok-cursor.ensures.span c.loop-rest.invariant.0,
  c.in_ok-cursor.ensures.stands,
  λ texts parts out. c.in_ok-cursor.ensures.slices texts parts (c.loop-rest.invariant.2 texts parts out),
)

pub returns-then-is_done-clause-text : goal.returns-then-is_done-clause-text
returns-then-is_done-clause-text c =
    let both = is-done c.loop-rest.labelled (length c.loop-rest.rest.now) (sym c.is_done.ensures ∙ c.if-is_done.true) in
    divided-none c.loop-rest.labelled (spelled c.args.parts.now) c.loop-rest.rest.now (spelled_lists c.loop-rest.out.items) _ both.0 both.1 c.loop-rest.invariant.0

pub returns-clause-text : goal.returns-clause-text
returns-clause-text c =
    divided-few c.loop-rest.labelled (spelled c.args.parts.now) c.loop-rest.rest.now (spelled_lists c.loop-rest.out.items) (spelled_lists c.push_span-2.new.out.items) _
    c.in_default.len_below (λ none. is-not-done c.loop-rest.labelled (length c.loop-rest.rest.now) (sym c.is_done.ensures ∙ c.if-is_done.false) none) c.in_ok-push_span-2.ensures.span c.loop-rest.invariant.0

pub returns-then-not-is_label-clause-slices : goal.returns-then-not-is_label-clause-slices
returns-then-not-is_label-clause-slices c texts parts out = c.in_ok-push_span.ensures.slices texts parts (c.loop-rest.invariant.2 texts parts out)

pub returns-then-is_done-clause-slices : goal.returns-then-is_done-clause-slices
returns-then-is_done-clause-slices c = c.loop-rest.invariant.2

pub returns-clause-slices : goal.returns-clause-slices
returns-clause-slices c texts parts out = c.in_ok-push_span-2.ensures.slices texts parts (c.loop-rest.invariant.2 texts parts out)
