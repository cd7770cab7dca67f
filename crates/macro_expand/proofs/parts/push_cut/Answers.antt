use Rattle.std.proofs.Common.{subst, ◌≤◌}
use Rattle.macro_expand.proofs.PartLemmas.{cut-more, cut-last, cut-next, cut-end, stands-next}
use Rattle.macro_expand.proofs.parts.push_cut.Goals as goal

pub returns-then-saturating_sub-length-clause-cut : goal.returns-then-saturating_sub-length-clause-cut
returns-then-saturating_sub-length-clause-cut c =
    cut-last _ _ _ c.args.parts.now c.loop-next.next.index _ c.part_length-length.result _ _ c.min-low.result c.min-high.result c.saturating_sub.result c.saturating_sub-in-loop-next.result
    c.loop-next-test.true c.part_length-length.ensures c.saturating_sub.ensures c.saturating_sub-in-loop-next.ensures c.min-low.ensures c.min-high.ensures
    c.in_ok-push_piece.ensures.text c.loop-next.invariant.1 (subst (λ n. n ≤ c.part_length-length.result) c.saturating_sub-in-loop-next-2.ensures c.if-saturating_sub-length.true)

pub loop-next-preserved : goal.loop-next-preserved
loop-next-preserved c = (
  stands-next c.args.parts.now c.loop-next.next.index c.loop-next.next.start c.part_length-length.result c.in_ok-next.next.index c.in_ok-next.next.start _
      c.loop-next-test.true c.part_length-length.ensures c.in_ok-next.ensures.0 c.in_ok-next.ensures.1 c.loop-next.invariant.0,
  cut-next _ _ c.args.parts.now c.loop-next.next.index c.loop-next.next.start c.part_length-length.result c.in_ok-next.next.index c.in_ok-next.next.start c.args.from c.args.to
      c.in_ok-next.ensures.0 c.in_ok-next.ensures.1
      (cut-more _ _ _ c.args.parts.now c.loop-next.next.index _ c.part_length-length.result _ _ c.min-low.result c.min-high.result c.saturating_sub.result c.saturating_sub-in-loop-next.result
      c.loop-next-test.true c.part_length-length.ensures c.saturating_sub.ensures c.saturating_sub-in-loop-next.ensures c.min-low.ensures c.min-high.ensures
      c.in_ok-push_piece.ensures.text c.loop-next.invariant.1),
  λ texts parts out.
      c.in_ok-push_piece.ensures.slices texts (parts.each c.loop-next.next.index _ c.loop-next-test.true) (c.loop-next.invariant.2 texts parts out),
)

pub returns-clause-cut : goal.returns-clause-cut
returns-clause-cut c = cut-end _ _ c.args.parts.now c.loop-next.next.index _ _ c.loop-next-test.false c.loop-next.invariant.1

pub returns-then-saturating_sub-length-clause-slices : goal.returns-then-saturating_sub-length-clause-slices
returns-then-saturating_sub-length-clause-slices c texts parts out =
    c.in_ok-push_piece.ensures.slices texts (parts.each c.loop-next.next.index _ c.loop-next-test.true) (c.loop-next.invariant.2 texts parts out)

pub returns-clause-slices : goal.returns-clause-slices
returns-clause-slices c = c.loop-next.invariant.2
