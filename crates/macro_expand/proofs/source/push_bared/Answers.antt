use Rattle.std.proofs.Common.{refl}
use Rattle.macro_expand.proofs.SliceLemmas.{slice-in, token-cut}
use Rattle.macro_expand.specs.Spelled.{spelled}
use Rattle.macro_expand.proofs.BaredLemmas.{bared-more, bared-done}
use Rattle.macro_expand.proofs.source.push_bared.Goals as goal

pub loop-token-init : goal.loop-token-init
loop-token-init c = (refl, λ texts line cut out. out)

pub loop-token-preserved : goal.loop-token-preserved
loop-token-preserved c = (
  bared-more c.args.line.now (spelled c.loop-token.out.items) (spelled c.push_slice.new.out.items) (spelled c.push_left.new.out.items) _ c.loop-token.commented c.touches_comment.result c.is_comment-commented.result c.loop-token.place
      c.end_of-place.result c.args.tokens.now c.loop-token.token-index _ c.loop-token-test.true c.in_ok-push_slice.ensures.text c.in_ok-push_left.ensures.text c.touches_comment.ensures c.is_comment-commented.ensures c.end_of-place.ensures c.loop-token.invariant.0,
  λ texts line cut out.
      c.in_ok-push_left.ensures.slices texts (slice-in texts c.args.line.now _ line (token-cut c.args.line.now c.args.tokens.now c.loop-token.token-index _ c.loop-token-test.true cut))
      (c.in_ok-push_slice.ensures.slices texts line (c.loop-token.invariant.1 texts line cut out)),
)

pub returns-clause-text : goal.returns-clause-text
returns-clause-text c = bared-done c.args.line.now (spelled c.loop-token.out.items) _ c.loop-token.commented c.loop-token.place c.args.tokens.now c.loop-token.token-index c.loop-token-test.false c.loop-token.invariant.0

pub returns-clause-slices : goal.returns-clause-slices
returns-clause-slices c = c.loop-token.invariant.1
