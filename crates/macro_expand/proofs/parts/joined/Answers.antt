use Rattle.macro_expand.proofs.PartLemmas.{joined-step, joined-end}
use Rattle.macro_expand.proofs.parts.joined.Goals as goal

pub loop-part-preserved : goal.loop-part-preserved
loop-part-preserved c = joined-step _ _ _ _ _ _ c.loop-part-test.true c.in_ok-push_part.ensures c.loop-part.invariant

pub returns : goal.returns
returns c = joined-end _ _ _ _ c.loop-part-test.false c.loop-part.invariant
