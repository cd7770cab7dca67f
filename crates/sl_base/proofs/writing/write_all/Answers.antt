-- A write that took `count` more of what remains has taken the first `sent + count` in all.
use Rattle.std.proofs.Common.{arith, ◌∙◌}
use Rattle.sl_base.proofs.Taking.{append_known-more}
use Rattle.sl_base.proofs.writing.write_all.Goals as goal

pub loop-sent-preserved : goal.loop-sent-preserved
loop-sent-preserved g c = record {
  sent = omega (arith, c.in-Ok.ensures.ok_bound);
  faults = c.in-Ok.ensures.ok_faults ∙ c.loop-sent.invariant.faults;
  taken = append_known-more _ _ _ c.args.bytes.now _ _ c.loop-sent.invariant.taken c.in-Ok.ensures.ok_taken;
}
