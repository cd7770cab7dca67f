-- What was sent is what the sink took more.
use Rattle.std.proofs.Common.{length, ◌-◌, ◌≡◌, ◌≤◌, take}
use Rattle.std.specs.Io.KnownBytes.{append_known}
use Rattle.sl_base.proofs.writing.write_all.Given as goal

abbrev pub invariant-loop-sent : goal.invariant-loop-sent
invariant-loop-sent g l = record {
  sent : l.sent ≤ length l.bytes;
  faults : g.S.Sink.faults l.sink ≡ g.S.Sink.faults l.initial.sink;
  taken : g.S.Sink.taken l.sink ≡ append_known (g.S.Sink.taken l.initial.sink) (take l.sent l.bytes);
}

abbrev pub decreases-loop-sent : goal.decreases-loop-sent
decreases-loop-sent g l = length l.bytes - l.sent
