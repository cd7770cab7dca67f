use Rattle.std.proofs.Common.{◌≡◌, ◌≤◌, take, map}
use Rattle.std.specs.Io.KnownBytes.{append_known}
use Rattle.sl_model.specs.Text.{joined}
use Rattle.slothy_cli.proofs.report.tell.Given as goal

-- the pieces so far were taken
abbrev pub invariant-loop-piece : goal.invariant-loop-piece
invariant-loop-piece g l = record {
  taken : g.S.Sink.taken l.sink ≡ append_known (g.S.Sink.taken l.fn.sink) (joined (map (λ piece. piece.now) (take l.piece-index l.pieces)));
  rises : g.S.Sink.faults l.fn.sink ≤ g.S.Sink.faults l.sink;
}
