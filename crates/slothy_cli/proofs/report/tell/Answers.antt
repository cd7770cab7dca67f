use Rattle.std.proofs.Common.{◌≡◌, ◌≤◌, ◌+◌, length, take, map, ap, sym, ◌∙◌, arith, inl, inr, refl}
use Rattle.std.proofs.lemmas.List.{take_all}
use Rattle.std.specs.Io.KnownBytes.{append_known}
use Rattle.sl_model.specs.Text.{joined}
use Rattle.slothy_cli.proofs.Telling.{joined-more, front_of_all, risen_before, nothing_told}
use Rattle.sl_base.proofs.ForCallers.{append_known-twice}
use Rattle.slothy_cli.proofs.report.tell.Goals as goal

pub returns-in-Err-clause-took : goal.returns-in-Err-clause-took
returns-in-Err-clause-took g c =
    let sent = c.in-Err.field-0.sent in
    let piece = c.as_bytes.result.now in
    let before = joined (map (λ piece. piece.now) (take c.loop-piece.piece-index c.args.pieces.now)) in
    let within : sent ≤ length piece = omega (arith, c.in-Err.ensures.err_sent) in
    record {
      count = length before + sent;
      taken = c.in-Err.ensures.err_taken ∙ ap (λ k. append_known k (take sent piece)) c.loop-piece.invariant.taken
          ∙ append_known-twice (g.S.Sink.taken c.args.sink.now) before (take sent piece)
          ∙ ap (append_known (g.S.Sink.taken c.args.sink.now)) (front_of_all (λ piece. piece.now) c.args.pieces.now c.loop-piece.piece-index _ piece sent c.loop-piece-test.true c.as_bytes.ensures.value within);
      whole = inr (risen_before _ _ _ c.loop-piece.invariant.rises c.in-Err.ensures.err_risen);
    }

pub loop-piece-init : goal.loop-piece-init
loop-piece-init g c = record { taken = nothing_told (g.S.Sink.taken c.args.sink.now); rises = omega arith }

pub loop-piece-preserved : goal.loop-piece-preserved
loop-piece-preserved g c =
    record {
      taken = c.in_default.ensures.ok_taken ∙ ap (λ k. append_known k c.as_bytes.result.now) c.loop-piece.invariant.taken
          ∙ append_known-twice (g.S.Sink.taken c.args.sink.now) _ c.as_bytes.result.now
          ∙ ap (append_known (g.S.Sink.taken c.args.sink.now)) (sym (joined-more (λ piece. piece.now) c.args.pieces.now c.loop-piece.piece-index _ c.as_bytes.result.now c.loop-piece-test.true c.as_bytes.ensures.value));
      rises = omega (arith, c.write_all.ensures.never_falls, c.loop-piece.invariant.rises);
    }

pub returns : goal.returns
returns g c =
    let all = joined (map (λ piece. piece.now) c.args.pieces.now) in
    let end : take c.loop-piece.piece-index c.args.pieces.now ≡ c.args.pieces.now = take_all c.loop-piece.piece-index c.args.pieces.now c.loop-piece-test.false in
    record {
      never_falls = c.loop-piece.invariant.rises;
      took = record {
        count = length all;
        taken = c.loop-piece.invariant.taken ∙ ap (λ t. append_known (g.S.Sink.taken c.args.sink.now) (joined (map (λ piece. piece.now) t))) end
            ∙ ap (append_known (g.S.Sink.taken c.args.sink.now)) (sym (take_all (length all) all (omega arith)));
        whole = inl refl;
      };
    }
