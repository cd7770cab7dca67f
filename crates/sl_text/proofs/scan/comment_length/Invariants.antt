use Rattle.std.proofs.Common.{◌≡◌, ◌+◌, drop}
use Rattle.sl_model.specs.Token.{comment_length}
use Rattle.sl_text.proofs.scan.comment_length.Given as goal

abbrev pub invariant-loop-place : goal.invariant-loop-place
invariant-loop-place l = l.place + comment_length (drop l.place l.text) ≡ comment_length l.text
