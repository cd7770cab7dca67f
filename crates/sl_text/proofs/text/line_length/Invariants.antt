use Rattle.std.proofs.Common.{◌≡◌, ◌+◌, drop}
use Rattle.sl_text.specs.Lines.{line_length}
use Rattle.sl_text.proofs.text.line_length.Given as goal

abbrev pub invariant-loop-place : goal.invariant-loop-place
invariant-loop-place l = l.place + line_length (drop l.place l.text) ≡ line_length l.text
