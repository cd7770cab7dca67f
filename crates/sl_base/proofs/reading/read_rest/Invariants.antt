-- The text so far, before what is left, is what was left as the loop began.
use Rattle.std.proofs.Common.{◌≡◌, ◌≤◌, length, vec_len, ◌-◌, ◌^◌}
use Rattle.std.specs.Io.KnownBytes.{prepend_known}
use Rattle.sl_base.specs.declared.reading.TheConstants.{PIECE}
use Rattle.sl_base.proofs.reading.read_rest.Given as goal

abbrev pub invariant-loop-count : goal.invariant-loop-count
invariant-loop-count g l = record {
  holds : g.F.Files.holds l.files ≡ g.F.Files.holds l.initial.files;
  chosen : g.F.Files.chosen l.files ≡ g.F.Files.chosen l.initial.files;
  faults : g.F.Files.faults l.files ≡ g.F.Files.faults l.initial.files;
  broken : g.F.Files.broken l.files ≡ g.F.Files.broken l.initial.files;
  given : g.F.Files.given l.files ≡ vec_len l.text;
  bound : vec_len l.text ≤ l.limit;
  left : g.F.Files.left l.initial.files ≡ prepend_known l.text.items (g.F.Files.left l.files);
  buffer : length l.buffer ≡ PIECE;
}

abbrev pub decreases-loop-count : goal.decreases-loop-count
decreases-loop-count g l = 2 ^ 64 - g.F.Files.given l.files
