use Rattle.std.proofs.Common.{◌≡◌, ◌+◌, ◌-◌, ◌≤◌, length, drop, IsUtf8}
use Rattle.sl_model.specs.Text.{whole_lines, marker_numbers}
use Rattle.sl_text.proofs.marker.next_marker.Given as goal

abbrev pub invariant-loop-line : goal.invariant-loop-line
invariant-loop-line l = record {
  utf8 : IsUtf8 l.rest;
  low : l.first ≤ l.number;
  high : l.number + length l.rest ≤ l.first + length l.text;
  place : whole_lines l.rest ≡ drop (l.number - l.first) (whole_lines l.text);
  numbers : marker_numbers l.label l.first (whole_lines l.text) ≡ marker_numbers l.label l.number (whole_lines l.rest);
}

abbrev pub decreases-loop-line : goal.decreases-loop-line
decreases-loop-line l = length l.rest
