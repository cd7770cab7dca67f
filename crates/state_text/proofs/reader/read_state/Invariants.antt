use Rattle.std.proofs.Common.{◌≡◌}
use Rattle.state_text.specs.StateText.{with_lines, read_state}
use Rattle.sl_text.specs.Lines.{lines_left}
use Rattle.state_text.proofs.reader.read_state.Given as goal

abbrev pub invariant-loop-line : goal.invariant-loop-line
invariant-loop-line l = with_lines l.arch (lines_left l.line-iterator) l.state ≡ read_state l.fn.arch l.fn.text
