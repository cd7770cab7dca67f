-- The lines of a text, as an iterator has them left.
use Rattle.std.specs.Prelude.{ℕ, suc, ◌==◌, List, [], ◌∷◌, if◌then◌else◌}
use Rattle.sl_model.specs.Text.{numbered_lines}
use Rattle.sl_text.specs.declared.line.Line.{Line}
use Rattle.sl_text.specs.declared.line.Lines.{Lines}

-- the length of the first line with its end
unfoldable pub line_length : List ℕ → ℕ
line_length [] = 0
line_length (c ∷ text) = if c == 10 then 1 else suc (line_length text)

-- a line as its number and its text
abbrev pub line_value : Line → ℕ × List ℕ
line_value line = (line.number, line.text.now)

-- the lines that are left
unfoldable pub lines_left : Lines → List (ℕ × List ℕ)
lines_left left = numbered_lines left.number left.rest.now
