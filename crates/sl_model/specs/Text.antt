-- The lines of a text, and its cut at two marker lines. A text is the list of its bytes.
-- Source: a profile of GNU as, in which a region stands between two labels.
use Rattle.std.specs.Prelude.{ℕ, Bool, true, false, ◌+◌, ◌-◌, ◌==◌, ◌&&◌, ◌||◌, nat_eq, nat_lt, List, [], ◌∷◌, ◌++◌, length, map, take, drop, codes, count_by, Option, None, Some, Result, Ok, Err, if◌then◌else◌}
use Rattle.std.specs.List.{starts_with, enumerate_from}
use Rattle.std.specs.Str.Lossy.{utf8_valid_len}
use Rattle.sl_model.specs.declared.text.CutRefusal.{CutRefusal}
use Rattle.sl_model.specs.declared.text.CutRefusal.TheVariants.{NoStart, NoEnd, Twice}

-- puts a byte before the first of some lines; where there is none, it begins one
abbrev pub prepend : ℕ → List (List ℕ) → List (List ℕ)
prepend c [] = (c ∷ []) ∷ []
prepend c (line ∷ lines) = (c ∷ line) ∷ lines

-- The lines of a text, each with its end: a line ends behind a line feed, and the
-- last one may end with the text.
unfoldable pub whole_lines : List ℕ → List (List ℕ)
whole_lines [] = []
whole_lines (c ∷ text) =
    if c == 10 then (c ∷ []) ∷ whole_lines text else prepend c (whole_lines text)

-- Is this a line's end: a line feed, or a carriage return and a line feed?
abbrev pub is_line_end : List ℕ → Bool
is_line_end [] = false
is_line_end (a ∷ []) = a == 10
is_line_end (a ∷ b ∷ []) = a == 13 && b == 10
is_line_end (a ∷ b ∷ c ∷ rest) = false

-- a line without its end
unfoldable pub without_end : List ℕ → List ℕ
without_end [] = []
without_end (c ∷ line) = if is_line_end (c ∷ line) then [] else c ∷ without_end line

-- the lines of a text without their ends, each with its number, counted from a first one
unfoldable pub numbered_lines : ℕ → List ℕ → List (ℕ × List ℕ)
numbered_lines first text = enumerate_from first (map without_end (whole_lines text))

-- the texts one behind the other
unfoldable pub joined : List (List ℕ) → List ℕ
joined [] = []
joined (text ∷ texts) = text ++ joined texts

-- a space or a tab
abbrev pub is_blank : ℕ → Bool
is_blank c = c == 32 || c == 9

-- a text from its first byte that isn't a blank
unfoldable pub skip_blanks : List ℕ → List ℕ
skip_blanks [] = []
skip_blanks (c ∷ text) = if is_blank c then skip_blanks text else c ∷ text

-- Is there nothing, or a comment to the line's end?
abbrev pub is_quiet : List ℕ → Bool
is_quiet [] = true
is_quiet (c ∷ text) = starts_with nat_eq (c ∷ text) (codes "//")

-- Does a line, given without its end, hold after blanks the label and a colon directly behind it,
-- and then nothing but blanks or a comment?
unfoldable pub is_marker : List ℕ → List ℕ → Bool
is_marker label line =
    starts_with nat_eq (skip_blanks line) (label ++ codes ":")
    && is_quiet (skip_blanks (drop (length label + 1) (skip_blanks line)))

-- the numbers of the marker lines of a label among lines that are numbered from a first one
unfoldable pub marker_numbers : List ℕ → ℕ → List (List ℕ) → List ℕ
marker_numbers label number [] = []
marker_numbers label number (line ∷ lines) =
    if is_marker label (without_end line) then number ∷ marker_numbers label (number + 1) lines
    else marker_numbers label (number + 1) lines

-- The parts of a text: up to and with the start marker's line, between the markers, and from the
-- start of the end marker's line; and the number of the first line between them.
pub record Parts : Type 0 where
  pub before : List ℕ
  pub body : List ℕ
  pub after : List ℕ
  pub first : ℕ

-- the parts of lines whose start and end markers have these numbers, counted from 1
abbrev pub parts_at : List (List ℕ) → ℕ → ℕ → Parts
parts_at lines start end = record {
  before = joined (take start lines);
  body = joined (take (end - 1 - start) (drop start lines));
  after = joined (drop (end - 1) lines);
  first = start + 1;
}

-- The cut of lines whose start markers and end markers have these numbers. Each marker stands
-- once, the end below the start. Of several faults the first counts: a second start, no start, a
-- second end, no end below the start.
abbrev pub cut_at : List (List ℕ) → List ℕ → List ℕ → Result Parts CutRefusal
cut_at lines (start ∷ second ∷ more) ends = Err (Twice second)
cut_at lines [] ends = Err NoStart
cut_at lines (start ∷ []) (end ∷ second ∷ more) = Err (Twice second)
cut_at lines (start ∷ []) [] = Err NoEnd
cut_at lines (start ∷ []) (end ∷ []) =
    if nat_lt start end then Ok (parts_at lines start end) else Err NoEnd

-- the cut of a text at the labels of its start and its end
unfoldable pub cut : List ℕ → List ℕ → List ℕ → Result Parts CutRefusal
cut start end text =
    cut_at (whole_lines text) (marker_numbers start 1 (whole_lines text))
    (marker_numbers end 1 (whole_lines text))

-- the number of the line, counted from 1, that a place of a text stands on
abbrev pub line_number : List ℕ → ℕ → ℕ
line_number text place = count_by (λ c. c == 10) (take place text) + 1

-- The line of the first byte that belongs to no character, and None where the bytes are
-- UTF-8. Source: Unicode, table 3-7.
unfoldable pub bad_line : List ℕ → Option ℕ
bad_line bytes =
    if utf8_valid_len bytes == length bytes then None
    else Some (line_number bytes (utf8_valid_len bytes))

-- Does a word stand somewhere in a text?
unfoldable pub holds : List ℕ → List ℕ → Bool
holds word [] = starts_with nat_eq [] word
holds word (c ∷ text) = starts_with nat_eq (c ∷ text) word || holds word text
