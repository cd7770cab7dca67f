-- The cut of a text as values of its code.
use Rattle.std.specs.Prelude.{◌≡◌, ℕ, ◌+◌, ◌-◌, ◌<◌, ◌≤◌, List, [], ◌∷◌, ◌++◌, length, drop, Result, Ok, Err}
use Rattle.sl_model.specs.Text.{Parts, whole_lines, marker_numbers}
use Rattle.sl_model.specs.declared.text.CutRefusal.{CutRefusal}
use Rattle.sl_model.specs.declared.text.CutRefusal.TheVariants.{Twice}
use Rattle.sl_text.specs.declared.cut.Cut.{Cut}

-- a cut as the parts of its text
abbrev pub parts_of : Cut → Parts
parts_of cut = record {
  before = cut.before.now;
  body = cut.body.now;
  after = cut.after.now;
  first = cut.first;
}

-- the text ends in this rest
abbrev pub EndsIn : List ℕ → List ℕ → Type 0
EndsIn text rest = (front : List ℕ) × (text ≡ front ++ rest)

-- In a text whose lines are numbered from a first one, the first marker line of the label has this
-- number, and these are the texts from its start and below it.
pub record IsMarkerAt (label : List ℕ) (first : ℕ) (text : List ℕ)
    (number : ℕ) (from below : List ℕ) : Type 0 where
  pub numbers : marker_numbers label first (whole_lines text)
      ≡ number ∷ marker_numbers label (number + 1) (whole_lines below)
  pub low : first ≤ number
  pub high : number + length from ≤ first + length text
  pub from_lines : whole_lines from ≡ drop (number - first) (whole_lines text)
  pub below_lines : whole_lines below ≡ drop (number - first + 1) (whole_lines text)
  pub shorter : length below < length from

-- the numbers of a label's marker lines in a text
abbrev pub numbers_in : List ℕ → List ℕ → List ℕ
numbers_in label text = marker_numbers label 1 (whole_lines text)

-- The only number of a list. Where there is none, the refusal for that; where there
-- are more, `Twice` at the second.
abbrev pub only_number : CutRefusal → List ℕ → Result ℕ CutRefusal
only_number absent [] = Err absent
only_number absent (number ∷ []) = Ok number
only_number absent (number ∷ second ∷ more) = Err (Twice second)
