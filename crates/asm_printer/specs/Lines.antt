-- A printed region, line by line. Source: this project's own format; what it says of itself stands
-- in comments, which an assembler passes over.
use Rattle.std.specs.Prelude.{ℕ, ◌==◌, ◌≡◌, ◌⊎◌, Bool, true, false, not, List, [], ◌∷◌, ◌++◌, map, codes, if◌then◌else◌}
use Rattle.std.specs.List.{list_all}
use Rattle.sl_model.specs.declared.instruction.Instr.{Instr}
use Rattle.sl_model.specs.declared.text.Comments.{Comments}
use Rattle.sl_isa.specs.Language.{Language, IsSpelledAt, is_no_feed}

-- A printed instruction: its text, and what its note says.
pub record Printed : Type 0 where
  pub text : List ℕ
  pub note : List ℕ
  pub item : Instr

-- the instructions that are printed
abbrev pub printed_items : List Printed → List Instr
printed_items printed = map (λ p. p.item) printed

-- A text is the end of a line.
abbrev pub IsLineEnd : List ℕ → Type 0
IsLineEnd end = (end ≡ codes "\n") ⊎ (end ≡ codes "\r\n")

-- the first line of a region, with what its note says
abbrev pub head_line : List ℕ → List ℕ → List ℕ
head_line note end = codes "        // @slothy:region" ++ (note ++ end)

-- the line of an instruction
abbrev pub item_line : List ℕ → Printed → List ℕ
item_line end printed =
    codes "        " ++ (printed.text ++ (codes " // @slothy:" ++ (printed.note ++ end)))

-- the lines of instructions
unfoldable pub item_lines : List ℕ → List Printed → List ℕ
item_lines end [] = []
item_lines end (first ∷ more) = item_line end first ++ item_lines end more

-- a whole region
abbrev pub region_lines : List ℕ → List ℕ → List Printed → List ℕ
region_lines note end printed = head_line note end ++ item_lines end printed

-- Is a byte neither a line feed nor a carriage return?
abbrev pub is_inside_line : ℕ → Bool
is_inside_line c = if c == 10 then false else not (c == 13)

-- The text of a printed instruction spells it where it stands, without symbolic registers, and
-- neither it nor the note ends the line.
pub record IsPrinted (language : Language) (comments : Comments) (printed : Printed) : Type 0 where
  pub text : list_all is_no_feed printed.text ≡ true
  pub note : list_all is_inside_line printed.note ≡ true
  pub spelled : IsSpelledAt language [] comments printed.text 8
      (codes " // @slothy:" ++ printed.note) printed.item
