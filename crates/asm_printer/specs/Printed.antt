-- The written file: a region in which other instructions stand.
use Rattle.std.specs.Prelude.{ℕ, ◌≡◌, Bool, true, false, ◌==◌, ◌&&◌, ◌^◌, nat_lt, is_some, List, [], ◌∷◌, ◌++◌, reverse, slice_get, codes, Option, None, Some, option_and_then, if◌then◌else◌}
use Rattle.std.specs.List.{list_all}
use Rattle.std.specs.Fmt.{decimal}
use Rattle.sl_model.specs.declared.instruction.Instr.{Instr}
use Rattle.sl_model.specs.Text.{Parts}
use Rattle.sl_isa.specs.Language.{unmarked}
use Rattle.sl_isa.specs.Symbols.{Pair}
use Rattle.asm_reader.specs.Notes.{NoteValue}
use Rattle.asm_reader.specs.Reading.{Region}
use Rattle.asm_printer.specs.declared.plan.Head.{Head}
use Rattle.asm_printer.specs.Lines.{Printed, region_lines}

-- What a region says of itself: its first line, and the note of each instruction.
pub record PlanValue : Type 0 where
  pub head : Head
  pub notes : List NoteValue

-- Do the last two bytes of a text, which is given backwards, end a line by a
-- carriage return and a line feed?
abbrev pub ends_by_both : List ℕ → Bool
ends_by_both (a ∷ b ∷ text) = a == 10 && b == 13
ends_by_both text = false

-- the end of each printed line: as that of the start marker's line, which is
-- the last one before the region
abbrev pub line_end : List ℕ → List ℕ
line_end before = if ends_by_both (reverse before) then codes "\r\n" else codes "\n"

-- what the first line of the region says: how many items there are, the cycles and the stalls
abbrev pub head_note : Head → List ℕ
head_note head =
    codes " v=1 kind=straight n=" ++ (decimal head.items
    ++ (codes " cycles=" ++ (decimal head.cycles
    ++ (codes " stalls=" ++ decimal head.stalls))))

-- a label and a number, where there is one
abbrev pub numbered : List ℕ → Option ℕ → List ℕ
numbered label None = []
numbered label (Some n) = label ++ decimal n

-- a label and a name, where there is one
abbrev pub named : List ℕ → Option (List ℕ) → List ℕ
named label None = []
named label (Some name) = label ++ name

-- a word, where it is to be said
abbrev pub word_if : Bool → List ℕ → List ℕ
word_if true word = word
word_if false word = []

-- the name of a tag
abbrev pub tag_name : List (List ℕ) → Option ℕ → Option (List ℕ)
tag_name tags tag = option_and_then (slice_get tags) tag

-- the tag and the marks of an instruction
abbrev pub marks_note : List (List ℕ) → Instr → List ℕ
marks_note tags i =
    named (codes " mem=") (tag_name tags i.tag)
    ++ (word_if i.early (codes " may_early") ++ word_if i.late (codes " may_late"))

-- what is said of an instruction: its old index, its unit, its cycle and its old line, and what the
-- old one said of it
abbrev pub item_note : List (List ℕ) → NoteValue → Instr → List ℕ
item_note tags note i =
    numbered (codes "i=") note.item
    ++ (named (codes " u=") note.unit
    ++ (numbered (codes " c=") note.cycle
    ++ ((codes " line=" ++ decimal note.line) ++ marks_note tags i)))

-- the line of an instruction with its note
abbrev pub entry : (Instr → List ℕ) → List (List ℕ) → Instr → NoteValue → Printed
entry printed tags i note =
    record { text = printed i; note = item_note tags note i; item = unmarked i }

-- Does a number fit in 64 bits, where there is one?
abbrev pub fits : Option ℕ → Bool
fits None = false
fits (Some n) = nat_lt n (2 ^ 64)

-- Has a note an item, a unit and a cycle, and does each of its numbers fit in 64 bits?
abbrev pub is_whole : NoteValue → Bool
is_whole note =
    fits note.item && (is_some note.unit && (fits note.cycle && nat_lt note.line (2 ^ 64)))

-- Does each number of a first line fit in 64 bits?
abbrev pub is_whole_head : Head → Bool
is_whole_head head =
    nat_lt head.items (2 ^ 64) && (nat_lt head.cycles (2 ^ 64) && nat_lt head.stalls (2 ^ 64))

-- Are the first line and each note of a plan such ones?
abbrev pub is_whole_plan : PlanValue → Bool
is_whole_plan plan = is_whole_head plan.head && list_all is_whole plan.notes

-- the lines of instructions with their notes
unfoldable pub entries : (Instr → List ℕ) → List (List ℕ) → List Instr → List NoteValue
    → List Printed
entries printed tags [] notes = []
entries printed tags (i ∷ items) [] = []
entries printed tags (i ∷ items) (note ∷ notes) =
    entry printed tags i note ∷ entries printed tags items notes

-- a printed region, with the names of its tags
unfoldable pub region_text : (Instr → List ℕ) → List (List ℕ) → List Instr → PlanValue → List ℕ
    → List ℕ
region_text printed tags items plan end =
    region_lines (head_note plan.head) end (entries printed tags items plan.notes)

-- the written file: what stands before the region, the printed region with the names of its
-- symbolic registers and of its tags, and what stands behind it
abbrev pub written_text : (List Pair → Instr → List ℕ) → Region → List Instr → PlanValue → List ℕ
written_text printed region items plan =
    region.parts.before
    ++ (region_text (printed region.pairs) region.tags items plan (line_end region.parts.before)
    ++ region.parts.after)

-- A text was added in which what stands before a region comes first and what stands behind it comes
-- last, byte for byte.
abbrev pub IsUntouched : Parts → List ℕ → List ℕ → Type 0
IsUntouched parts old new =
    (printed : List ℕ) × (new ≡ old ++ (parts.before ++ (printed ++ parts.after)))
