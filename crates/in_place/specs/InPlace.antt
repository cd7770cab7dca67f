-- A printed region in its file, read in place and by itself.
use Rattle.std.specs.Prelude.{ℕ, ◌+◌, ◌-◌, ◌≤◌, ◌≡◌, true, List, [], ◌++◌, length, map, Ok}
use Rattle.std.specs.List.{list_all, AllByRecursion}
use Rattle.sl_model.specs.declared.instruction.Instr.{Instr}
use Rattle.sl_model.specs.Text.{Parts, cut}
use Rattle.sl_isa.specs.Arch.{comments_of}
use Rattle.sl_isa.specs.Language.{Language, AreSpelled, unmarked}
use Rattle.asm_reader.specs.declared.reasons.Wants.{Wants}
use Rattle.asm_reader.specs.Drafts.{most_items}
use Rattle.asm_reader.specs.Notes.{NoteValue, is_tag}
use Rattle.asm_reader.specs.Reading.{Progress, Region, region_alone, region_from, text_region}
use Rattle.asm_reader.specs.Regions.{is_marked_right, is_right_unit}
use Rattle.asm_printer.specs.Printed.{PlanValue, is_whole_plan, line_end, region_text}
use Rattle.in_place.specs.Clear.{IsClear, IsStatement, is_no_colon}

-- A program and a plan can be printed in the place of a region: words spell each instruction without
-- symbolic registers, there is room for them, their tags are named and their marks right, and the
-- plan has a whole note for each.
pub record IsPrintable (language : Language) (wants : Wants) (region : Region)
    (items : List Instr) (plan : PlanValue) : Type 0 where
  pub few : length items ≤ most_items wants
  pub spelled : AreSpelled language [] items
  pub names : list_all is_tag region.tags ≡ true
  pub marks : list_all (is_marked_right language.isa (length region.tags)) items ≡ true
  pub units : list_all (λ (note : NoteValue). is_right_unit note.unit) plan.notes ≡ true
  pub whole : is_whole_plan plan ≡ true
  pub each : length plan.notes ≡ length items

-- the texts of instructions, which have no symbolic registers
abbrev pub texts_of : Language → List Instr → List (List ℕ)
texts_of language items = map (λ i. language.printed [] (unmarked i)) items

-- the printed region in the place of another one
abbrev pub printed_in : Language → Region → List Instr → PlanValue → List ℕ
printed_in language region items plan =
    region_text (language.printed region.pairs) region.tags items plan
    (line_end region.parts.before)

-- an instruction so many lines further down
abbrev pub item_down : ℕ → Instr → Instr
item_down n i = record i { line = i.line + n }

-- a note of an instruction so many lines further down
abbrev pub note_down : ℕ → NoteValue → NoteValue
note_down n note = record note { line = note.line + n }

-- A region in its file: its parts, and what was read of it by itself, so many lines further down.
abbrev pub region_at : Parts → ℕ → Progress → Region
region_at parts n read =
    let region = region_from parts read in
    record region {
      items = map (item_down n) region.items;
      notes = map (note_down n) region.notes;
    }

-- A text in the place of a region is read there as it is read by itself, with its notes, tags and
-- marks, only further down; and that gives these instructions, their lines, tags and marks aside.
pub record ReadsInPlace (language : Language) (wants : Wants) (start end : List ℕ)
    (parts : Parts) (text : List ℕ) (items : List Instr) : Type 0 where
  pub read : Progress
  pub alone : region_alone language wants text ≡ Ok read
  pub same : map unmarked read.draft.items ≡ map unmarked items
  pub in_place : text_region language wants start end (parts.before ++ (text ++ parts.after))
      ≡ Ok (region_at (record parts { body = text }) (parts.first - 1) read)

-- Where a file is cut at two labels, in which no colon stands, and what stands before its region is
-- clear for the printed instructions, of which each is a statement of its own, the written file is
-- read in place.
abbrev pub AreReadInPlace : Language → Type 0
AreReadInPlace language =
    (wants : Wants) (start end old : List ℕ) (region : Region) (items : List Instr)
    (plan : PlanValue)
    → list_all is_no_colon start ≡ true → list_all is_no_colon end ≡ true
    → cut start end old ≡ Ok region.parts → IsPrintable language wants region items plan
    → IsClear (comments_of language.isa.name) region.parts (texts_of language items)
    → AllByRecursion IsStatement (texts_of language items)
    → ReadsInPlace language wants start end region.parts (printed_in language region items plan)
    items
