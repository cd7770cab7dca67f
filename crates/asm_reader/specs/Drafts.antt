-- Drafts: a region as far as it was read, with what each instruction and each note adds. Source: this
-- project's own format of notes; tags and marks stand behind the instruction that they are of.
use Rattle.std.specs.Prelude.{ℕ, ◌==◌, Bool, true, false, not, ◌&&◌, nat_lt, List, [], ◌∷◌, ◌++◌, length, is_some, Option, None, Some, Result, Ok, Err, if◌then◌else◌}
use Rattle.std.specs.Option.{option_map}
use Rattle.sl_model.specs.declared.instruction.Instr.{Instr}
use Rattle.sl_model.specs.declared.limits.TheConstants.{READ_ITEMS}
use Rattle.sl_model.specs.Exec.{has_access}
use Rattle.sl_model.specs.Isa.{Isa}
use Rattle.sl_model.specs.ResultSteps.{◌>>=◌}
use Rattle.asm_reader.specs.declared.draft.Awaiting.{Awaiting}
use Rattle.asm_reader.specs.declared.reasons.Reason.{Reason}
use Rattle.asm_reader.specs.declared.reasons.Reason.TheVariants as reason
use Rattle.asm_reader.specs.declared.reasons.Refusal.{Refusal}
use Rattle.asm_reader.specs.declared.reasons.Wants.{Wants}
use Rattle.asm_reader.specs.declared.words.Part.TheVariants as parts
use Rattle.asm_reader.specs.Notes.{NoteValue, Remark, Said, of_item, of_region}
use Rattle.asm_reader.specs.Tags.{place_of, with_tag}

-- a refusal at a line, and 0 for the whole text
abbrev pub refused : {A : Type 0} → ℕ → Reason → Result A Refusal
refused line reason = Err (record { line = line; reason = reason })

-- A region as far as it was read: its items, for each of them what a printed region tells of it, the
-- names of its tags by their numbers, the mask of the first note on the region, the last
-- instruction while a note may be said of it, and whether a macro was invoked since.
pub record Draft : Type 0 where
  pub items : List Instr
  pub notes : List NoteValue
  pub tags : List (List ℕ)
  pub mask : Option ℕ
  pub awaiting : Option Awaiting
  pub invoked : Bool

-- no items yet
abbrev pub no_draft : Draft
no_draft = record {
  items = [];
  notes = [];
  tags = [];
  mask = None;
  awaiting = None;
  invoked = false;
}

-- a draft where a row begins, or behind an invocation: a note isn't of an instruction above
abbrev pub anew : Bool → Draft → Draft
anew invoked draft = record draft { awaiting = None; invoked = invoked }

-- nothing is told of an instruction but its line
abbrev pub untold : ℕ → NoteValue
untold line =
    record { item = None; unit = None; cycle = None; part = parts.Plain; line = line }

-- a draft with one more item, on its line, of which no note says anything yet
abbrev pub longer : Bool → ℕ → Draft → Instr → Draft
longer accesses line draft i = record {
  items = draft.items ++ record i { line = line } ∷ [];
  notes = draft.notes ++ untold line ∷ [];
  tags = draft.tags;
  mask = draft.mask;
  awaiting = Some (record { line = line; accesses = accesses });
  invoked = false;
}

-- The most items of a region: as many as are wanted, and no more than READ_ITEMS.
abbrev pub most_items : Wants → ℕ
most_items wants = if nat_lt wants.limit READ_ITEMS then wants.limit else READ_ITEMS

-- a draft with one more item, where there is room for it
abbrev pub with_item : Wants → Bool → ℕ → Draft → Instr → Result Draft Refusal
with_item wants accesses line draft i =
    if nat_lt (length draft.items) (most_items wants) then Ok (longer accesses line draft i)
    else refused line (reason.TooMany (most_items wants))

-- ---- what notes say

-- a list whose last element is changed
unfoldable pub with_last : {X : Type 0} → (X → X) → List X → List X
with_last f [] = []
with_last f (x ∷ []) = f x ∷ []
with_last f (x ∷ y ∷ xs) = x ∷ with_last f (y ∷ xs)

-- an item with its tag, by the names of the tags, and its marks
abbrev pub marked : List (List ℕ) → Remark → Instr → Instr
marked tags remark i = record i {
  tag = option_map (λ name. place_of name tags) remark.tag;
  early = remark.early;
  late = remark.late;
}

-- a draft with what is said of its last item
abbrev pub with_remark : Draft → Remark → Draft
with_remark draft remark = record {
  items = with_last (marked draft.tags remark) draft.items;
  notes = with_last (λ note. remark.told) draft.notes;
  tags = with_tag remark.tag draft.tags;
  mask = draft.mask;
  awaiting = None;
  invoked = draft.invoked;
}

-- the first of two masks that is said
abbrev pub first_mask : Option ℕ → ℕ → Option ℕ
first_mask None mask = Some mask
first_mask (Some first) mask = Some first

-- Is there an instruction for what a note says, if that is of one?
abbrev pub has_place : Option Said → Option Awaiting → Bool
has_place None awaiting = true
has_place (Some (of_item remark)) awaiting = is_some awaiting
has_place (Some (of_region mask)) awaiting = true

-- a draft with what a note says, if there is one
abbrev pub with_said : Draft → Option Said → Draft
with_said draft None = draft
with_said draft (Some (of_item remark)) = with_remark draft remark
with_said draft (Some (of_region mask)) = record draft { mask = first_mask draft.mask mask }

-- May a note say this of an item? Only of one that accesses memory there is a tag.
abbrev pub may_say : Bool → Option Said → Bool
may_say accesses None = true
may_say accesses (Some (of_item remark)) = if is_some remark.tag then accesses else true
may_say accesses (Some (of_region mask)) = true

-- Does the last instruction stand on this line, and may this be said of it?
abbrev pub awaits : ℕ → Option Said → Option Awaiting → Bool
awaits line said None = false
awaits line said (Some last) = last.line == line && may_say last.accesses said

-- May a note stand on a line without an instruction of its statement? One on the region may, but not
-- behind an invocation; any other one belongs to the last instruction before it on its line.
abbrev pub may_stand : ℕ → Draft → Option Said → Bool
may_stand line draft None = true
may_stand line draft (Some (of_item remark)) = awaits line (Some (of_item remark)) draft.awaiting
may_stand line draft (Some (of_region mask)) = not draft.invoked

-- a draft with what a note says that stands without an instruction of its statement
abbrev pub with_note : ℕ → Draft → Option Said → Result Draft Refusal
with_note line draft said =
    if may_stand line draft said then Ok (with_said draft said)
    else refused line reason.TagBad

-- a draft with an instruction and what its note says
abbrev pub with_noted : Wants → Bool → ℕ → Draft → Option Said → Instr → Result Draft Refusal
with_noted wants accesses line draft said i =
    if may_say accesses said then
    (with_item wants accesses line draft i >>= λ more. Ok (with_said more said))
    else refused line reason.TagBad

-- a draft with what a statement holds
abbrev pub with_parts : Isa → Wants → ℕ → Draft → Option Said → Option Instr
    → Result Draft Refusal
with_parts isa wants line draft said None = with_note line draft said
with_parts isa wants line draft said (Some i) =
    with_noted wants (has_access (isa.info i.form)) line draft said i
