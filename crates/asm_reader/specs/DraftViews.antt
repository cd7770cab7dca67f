-- What was read of a region, as the definitions see it.
use Rattle.std.specs.Prelude.{◌≡◌, ◌≤◌, ◌*◌, length, map, Result, Ok, Err}
use Rattle.sl_model.specs.Answers.{Refuses}
use Rattle.sl_isa.specs.SymbolViews.{pairs}
use Rattle.asm_reader.specs.declared.draft.Draft as code
use Rattle.asm_reader.specs.declared.reasons.Refusal.{Refusal}
use Rattle.asm_reader.specs.declared.reasons.ReadRefusal.{ReadRefusal}
use Rattle.asm_reader.specs.declared.progress.Progress as progress
use Rattle.asm_reader.specs.Drafts.{Draft}
use Rattle.asm_reader.specs.Reading.{Progress}
use Rattle.asm_reader.specs.NoteViews.{note_value}
use Rattle.asm_reader.specs.TagViews.{tag_names}
use Rattle.asm_reader.specs.Views.{refusal_of}

-- a draft without where it lies in memory
abbrev pub draft_value : code.Draft → Draft
draft_value draft = record {
  items = draft.items.items;
  notes = map note_value draft.notes.items;
  tags = tag_names draft.tags;
  mask = draft.mask;
  awaiting = draft.awaiting;
  invoked = draft.invoked;
}

-- a draft with the names of symbolic registers
abbrev pub progress_value : progress.Progress → Progress
progress_value read =
    record { draft = draft_value read.draft; pairs = pairs read.symbols }

-- What a function left behind is the answer of a definition, unless it failed.
abbrev pub Leaves : {X Y : Type 0} → Result X ReadRefusal → Y → Result Y Refusal → Type 0
Leaves (Ok x) left answer = answer ≡ Ok left
Leaves (Err failure) left answer = Refuses (refusal_of failure) answer

-- There were at most as many symbolic registers as instructions can name, seven each.
abbrev pub HasFewNames : progress.Progress → Type 0
HasFewNames read = length (pairs read.symbols) ≤ 7 * length read.draft.items.items
