-- The region that a text gives: its parts, its instructions and what notes say of them, or the
-- first reason why it gives none. Source: a profile of GNU as; markers, notes and symbolic registers
-- are this project's own.
use Rattle.std.specs.Prelude.{ℕ, Bool, true, false, List, [], ◌∷◌, Option, None, Some, Result, Ok, Err, if◌then◌else◌}
use Rattle.sl_model.specs.declared.instruction.Instr.{Instr}
use Rattle.sl_model.specs.declared.text.CutRefusal.{CutRefusal}
use Rattle.sl_model.specs.declared.text.CutRefusal.TheVariants as cuts
use Rattle.sl_model.specs.ResultSteps.{◌>>=◌}
use Rattle.sl_model.specs.Text.{Parts, whole_lines, cut}
use Rattle.sl_model.specs.Token.{Lexeme}
use Rattle.sl_isa.specs.declared.reasons.FormReason.{FormReason}
use Rattle.sl_isa.specs.Arch.{comments_of}
use Rattle.sl_isa.specs.Language.{Language, pairs_behind, read_behind}
use Rattle.sl_isa.specs.Symbols.{Pair}
use Rattle.asm_reader.specs.declared.reasons.Reason.{Reason}
use Rattle.asm_reader.specs.declared.reasons.Reason.TheVariants as reason
use Rattle.asm_reader.specs.declared.reasons.Refusal.{Refusal}
use Rattle.asm_reader.specs.declared.reasons.Wants.{Wants}
use Rattle.macro_expand.specs.Expansion as expanding
use Rattle.macro_expand.specs.Region.{expansion}
use Rattle.macro_expand.specs.Source.{Piece}
use Rattle.asm_reader.specs.Drafts.{Draft, refused, no_draft, anew, with_parts}
use Rattle.asm_reader.specs.Entries.{Entry, Begun, Expanded, Stated, Told, entries}
use Rattle.asm_reader.specs.Lines.{statements_of}
use Rattle.asm_reader.specs.Notes.{NoteValue, Said, note_said, mask_or}
use Rattle.asm_reader.specs.Statements.{Statement, is_unbuilt}
use Rattle.asm_reader.specs.Unset.{first_unset}

-- ---- statements

-- A region as far as it was read: its draft, and the pairs of bank and name of its symbolic registers
-- by their numbers.
pub record Progress : Type 0 where
  pub draft : Draft
  pub pairs : List Pair

-- nothing was read yet
abbrev pub no_progress : Progress
no_progress = record { draft = no_draft; pairs = [] }

-- The refusal of words that are no instruction: what isn't built yet comes
-- before the reasons of instructions.
abbrev pub form_refusal : ℕ → List Lexeme → FormReason → Refusal
form_refusal line words form =
    record { line = line; reason = if is_unbuilt words then reason.NotYet else reason.Form form }

-- the instruction that words were read as, or why they are refused
abbrev pub instr_or : ℕ → List Lexeme → Result Instr FormReason → Result (Option Instr) Refusal
instr_or line words (Ok i) = Ok (Some i)
instr_or line words (Err form) = Err (form_refusal line words form)

-- The instruction of the words of a statement, in which symbolic registers have the numbers of
-- their pairs, and new pairs come behind those so far. No words are none.
abbrev pub instr_of : Language → List Pair → ℕ → List Lexeme → Result (Option Instr) Refusal
instr_of language pairs line [] = Ok None
instr_of language pairs line (first ∷ words) =
    instr_or line (first ∷ words) (read_behind language pairs (first ∷ words))

-- the pairs with those of the words of a statement
abbrev pub pairs_after : Language → List Pair → List Lexeme → List Pair
pairs_after language pairs [] = pairs
pairs_after language pairs (first ∷ words) = pairs_behind language pairs (first ∷ words)

-- what a note says, where it is a right one
abbrev pub right_note : ℕ → Option Said → Result (Option Said) Refusal
right_note line None = refused line reason.TagBad
right_note line (Some said) = Ok (Some said)

-- what the note of a statement says, by its text, if there is one
abbrev pub said_by : ℕ → Option (List ℕ) → Result (Option Said) Refusal
said_by line None = Ok None
said_by line (Some text) = right_note line (note_said line text)

-- What was read, with a statement. Of several faults the first counts: its words are no
-- instruction, its note isn't right, there is no room.
unfoldable pub with_statement : Language → Wants → Progress → Statement → Result Progress Refusal
with_statement language wants read statement = do
  instr ← instr_of language read.pairs statement.line statement.words
  said ← said_by statement.line statement.note
  draft ← with_parts language.isa wants statement.line read.draft said instr
  Ok (record {
    draft = draft;
    pairs = pairs_after language read.pairs statement.words;
  })

-- what was read, with some statements, in their order
unfoldable pub with_statements : Language → Wants → Progress → List Statement
    → Result Progress Refusal
with_statements language wants read [] = Ok read
with_statements language wants read (statement ∷ statements) =
    with_statement language wants read statement
    >>= λ more.
    with_statements language wants more statements

-- ---- entries

-- what was read, where a row begins, or behind an invocation
abbrev pub standing : Bool → Progress → Progress
standing invoked read = record read { draft = anew invoked read.draft }

-- a note that stands behind no statement is one of a statement without words
abbrev pub wordless : ℕ → List ℕ → Statement
wordless line note = record { line = line; words = []; note = Some note }

-- what was read, with one entry more
unfoldable pub with_entry : Language → Wants → Progress → Entry → Result Progress Refusal
with_entry language wants read Begun = Ok (standing false read)
with_entry language wants read Expanded = Ok (standing true read)
with_entry language wants read (Stated statement) = with_statement language wants read statement
with_entry language wants read (Told line note) =
    with_statement language wants read (wordless line note)

-- what was read, with some entries, in their order
unfoldable pub with_entries : Language → Wants → Progress → List Entry → Result Progress Refusal
with_entries language wants read [] = Ok read
with_entries language wants read (entry ∷ entries) =
    with_entry language wants read entry
    >>= λ more.
    with_entries language wants more entries

-- ---- a whole region

-- A value, unless there is a line to refuse for a reason.
abbrev pub unless_at : {A : Type 0} → Reason → Option ℕ → A → Result A Refusal
unless_at reason None x = Ok x
unless_at reason (Some line) x = refused line reason

-- the line of a cut's refusal
abbrev pub cut_line : CutRefusal → ℕ
cut_line cuts.NoStart = 0
cut_line cuts.NoEnd = 0
cut_line (cuts.Twice line) = line

-- the refusal of a text that cannot be cut
abbrev pub cut_refusal : CutRefusal → Refusal
cut_refusal refusal = record { line = cut_line refusal; reason = reason.Cut refusal }

-- the parts of a cut, or its refusal
abbrev pub parts_or : Result Parts CutRefusal → Result Parts Refusal
parts_or (Ok parts) = Ok parts
parts_or (Err refusal) = Err (cut_refusal refusal)

-- A region: its parts in the text, its items, for each of them what a printed region
-- tells of it, the names of its tags by their numbers, the pairs of bank and name of its symbolic
-- registers by their numbers, and the mask of early items.
pub record Region : Type 0 where
  pub parts : Parts
  pub items : List Instr
  pub notes : List NoteValue
  pub tags : List (List ℕ)
  pub pairs : List Pair
  pub mask : ℕ

-- the region of what was read
abbrev pub region_from : Parts → Progress → Region
region_from parts read = record {
  parts = parts;
  items = read.draft.items;
  notes = read.draft.notes;
  tags = read.draft.tags;
  pairs = read.pairs;
  mask = mask_or read.draft.mask;
}

-- what was read, where each symbolic register that an item reads is written by one above
abbrev pub set_read : Progress → Result Progress Refusal
set_read read = unless_at reason.SymbolUnset (first_unset [] read.draft.items) read

-- what is read of the pieces of a region
unfoldable pub pieces_read : Language → Wants → List Piece → Result Progress Refusal
pieces_read language wants pieces =
    with_entries language wants no_progress (entries pieces) >>= set_read

-- the refusal of a statement whose macros or aliases cannot be expanded
abbrev pub expand_refusal : expanding.Refusal → Refusal
expand_refusal refusal = record { line = refusal.line; reason = reason.Expand refusal.reason }

-- the pieces of a region, or the refusal of its expansion
abbrev pub pieces_or : Result (List Piece) expanding.Refusal → Result (List Piece) Refusal
pieces_or (Ok pieces) = Ok pieces
pieces_or (Err refusal) = Err (expand_refusal refusal)

-- the region of a text between two markers
unfoldable pub text_region : Language → Wants → List ℕ → List ℕ → List ℕ → Result Region Refusal
text_region language wants start end text = do
  parts ← parts_or (cut start end text)
  pieces ← pieces_or (expansion (comments_of language.isa.name) parts)
  read ← pieces_read language wants pieces
  Ok (region_from parts read)

-- What is read of a region by itself: of the statements of its lines as they stand, with nothing
-- before it.
unfoldable pub region_alone : Language → Wants → List ℕ → Result Progress Refusal
region_alone language wants text =
    with_statements language wants no_progress
    (statements_of (comments_of language.isa.name) false 1 (whole_lines text))
    >>= set_read
