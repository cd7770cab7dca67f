-- What is read of a region, one after the other, once macros are expanded and aliases replaced.
-- Source: this project's own; a note belongs to the statement that it stands behind.
use Rattle.std.specs.Prelude.{ℕ, List, [], ◌∷◌, drop, Option, None, Some}
use Rattle.macro_expand.specs.Source.{What, Row, Invoked, Note, Piece}
use Rattle.macro_expand.specs.Source as source
use Rattle.macro_expand.specs.Words.{words}
use Rattle.asm_reader.specs.Statements.{Statement}

-- The beginning of a row; that a macro was invoked; a statement with its note; a note that stands
-- behind no statement, on its line.
pub data Entry : Type 0 where
  Begun : Entry
  Expanded : Entry
  Stated : Statement → Entry
  Told : ℕ → List ℕ → Entry

-- what is read of a piece, with the note that stands directly behind it
abbrev pub entry : ℕ → What → Option (List ℕ) → Entry
entry line Row taken = Begun
entry line Invoked taken = Expanded
entry line (source.Statement text) taken =
    Stated (record { line = line; words = words text; note = taken })
entry line (Note text) taken = Told line text

-- the note of a piece
abbrev pub note_in : What → Option (List ℕ)
note_in Row = None
note_in Invoked = None
note_in (source.Statement text) = None
note_in (Note text) = Some text

-- the note that comes first of some pieces
abbrev pub note_first : List Piece → Option (List ℕ)
note_first [] = None
note_first (piece ∷ pieces) = note_in piece.what

-- the note that a piece takes of those behind it: a statement takes the first one
abbrev pub note_taken : What → List Piece → Option (List ℕ)
note_taken Row pieces = None
note_taken Invoked pieces = None
note_taken (source.Statement text) pieces = note_first pieces
note_taken (Note text) pieces = None

-- the entries behind one that took a note, or none
abbrev pub behind : Option (List ℕ) → List Entry → List Entry
behind None entries = entries
behind (Some text) entries = drop 1 entries

-- what is read of some pieces
unfoldable pub entries : List Piece → List Entry
entries [] = []
entries (piece ∷ pieces) =
    entry piece.line piece.what (note_taken piece.what pieces)
    ∷ behind (note_taken piece.what pieces) (entries pieces)
