-- A text as a list of rows: where a line begins, its statements without their comments, and its
-- note.
-- Source: a profile of GNU as, in which `;` separates the statements of a line.
use Rattle.std.specs.Prelude.{ℕ, ◌==◌, Bool, true, false, ◌&&◌, List, [], ◌∷◌, ◌++◌, codes, take, drop, map, slice_range, if◌then◌else◌}
use Rattle.std.specs.Str.{str_eq_ignore_ascii_case}
use Rattle.sl_model.specs.declared.text.Comments.{Comments}
use Rattle.sl_model.specs.Token.{Lexeme, tokens, open_behind}
use Rattle.sl_model.specs.TokenTests.{is_comment}
use Rattle.macro_expand.specs.Words.{gap, end_of, words, divided, between}

-- What stands in a row: its beginning; a statement; that a macro was invoked; a note, by its words.
pub data What : Type 0 where
  Row : What
  Statement : List ℕ → What
  Invoked : What
  Note : List ℕ → What

-- what stands on a line
pub record Piece : Type 0 where
  pub line : ℕ
  pub what : What

-- something on a line
abbrev pub on_line : ℕ → What → Piece
on_line line what = record { line = line; what = what }

-- The statements of a line's tokens: `;` ends one, and the last one ends with the line.
abbrev pub statements : List Lexeme → List (List Lexeme)
statements tokens = between 59 tokens

-- What is left of a token: of a comment the gap where it stood, and nothing where it touches a
-- comment before it.
abbrev pub left_of : Bool → Lexeme → List ℕ
left_of touches token =
    if is_comment token.kind then (if touches then [] else gap ∷ []) else token.text

-- What stands on a line from a place to the end of some tokens, without their comments; `commented`
-- says that a comment ends at the place.
unfoldable pub bared : List ℕ → Bool → ℕ → List Lexeme → List ℕ
bared line commented place [] = []
bared line commented place (token ∷ tokens) =
    slice_range line place token.start
    ++ (left_of (commented && (token.start == place)) token
    ++ bared line (is_comment token.kind) (end_of token) tokens)

-- a statement of a line, given by its tokens, without its comments
abbrev pub bare : List ℕ → List Lexeme → List ℕ
bare line [] = []
bare line (first ∷ more) = bared line false first.start (first ∷ more)

-- Is a token a comment that begins with `// @slothy:`, in letters of either case?
abbrev pub is_note : Lexeme → Bool
is_note token =
    if is_comment token.kind then
    str_eq_ignore_ascii_case (take 11 token.text) (codes "// @slothy:")
    else false

-- The words of the note among a line's tokens. A note runs to the line's end, so there is one at
-- most.
unfoldable pub notes_in : List Lexeme → List (List ℕ)
notes_in [] = []
notes_in (token ∷ tokens) =
    if is_note token then drop 11 token.text ∷ notes_in tokens else notes_in tokens

-- a comment that was begun above is no note
abbrev pub notes : Bool → List Lexeme → List (List ℕ)
notes false tokens = notes_in tokens
notes true [] = []
notes true (token ∷ tokens) = notes_in tokens

-- the statements that a statement gives: its labels, and what stands behind them
abbrev pub parted : List ℕ → List (List ℕ)
parted text = divided false text (words text)

-- those of several statements of a line, each given by its tokens
unfoldable pub each_parted : List ℕ → List (List Lexeme) → List What
each_parted line [] = []
each_parted line (statement ∷ more) =
    map Statement (parted (bare line statement)) ++ each_parted line more

-- what stands on a line, given by its tokens
abbrev pub row : Bool → List ℕ → List Lexeme → List What
row inside line tokens =
    Row ∷ (each_parted line (statements tokens) ++ map Note (notes inside tokens))

-- What stands on some numbered lines; `inside` says that a block comment is open before them.
unfoldable pub rows : Comments → Bool → List (ℕ × List ℕ) → List Piece
rows comments inside [] = []
rows comments inside (line ∷ lines) =
    map (on_line line.0) (row inside line.1 (tokens comments inside line.1))
    ++ rows comments (open_behind inside (tokens comments inside line.1)) lines
