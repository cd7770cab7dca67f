-- The statements of lines as they stand, where no macro is defined and no alias is in force.
-- Source: a profile of GNU as, where `;` separates statements.
use Rattle.std.specs.Prelude.{ℕ, ◌+◌, ◌-◌, Bool, true, false, List, [], ◌∷◌, ◌++◌, map, length, slice_get, drop, Option, None, Some, if◌then◌else◌}
use Rattle.sl_model.specs.declared.text.Comments.{Comments}
use Rattle.sl_model.specs.Text.{without_end}
use Rattle.sl_model.specs.Token.{Lexeme, tokens as line_tokens, open_behind}
use Rattle.sl_model.specs.TokenTests.{is_comment}
use Rattle.macro_expand.specs.Source.{statements, is_note}
use Rattle.asm_reader.specs.Statements.{Statement}

-- The tokens of a line behind the rest of a block comment; `inside` says that one
-- is open before the line.
abbrev pub outside : Bool → List Lexeme → List Lexeme
outside false tokens = tokens
outside true [] = []
outside true (comment ∷ tokens) = tokens

-- the tokens of a statement without its comments, each of which stands for a blank
unfoldable pub words_of : List Lexeme → List Lexeme
words_of [] = []
words_of (token ∷ tokens) =
    if is_comment token.kind then words_of tokens else token ∷ words_of tokens

-- what stands behind `// @slothy:` in a note
abbrev pub note_in : Option Lexeme → Option (List ℕ)
note_in None = None
note_in (Some token) = if is_note token then Some (drop 11 token.text) else None

-- what stands behind it where the last token of a statement is a note; it goes
-- to the line's end, so none stands before another token
abbrev pub note_text : List Lexeme → Option (List ℕ)
note_text tokens = note_in (slice_get tokens (length tokens - 1))

-- the statement of some tokens of a line
abbrev pub statement_at : ℕ → List Lexeme → Statement
statement_at line tokens =
    record { line = line; words = words_of tokens; note = note_text tokens }

-- the statements of the tokens of a line
abbrev pub on_line : ℕ → List Lexeme → List Statement
on_line line tokens = map (statement_at line) (statements tokens)

-- The statements of lines that are numbered from a first one; `inside` says that a
-- block comment is open before them.
unfoldable pub statements_of : Comments → Bool → ℕ → List (List ℕ) → List Statement
statements_of comments inside number [] = []
statements_of comments inside number (line ∷ lines) =
    on_line number (outside inside (line_tokens comments inside (without_end line)))
    ++ statements_of comments (open_behind inside (line_tokens comments inside (without_end line)))
    (number + 1) lines
