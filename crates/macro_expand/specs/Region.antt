-- The definitions of macros, and all statements of a region, from the text before it on.
-- Source: `.macro` and `.endm` of GNU as; what counts is the tool's own.
use Rattle.std.specs.Prelude.{ℕ, ◌&&◌, Bool, true, false, List, [], ◌∷◌, ◌++◌, codes, bytes_eq, is_some, Option, None, Some, Result, Ok, if◌then◌else◌}
use Rattle.std.specs.Map.{update}
use Rattle.sl_model.specs.declared.limits.TheConstants.{EXPANSION_DEPTH}
use Rattle.sl_model.specs.declared.text.Comments.{Comments}
use Rattle.sl_model.specs.ResultSteps.{◌>>=◌}
use Rattle.sl_model.specs.Text.{Parts, numbered_lines}
use Rattle.sl_model.specs.Token.{Lexeme, tokens, open_behind}
use Rattle.sl_model.specs.TokenTests.{is_word}
use Rattle.macro_expand.specs.Words.{is_directive, is_alias, is_empty, words, parameters}
use Rattle.macro_expand.specs.Filled.{Names, kept}
use Rattle.macro_expand.specs.Source.{What, Row, Statement, Invoked, Note, Piece, rows}
use Rattle.macro_expand.specs.Expansion.{Refusal, refused, Macro, Known, give, count_if, with_alias, without_alias, invoked, statement, run}
use Rattle.macro_expand.specs.declared.reasons.ExpandReason.TheVariants as reason

-- A definition whose end isn't read yet: where and how it begins; whether in the region, where both
-- its ends count; whether nothing but empty statements stands in it so far; and its body so far.
pub record Open : Type 0 where
  pub line : ℕ
  pub head : List ℕ
  pub counts : Bool
  pub bare : Bool
  pub body : List What

-- All that is known: the macros, the definition that is open, and the rest.
pub record Reading : Type 0 where
  pub macros : Names Macro
  pub opened : Option Open
  pub known : Known

-- the same, but for what is known beside macros
abbrev pub with_known : Reading → Known → Reading
with_known reading known = record reading { known = known }

-- what is known beside macros, if it isn't refused
abbrev pub knowing : Reading → Result Known Refusal → Result Reading Refusal
knowing reading answer = answer >>= λ known. Ok (with_known reading known)

-- a macro of this name more
abbrev pub named : ℕ → List ℕ → Macro → Names Macro → Result (Names Macro) Refusal
named line name macro macros =
    if is_some (macros name) then refused line reason.MacroTwice
    else Ok (update bytes_eq macros name (Some macro))

-- The macros with one more, given by the words of its `.macro`; where it has no name, nothing is
-- defined.
abbrev pub define : ℕ → List Lexeme → List What → Names Macro → Result (Names Macro) Refusal
define line (dot ∷ word ∷ name ∷ more) body macros =
    if is_word name.kind then
    named line name.text (record { parameters = parameters more; body = body }) macros
    else Ok macros
define line words body macros = Ok macros

-- No note behind the `.endm` of a definition in the region has an instruction.
abbrev pub row_if : Bool → ℕ → Known → Known
row_if counts line known = if counts then give line Row known else known

-- what is known beside macros once a definition ends that begins at a line with this head
abbrev pub closing : Bool → ℕ → List ℕ → ℕ → List ℕ → Known → Result Known Refusal
closing counts first head line text known =
    count_if counts first head known
    >>= count_if counts line text
    >>= λ counted. Ok (row_if counts line counted)

-- the `.endm` of a definition
abbrev pub close : Open → ℕ → List ℕ → Reading → Result Reading Refusal
close opened line text reading =
    define opened.line (words opened.head) opened.body reading.macros
    >>= λ macros.
    closing opened.counts opened.line opened.head line text reading.known
    >>= λ known.
    Ok (record { macros = macros; opened = None; known = known })

-- the same, with this definition open
abbrev pub with_open : Open → Reading → Reading
with_open opened reading = record reading { opened = Some opened }

-- something more in the body of a definition; `quiet` says that it is an empty statement
abbrev pub with_more : Bool → What → Open → Open
with_more quiet what opened = record opened {
  bare = opened.bare && quiet;
  body = opened.body ++ what ∷ [];
}

-- a definition begins
abbrev pub opening : Bool → ℕ → List ℕ → Open
opening counts line text =
    record { line = line; head = text; counts = counts; bare = true; body = [] }

-- a note where it stands outside a definition
abbrev pub note_if : Bool → ℕ → List ℕ → Known → Known
note_if counts line note known = if counts then give line (Note note) known else known

-- A note in an open definition; one on the line of `.macro` alone stands outside.
abbrev pub note_in_open : Open → ℕ → List ℕ → Reading → Reading
note_in_open opened line note reading =
    if opened.bare then
    with_open opened (with_known reading (note_if opened.counts line note reading.known))
    else with_open (with_more false (Note note) opened) reading

-- a statement in an open definition
abbrev pub statement_in_open : Open → ℕ → List ℕ → Reading → Result Reading Refusal
statement_in_open opened line text reading =
    if is_directive (codes "endm") (words text) then close opened line text reading
    else Ok (with_open (with_more (is_empty text) (Statement (kept 0 text)) opened) reading)

-- what stands in an open definition
abbrev pub in_open : Open → ℕ → What → Reading → Result Reading Refusal
in_open opened line (Statement text) reading = statement_in_open opened line text reading
in_open opened line (Note note) reading = Ok (note_in_open opened line note reading)
in_open opened line Row reading = Ok (with_open (with_more false Row opened) reading)
in_open opened line Invoked reading = Ok (with_open opened reading)

-- a statement before the region: macros and aliases alone count
abbrev pub before_statement : ℕ → List ℕ → List Lexeme → Reading → Result Reading Refusal
before_statement line text words reading =
    if is_directive (codes "macro") words then
    Ok (with_open (opening false line text) reading)
    else (if is_some (invoked reading.macros words) then Ok reading
    else (if is_alias words then knowing reading (with_alias line text words reading.known)
    else (if is_directive (codes "unreq") words then
    knowing reading (without_alias false line text words reading.known)
    else Ok reading)))

-- a statement of the region
abbrev pub region_statement : ℕ → List ℕ → List Lexeme → Reading → Result Reading Refusal
region_statement line text words reading =
    if is_directive (codes "macro") words then
    Ok (with_open (opening true line text) (with_known reading (give line Row reading.known)))
    else knowing reading
    (statement reading.macros (run reading.macros EXPANSION_DEPTH) line false text reading.known)

-- what stands before the region
abbrev pub before_one : ℕ → What → Reading → Result Reading Refusal
before_one line (Statement text) reading = before_statement line text (words text) reading
before_one line Row reading = Ok reading
before_one line Invoked reading = Ok reading
before_one line (Note note) reading = Ok reading

-- what stands in the region
abbrev pub region_one : ℕ → What → Reading → Result Reading Refusal
region_one line (Statement text) reading = region_statement line text (words text) reading
region_one line Row reading = Ok (with_known reading (give line Row reading.known))
region_one line Invoked reading = Ok reading
region_one line (Note note) reading =
    Ok (with_known reading (give line (Note note) reading.known))

-- what stands in the region, or before it
abbrev pub read_one : Bool → ℕ → What → Reading → Result Reading Refusal
read_one true line what reading = region_one line what reading
read_one false line what reading = before_one line what reading

-- what stands in a text, or in a definition that is open there
abbrev pub or_in_open : Bool → Option Open → Piece → Reading → Result Reading Refusal
or_in_open region None piece reading = read_one region piece.line piece.what reading
or_in_open region (Some opened) piece reading = in_open opened piece.line piece.what reading

-- all pieces of the region, or of what stands before it
unfoldable pub read_all : Bool → List Piece → Reading → Result Reading Refusal
read_all region [] reading = Ok reading
read_all region (piece ∷ pieces) reading =
    or_in_open region reading.opened piece reading >>= read_all region pieces

-- each definition has an end
abbrev pub all_closed : Option Open → Known → Result (List Piece) Refusal
all_closed None known = Ok known.given
all_closed (Some opened) known = refused opened.line reason.NoEndm

-- nothing yet
abbrev pub nothing_known : Reading
nothing_known = record {
  macros = λ name. None;
  opened = None;
  known = record { aliases = λ name. None; spent = 0; given = [] };
}

-- Is a block comment open behind some numbered lines?
unfoldable pub open_after : Comments → Bool → List (ℕ × List ℕ) → Bool
open_after comments inside [] = inside
open_after comments inside (line ∷ lines) =
    open_after comments (open_behind inside (tokens comments inside line.1)) lines

-- what stands before the region of a text
abbrev pub before_rows : Comments → Parts → List Piece
before_rows comments parts = rows comments false (numbered_lines 1 parts.before)

-- what stands in it
abbrev pub region_rows : Comments → Parts → List Piece
region_rows comments parts =
    rows comments (open_after comments false (numbered_lines 1 parts.before))
    (numbered_lines parts.first parts.body)

-- The pieces of a region: its statements once macros are expanded and aliases replaced, and its
-- notes.
unfoldable pub expansion : Comments → Parts → Result (List Piece) Refusal
expansion comments parts = do
  before ← read_all false (before_rows comments parts) nothing_known
  reading ← read_all true (region_rows comments parts) before
  all_closed reading.opened reading.known
