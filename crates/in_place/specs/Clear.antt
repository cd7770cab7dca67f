-- What the text round a printed region has to be for the region to be read there as it is read by
-- itself. Source: this project's own; an assembler, too, knows the macros and aliases of the text
-- before a region in it.
use Rattle.std.specs.Prelude.{ℕ, Bool, true, false, not, ◌+◌, ◌==◌, ◌≤◌, ◌≡◌, is_some, List, [], ◌∷◌, ◌++◌, codes, Ok, None, if◌then◌else◌}
use Rattle.std.specs.List.{list_all}
use Rattle.sl_model.specs.declared.limits.TheConstants.{EXPANSION_SUM}
use Rattle.sl_model.specs.declared.text.Comments.{Comments}
use Rattle.sl_model.specs.Text.{Parts, is_blank, numbered_lines}
use Rattle.sl_model.specs.Token.{Lexeme}
use Rattle.sl_model.specs.TokenTests.{is_word}
use Rattle.macro_expand.specs.Words.{gap, byte_count, is_alias, is_directive, span, words}
use Rattle.macro_expand.specs.Source.{parted}
use Rattle.macro_expand.specs.Region.{Reading, before_rows, nothing_known, open_after, read_all}

-- ---- what is known at the start marker

-- Is a word the name of no macro and of no alias in force?
abbrev pub is_unnamed : Reading → Lexeme → Bool
is_unnamed reading word =
    if is_word word.kind then
    (if is_some (reading.macros word.text) then false
    else not (is_some (reading.known.aliases word.text)))
    else true

-- Is each word of a statement such a one?
abbrev pub is_unnamed_text : Reading → List ℕ → Bool
is_unnamed_text reading text = list_all (is_unnamed reading) (words text)

-- what statements add up to: each counts with its bytes and one more
unfoldable pub sum_of : List (List ℕ) → ℕ
sum_of [] = 0
sum_of (text ∷ texts) = byte_count text + 1 + sum_of texts

-- The text before a region is clear for statements: neither a block comment nor a definition is open
-- at the start marker, no word of theirs is the name of a macro or of an alias in force there, and
-- with them, and the empty statement of the region's first line, the expansion's sum is within its
-- limit.
pub record IsClear (comments : Comments) (parts : Parts) (texts : List (List ℕ)) : Type 0 where
  pub closed : open_after comments false (numbered_lines 1 parts.before) ≡ false
  pub reading : Reading
  pub known : read_all false (before_rows comments parts) nothing_known ≡ Ok reading
  pub defined : reading.opened ≡ None
  pub unnamed : list_all (is_unnamed_text reading) texts ≡ true
  pub room : reading.known.spent + sum_of ([] ∷ texts) ≤ EXPANSION_SUM

-- ---- printed texts

-- Does a text begin with a byte that is no blank?
abbrev pub begins_plain : List ℕ → Bool
begins_plain [] = false
begins_plain (c ∷ text) = not (is_blank c)

-- Are words those of no directive: of no `.macro`, `.endm` or `.unreq`, and of no alias?
abbrev pub is_undirected : List Lexeme → Bool
is_undirected words =
    if is_directive (codes "macro") words then false
    else (if is_directive (codes "endm") words then false
    else (if is_directive (codes "unreq") words then false else not (is_alias words)))

-- Is a byte no colon?
abbrev pub is_no_colon : ℕ → Bool
is_no_colon c = not (c == 58)

-- A printed text is a statement of its own where a blank and a comment stand behind it. Its words
-- reach from its first byte to its last, no colon stands in it, and it is no directive.
pub record IsStatement (text : List ℕ) : Type 0 where
  pub begins : begins_plain text ≡ true
  pub whole : span text (words text) ≡ text
  pub alone : parted (text ++ 32 ∷ gap ∷ []) ≡ text ∷ []
  pub colons : list_all is_no_colon text ≡ true
  pub undirected : is_undirected (words text) ≡ true
