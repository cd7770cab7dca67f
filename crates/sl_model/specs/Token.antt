-- The tokens of a line. A text is the list of its bytes, in UTF-8.
-- Source: a profile of GNU as; Unicode for what a character is.
use Rattle.std.specs.Prelude.{ℕ, zero, suc, ◌+◌, ◌-◌, ◌==◌, Bool, true, false, not, ◌&&◌, ◌||◌, nat_eq, nat_lt, List, [], ◌∷◌, length, take, drop, codes, slice_index, if◌then◌else◌}
use Rattle.std.specs.Char.{is_ascii_alphabetic, is_ascii_alphanumeric, is_ascii_digit, len_utf8}
use Rattle.std.specs.List.{starts_with, list_all, prefix_len}
use Rattle.std.specs.Str.{chars}
use Rattle.sl_model.specs.declared.text.Comments.{Comments}
use Rattle.sl_model.specs.declared.text.Comments.TheVariants.{Slash, SlashAt, Taken}
use Rattle.sl_model.specs.declared.text.TokenKind.{TokenKind}
use Rattle.sl_model.specs.declared.text.TokenKind.TheVariants.{Word, Number, Mark, Comment}
use Rattle.sl_model.specs.Text.{is_blank, holds}

-- a token: its kind, its text and its place, which is the number of bytes before it on its line
pub record Lexeme : Type 0 where
  pub kind : TokenKind
  pub text : List ℕ
  pub start : ℕ

-- a letter or `_`
abbrev pub begins_word : ℕ → Bool
begins_word c = is_ascii_alphabetic c || c == 95

-- a letter, a digit or `_`
abbrev pub is_word_byte : ℕ → Bool
is_word_byte c = is_ascii_alphanumeric c || c == 95

-- a unit's name: a letter, then letters, digits or `_`, and at most 16 bytes in all
abbrev pub is_unit_name : List ℕ → Bool
is_unit_name [] = false
is_unit_name (c ∷ text) =
    if is_ascii_alphabetic c then
    (if list_all is_word_byte text then nat_lt (length text) 16 else false)
    else false

-- the number of bytes up to and with the first `*/`, or of all where there is none
unfoldable pub comment_length : List ℕ → ℕ
comment_length [] = 0
comment_length (c ∷ text) =
    if starts_with nat_eq (c ∷ text) (codes "*/") then 2 else suc (comment_length text)

-- Does a text begin with a comment to the line's end?
abbrev pub begins_line_comment : Comments → List ℕ → Bool
begins_line_comment Slash text = starts_with nat_eq text (codes "//")
begins_line_comment SlashAt text =
    starts_with nat_eq text (codes "//") || starts_with nat_eq text (codes "@")
begins_line_comment Taken text = false

-- Does a text begin with a block comment?
abbrev pub begins_block_comment : Comments → List ℕ → Bool
begins_block_comment Slash text = starts_with nat_eq text (codes "/*")
begins_block_comment SlashAt text = starts_with nat_eq text (codes "/*")
begins_block_comment Taken text = false

-- the first character of a text that is not empty
abbrev pub first_char : List ℕ → ℕ
first_char text = slice_index (chars text) 0

-- The kind and the length of the token that a text begins with; the text is not
-- empty and begins with no blank.
unfoldable pub first_token : Comments → List ℕ → TokenKind × ℕ
first_token comments text =
    if begins_block_comment comments text then (Comment, comment_length (drop 2 text) + 2)
    else (if begins_line_comment comments text then (Comment, length text)
    else (if begins_word (first_char text) then (Word, prefix_len is_word_byte text)
    else (if is_ascii_digit (first_char text) then (Number, prefix_len is_ascii_alphanumeric text)
    else (Mark, len_utf8 (first_char text)))))

-- the token of this kind and length with which a text begins that stands at a place of its line
abbrev pub lexeme : TokenKind × ℕ → ℕ → List ℕ → Lexeme
lexeme found place text = record { kind = found.0; text = take found.1 text; start = place }

-- The tokens of a text that stands at a place of its line, where the first `taken`
-- bytes belong to the token before.
unfoldable pub tokens_from : Comments → ℕ → ℕ → List ℕ → List Lexeme
tokens_from comments place taken [] = []
tokens_from comments place (suc taken) (c ∷ text) = tokens_from comments (place + 1) taken text
tokens_from comments place zero (c ∷ text) =
    if is_blank c then tokens_from comments (place + 1) 0 text
    else lexeme (first_token comments (c ∷ text)) place (c ∷ text)
    ∷ tokens_from comments (place + 1) ((first_token comments (c ∷ text)).1 - 1) text

-- The tokens of a text that stands at a place of its line; `inside` says that a
-- block comment is open before it.
unfoldable pub tokens_at : Comments → Bool → ℕ → List ℕ → List Lexeme
tokens_at comments false place text = tokens_from comments place 0 text
tokens_at comments true place [] = []
tokens_at comments true place (c ∷ text) =
    lexeme (Comment, comment_length (c ∷ text)) place (c ∷ text)
    ∷ tokens_from comments place (comment_length (c ∷ text)) (c ∷ text)

-- the tokens of a line; `inside` says that a block comment was begun above
abbrev pub tokens : Comments → Bool → List ℕ → List Lexeme
tokens comments inside line = tokens_at comments inside 0 line

-- Is a block comment open behind a token of this text, if `inside`
-- says that one was open before it?
abbrev pub leaves_open : Bool → List ℕ → Bool
leaves_open true text = not (holds (codes "*/") text)
leaves_open false text =
    starts_with nat_eq text (codes "/*") && not (holds (codes "*/") (drop 2 text))

-- Is one open behind some tokens?
unfoldable pub open_behind : Bool → List Lexeme → Bool
open_behind inside [] = inside
open_behind inside (token ∷ tokens) = open_behind (leaves_open inside token.text) tokens
