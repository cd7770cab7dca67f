-- Arguments put into the text of a macro's body, and aliases replaced in a statement.
-- Source: `.macro` and `.req` of GNU as.
use Rattle.std.specs.Prelude.{ℕ, zero, suc, ◌==◌, Bool, true, false, not, ◌&&◌, List, [], ◌∷◌, ◌++◌, codes, take, nat_eq, slice_range, bytes_eq, is_some, Option, None, Some, if◌then◌else◌}
use Rattle.std.specs.List.{starts_with, prefix_len}
use Rattle.sl_model.specs.Token.{Lexeme, is_word_byte}
use Rattle.sl_model.specs.TokenTests.{is_word}
use Rattle.macro_expand.specs.Words.{end_of}

-- what names stand for
abbrev pub Names : Type 0 → Type 0
Names X = List ℕ → Option X

-- a value, or another where there is none
abbrev pub or_else : {X : Type 0} → X → Option X → X
or_else x None = x
or_else x (Some y) = y

-- ---- arguments

-- Do two `\()`, one behind the other, begin a text?
abbrev pub begins_twice : List ℕ → Bool
begins_twice text = starts_with nat_eq text (codes "\\()\\()")

-- What is kept of a body's text: of `\()` that stand one behind the other, the last. The first
-- bytes, so many, belong to one that isn't kept.
unfoldable pub kept : ℕ → List ℕ → List ℕ
kept taken [] = []
kept (suc taken) (c ∷ text) = kept taken text
kept zero (c ∷ text) = if begins_twice (c ∷ text) then kept 2 text else c ∷ kept 0 text

-- no `\`
abbrev pub is_plain : ℕ → Bool
is_plain c = not (c == 92)

-- the longest run of letters, digits and `_` at the start of a text
abbrev pub name_at : List ℕ → List ℕ
name_at text = take (prefix_len is_word_byte text) text

-- the number of bytes that a byte takes of the text behind it: a `\` takes `()` or a name
abbrev pub taken_behind : ℕ → List ℕ → ℕ
taken_behind c text =
    if c == 92 then
    (if starts_with nat_eq text (codes "()") then 2 else prefix_len is_word_byte text)
    else 0

-- What is put for a byte and the text that it takes: for a `\` and a name its argument, for `\()`
-- nothing.
abbrev pub put_for : Names (List ℕ) → ℕ → List ℕ → List ℕ
put_for values c text =
    if c == 92 then
    (if starts_with nat_eq text (codes "()") then [] else or_else [] (values (name_at text)))
    else c ∷ []

-- A body's text with arguments put in for parameters; its first bytes, so many, belong to a `\`
-- before them. A `\` that names no parameter is left out.
unfoldable pub filled : Names (List ℕ) → ℕ → List ℕ → List ℕ
filled values taken [] = []
filled values (suc taken) (c ∷ text) = filled values taken text
filled values zero (c ∷ text) =
    put_for values c text ++ filled values (taken_behind c text) text

-- Is a byte a `\` that names no parameter?
abbrev pub is_unknown : Names (List ℕ) → ℕ → List ℕ → Bool
is_unknown values c text =
    if c == 92 then
    (if starts_with nat_eq text (codes "()") then false else not (is_some (values (name_at text))))
    else false

-- Does such a `\` stand in a body's text?
unfoldable pub has_unknown : Names (List ℕ) → ℕ → List ℕ → Bool
has_unknown values taken [] = false
has_unknown values (suc taken) (c ∷ text) = has_unknown values taken text
has_unknown values zero (c ∷ text) =
    if is_unknown values c text then true else has_unknown values (taken_behind c text) text

-- what the name of a parameter stands for
unfoldable pub value_of : List (List ℕ) → List (List ℕ) → Names (List ℕ)
value_of (name ∷ names) (value ∷ values) other =
    if bytes_eq other name then Some value else value_of names values other
value_of [] values other = None
value_of (name ∷ names) [] other = None

-- ---- aliases

-- Is a word kept that stands directly behind this text: behind `.` or `<`?
abbrev pub is_keeping : List ℕ → Bool
is_keeping text = if bytes_eq text (codes ".") then true else bytes_eq text (codes "<")

-- the text directly before a token: that of the token that ends at a place, or nothing
abbrev pub directly_before : ℕ → List ℕ → Lexeme → List ℕ
directly_before place text token = if token.start == place then text else []

-- Is a token kept: no word, the first word of a statement, or directly behind such a text?
abbrev pub is_kept : Bool → List ℕ → Lexeme → Bool
is_kept first before token =
    if is_word token.kind then (if first then true else is_keeping before) else true

-- what stands in a text at the place of a token
abbrev pub at_place : List ℕ → Lexeme → List ℕ
at_place text token = slice_range text token.start (end_of token)

-- what is put for a token of a text: where it is a word and an alias, what it stands for
abbrev pub put_for_word : Names (List ℕ) → List ℕ → Bool → List ℕ → Lexeme → List ℕ
put_for_word aliases text first before token =
    if is_kept first before token then at_place text token
    else or_else (at_place text token) (aliases token.text)

-- A statement from a place on, with its aliases replaced, given by its words from there on. `first`
-- says that no word stands before them, and `last` is the text of the token that ends at the place.
unfoldable pub replaced : Names (List ℕ) → List ℕ → Bool → List ℕ → ℕ → List Lexeme → List ℕ
replaced aliases text first last place [] = []
replaced aliases text first last place (token ∷ tokens) =
    slice_range text place token.start
    ++ (put_for_word aliases text first (directly_before place last token) token
    ++ replaced aliases text (first && not (is_word token.kind)) token.text (end_of token) tokens)
