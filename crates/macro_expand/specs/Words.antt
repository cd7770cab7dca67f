-- The words of a statement whose comments were taken off. A text is the list of its bytes; a line
-- feed, which no line holds, stands in it for the comments that were taken off at a place. Such a
-- gap is a blank that has no byte.
-- Source: labels, macro arguments and `.req` of GNU as.
use Rattle.std.specs.Prelude.{ℕ, ◌+◌, ◌==◌, Bool, true, false, not, List, [], ◌∷◌, codes, length, map, slice_range, bytes_eq, count_by, Option, None, Some, if◌then◌else◌}
use Rattle.std.specs.List.{list_all}
use Rattle.std.specs.Str.{str_eq_ignore_ascii_case}
use Rattle.sl_model.specs.declared.text.Comments.TheVariants.{Taken}
use Rattle.sl_model.specs.Token.{Lexeme, tokens}
use Rattle.sl_model.specs.TokenTests.{is_word, marks, touches}

-- what stands for comments that were taken off
abbrev pub gap : ℕ
gap = 10

-- some tokens without the gaps
unfoldable pub without_gaps : List Lexeme → List Lexeme
without_gaps [] = []
without_gaps (token ∷ tokens) =
    if marks gap token then without_gaps tokens else token ∷ without_gaps tokens

-- the words, numbers and marks of a statement
abbrev pub words : List ℕ → List Lexeme
words text = without_gaps (tokens Taken false text)

-- the number of a statement's bytes
abbrev pub byte_count : List ℕ → ℕ
byte_count text = count_by (λ c. not (c == gap)) text

-- the place behind a token
abbrev pub end_of : Lexeme → ℕ
end_of token = token.start + length token.text

-- the place behind the last of some tokens
unfoldable pub last_end : Lexeme → List Lexeme → ℕ
last_end token [] = end_of token
last_end token (next ∷ tokens) = last_end next tokens

-- What stands in a text from the first of some of its words to the last: so no blank stands at its
-- ends.
abbrev pub span : List ℕ → List Lexeme → List ℕ
span text [] = []
span text (first ∷ more) = slice_range text first.start (last_end first more)

-- Are two tokens a label: a word, and a colon directly behind it?
abbrev pub is_label : Lexeme → Lexeme → Bool
is_label first colon =
    if is_word first.kind then (if marks 58 colon then touches first colon else false) else false

-- The statements in which a statement is read, given by its words: each of its labels is one, and
-- what stands behind them. Where labels stand alone, nothing is behind them.
unfoldable pub divided : Bool → List ℕ → List Lexeme → List (List ℕ)
divided labelled text [] = if labelled then [] else [] ∷ []
divided labelled text (first ∷ []) = span text (first ∷ []) ∷ []
divided labelled text (first ∷ colon ∷ more) =
    if is_label first colon then span text (first ∷ colon ∷ []) ∷ divided true text more
    else span text (first ∷ colon ∷ more) ∷ []

-- Are two tokens `.` and a word directly behind it?
abbrev pub is_dotted : Lexeme → Lexeme → Bool
is_dotted dot word =
    if marks 46 dot then (if is_word word.kind then touches dot word else false) else false

-- Do words begin with `.` and a name, in letters of either case?
abbrev pub is_directive : List ℕ → List Lexeme → Bool
is_directive name (dot ∷ word ∷ more) =
    if is_dotted dot word then str_eq_ignore_ascii_case word.text name else false
is_directive name words = false

-- Is a token one of `, [ ] !`, beside which any number of blanks may stand?
abbrev pub is_free_mark : Lexeme → Bool
is_free_mark token =
    if marks 44 token then true
    else (if marks 91 token then true
    else (if marks 93 token then true
    else marks 33 token))

-- Are these the words of `.req TEXT`?
abbrev pub is_alias_rest : List Lexeme → Bool
is_alias_rest (dot ∷ req ∷ next ∷ more) =
    if is_directive (codes "req") (dot ∷ req ∷ next ∷ more) then
    (if touches req next then is_free_mark next else true)
    else false
is_alias_rest words = false

-- Are these the words of `NAME .req TEXT`?
abbrev pub is_alias : List Lexeme → Bool
is_alias (name ∷ dot ∷ more) =
    if is_word name.kind then (if touches name dot then false else is_alias_rest (dot ∷ more))
    else false
is_alias words = false

-- puts a token before those of the first of some lists
abbrev pub before_first : Lexeme → List (List Lexeme) → List (List Lexeme)
before_first token [] = (token ∷ []) ∷ []
before_first token (list ∷ lists) = (token ∷ list) ∷ lists

-- the tokens between the marks of a code
unfoldable pub between : ℕ → List Lexeme → List (List Lexeme)
between code [] = [] ∷ []
between code (token ∷ tokens) =
    if marks code token then [] ∷ between code tokens
    else before_first token (between code tokens)

-- the words between commas
abbrev pub between_commas : List Lexeme → List (List Lexeme)
between_commas tokens = between 44 tokens

-- the arguments that words give: the texts between commas; no words are no argument
abbrev pub arguments : List ℕ → List Lexeme → List (List ℕ)
arguments text [] = []
arguments text (first ∷ more) = map (span text) (between_commas (first ∷ more))

-- Is a list empty?
abbrev pub is_empty : {X : Type 0} → List X → Bool
is_empty [] = true
is_empty (x ∷ xs) = false

-- the texts of the words among some tokens
unfoldable pub names_of : List Lexeme → List (List ℕ)
names_of [] = []
names_of (token ∷ tokens) =
    if is_word token.kind then token.text ∷ names_of tokens else names_of tokens

-- Is a text one of some?
unfoldable pub is_among : List ℕ → List (List ℕ) → Bool
is_among name [] = false
is_among name (other ∷ names) = if bytes_eq name other then true else is_among name names

-- Is each text another one?
unfoldable pub are_different : List (List ℕ) → Bool
are_different [] = true
are_different (name ∷ names) = if is_among name names then false else are_different names

-- Is a token a word or a comma?
abbrev pub is_word_or_comma : Lexeme → Bool
is_word_or_comma token = if is_word token.kind then true else marks 44 token

-- Does something stand before, between and behind the commas of some words?
abbrev pub are_filled : List Lexeme → Bool
are_filled words = list_all (λ list. not (is_empty list)) (between_commas words)

-- Are these names, separated by commas or blanks?
abbrev pub are_names : List Lexeme → Bool
are_names [] = true
are_names (first ∷ more) =
    if list_all is_word_or_comma (first ∷ more) then are_filled (first ∷ more) else false

-- some names, if each is another one
abbrev pub if_different : List (List ℕ) → Option (List (List ℕ))
if_different names = if are_different names then Some names else None

-- The parameters that words name, each another one; None where they are no parameter list.
abbrev pub parameters : List Lexeme → Option (List (List ℕ))
parameters words = if are_names words then if_different (names_of words) else None
