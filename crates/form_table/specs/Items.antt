-- The items of an instruction's spelling: what its tokens are, with the blanks that count.
-- Source: operands of GNU as, where `#` may be left out before a number; which blanks
-- count is this project's own rule.
use Rattle.std.specs.Prelude.{ℕ, ℤ, pos, ◌-ℤ◌, ◌+◌, ◌-◌, ◌==◌, ◌||◌, Bool, true, false, not, zero, suc, List, [], ◌∷◌, ◌++◌, Option, None, Some, if◌then◌else◌}
use Rattle.sl_model.specs.Token.{Lexeme}
use Rattle.sl_model.specs.TokenTests.{is_word, is_number, is_mark, code_of, marks, touches}
use Rattle.sl_model.specs.OptionSteps.{◌>>=◌}
use Rattle.sl_isa.specs.Symbols.{Pair, has_pair, number_of}
use Rattle.form_table.specs.Numerals.{number_value}
use Rattle.form_table.specs.Symbols.{letter_bank, Symbol, symbol_at}
use Rattle.form_table.specs.declared.rows.Letter.{Letter}

-- An item: a blank that counts, a mark by its code, a word, a symbolic register by its letter and its
-- number, or a number with its sign.
pub data Item : Type 0 where
  blank : Item
  mark : ℕ → Item
  word : List ℕ → Item
  symbol : Letter → ℕ → Item
  numeral : ℤ → Item

-- Is a token one of `,`, `[`, `]` and `!`, beside which blanks are free?
abbrev pub is_free : Lexeme → Bool
is_free token =
    if is_mark token.kind
    then (code_of token == 44 || code_of token == 91) || (code_of token == 93 || code_of token == 33)
    else false

-- Does a blank that counts stand between two tokens?
abbrev pub is_apart : Lexeme → Lexeme → Bool
is_apart before token =
    if touches before token then false else (if is_free before then false else not (is_free token))

-- a number with the tokens before it that belong to it: how many tokens
-- they are, its sign and its value
pub record Found : Type 0 where
  pub count : ℕ
  pub negative : Bool
  pub value : ℕ

-- the tokens behind one, if they stand directly behind it
abbrev pub attached : Lexeme → List Lexeme → Option (List Lexeme)
attached before [] = None
attached before (token ∷ tokens) = if touches before token then Some (token ∷ tokens) else None

-- a number that tokens begin with, without sign
unfoldable pub plain_number : List Lexeme → Option Found
plain_number [] = None
plain_number (token ∷ tokens) = if is_number token.kind then (do
  value ← number_value token.text
  Some (record { count = 1; negative = false; value = value })) else None

-- one with `-` before it, if negative
unfoldable pub signed_number : List Lexeme → Option Found
signed_number [] = None
signed_number (token ∷ tokens) = if marks 45 token then (do
  behind ← attached token tokens
  found ← plain_number behind
  Some (record { count = 2; negative = true; value = found.value })) else plain_number (token ∷ tokens)

-- one that may have `#` before it
unfoldable pub found_number : List Lexeme → Option Found
found_number [] = None
found_number (token ∷ tokens) = if marks 35 token then (do
  behind ← attached token tokens
  found ← signed_number behind
  Some (record { count = found.count + 1; negative = found.negative; value = found.value })) else signed_number (token ∷ tokens)

-- the number itself, with its sign
abbrev pub signed_value : Found → ℤ
signed_value found = if found.negative then pos 0 -ℤ pos found.value else pos found.value

-- a token that begins no number
abbrev pub token_item : Lexeme → Item
token_item token =
    if is_word token.kind then word token.text
    else (if is_number token.kind then word token.text else mark (code_of token))

-- the number that tokens begin with, as an item, or the item of their first
-- token; and how many tokens it is
abbrev pub item_or : Option Found → Lexeme → Item × ℕ
item_or None token = (token_item token, 1)
item_or (Some found) token = (numeral (signed_value found), found.count)

-- a symbolic register with the number of its pair, if that is among the pairs, else another item;
-- and how many tokens it is
abbrev pub symbol_or : List Pair → Option Symbol → Item × ℕ → Item × ℕ
symbol_or pairs None other = other
symbol_or pairs (Some s) other =
    if has_pair (letter_bank s.letter) s.name pairs
    then (symbol s.letter (number_of (letter_bank s.letter) s.name pairs), 4)
    else other

-- the item that tokens begin with, where symbolic registers have the numbers of these pairs, and
-- how many tokens it is
unfoldable pub first_item : List Pair → List Lexeme → Item × ℕ
first_item pairs [] = (blank, 1)
first_item pairs (token ∷ tokens) =
    symbol_or pairs (symbol_at (token ∷ tokens)) (item_or (found_number (token ∷ tokens)) token)

-- an item with the blank before it, if there is one that counts
abbrev pub behind_blank : Bool → Item → List Item
behind_blank true item = blank ∷ item ∷ []
behind_blank false item = item ∷ []

-- what the first of some tokens adds to the items, where so many tokens belong to the item before
abbrev pub items_at : List Pair → Lexeme → ℕ → List Lexeme → List Item
items_at pairs before taken [] = []
items_at pairs before (suc taken) (token ∷ tokens) = []
items_at pairs before zero (token ∷ tokens) =
    behind_blank (is_apart before token) (first_item pairs (token ∷ tokens)).0

-- how many tokens behind it belong to the same item
abbrev pub taken_behind : List Pair → ℕ → List Lexeme → ℕ
taken_behind pairs (suc taken) tokens = taken
taken_behind pairs zero tokens = (first_item pairs tokens).1 - 1

-- the items of the tokens behind one, of which so many belong to the item before
unfoldable pub items_from : List Pair → Lexeme → ℕ → List Lexeme → List Item
items_from pairs before taken [] = []
items_from pairs before taken (token ∷ tokens) =
    items_at pairs before taken (token ∷ tokens)
    ++ items_from pairs token (taken_behind pairs taken (token ∷ tokens)) tokens
