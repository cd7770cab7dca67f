-- Symbolic registers as tokens spell them: a letter of registers, and directly behind it a word in
-- angle brackets, its name. Source: this project's own spelling of registers that have no number yet.
use Rattle.std.specs.Prelude.{ℕ, ◌==◌, Bool, false, List, [], ◌∷◌, ◌++◌, Option, None, Some, if◌then◌else◌}
use Rattle.std.specs.Char.{to_ascii_lowercase}
use Rattle.std.specs.List.{list_all}
use Rattle.sl_model.specs.declared.register.Bank.{Bank}
use Rattle.sl_model.specs.declared.register.Bank.TheVariants.{General, Vector}
use Rattle.sl_model.specs.OptionSteps.{◌>>=◌}
use Rattle.sl_model.specs.Token.{Lexeme, begins_word, is_word_byte}
use Rattle.sl_model.specs.TokenTests.{is_word, marks, touches}
use Rattle.sl_isa.specs.Symbols.{Pair}
use Rattle.form_table.specs.declared.rows.Letter.{Letter}
use Rattle.form_table.specs.declared.rows.Letter.TheVariants as letter

-- the letter itself, in lower case
abbrev pub letter_code : Letter → ℕ
letter_code letter.X = 120
letter_code letter.W = 119
letter_code letter.V = 118
letter_code letter.Q = 113
letter_code letter.D = 100
letter_code letter.S = 115
letter_code letter.R = 114

-- the bank of the registers that are spelled with a letter
abbrev pub letter_bank : Letter → Bank
letter_bank letter.X = General
letter_bank letter.W = General
letter_bank letter.V = Vector
letter_bank letter.Q = Vector
letter_bank letter.D = Vector
letter_bank letter.S = Vector
letter_bank letter.R = General

-- the letter with a code
unfoldable pub letter_with : ℕ → Option Letter
letter_with code =
    if code == 120 then Some letter.X
    else (if code == 119 then Some letter.W
    else (if code == 118 then Some letter.V
    else (if code == 113 then Some letter.Q
    else (if code == 100 then Some letter.D
    else (if code == 115 then Some letter.S
    else (if code == 114 then Some letter.R else None))))))

-- the letter that a text is, in either case
unfoldable pub letter_of : List ℕ → Option Letter
letter_of [] = None
letter_of (c ∷ []) = letter_with (to_ascii_lowercase c)
letter_of (c ∷ d ∷ text) = None

-- Is a text a word, as lines have them?
abbrev pub is_word_text : List ℕ → Bool
is_word_text [] = false
is_word_text (c ∷ text) = if begins_word c then list_all is_word_byte text else false

-- a name, if a `>` stands directly behind it
unfoldable pub closed_name : Lexeme → List Lexeme → Option (List ℕ)
closed_name name [] = None
closed_name name (closing ∷ tokens) =
    if marks 62 closing then (if touches name closing then Some name.text else None) else None

-- the name directly behind a `<`, which is a word
unfoldable pub opened_name : Lexeme → List Lexeme → Option (List ℕ)
opened_name opening [] = None
opened_name opening (name ∷ tokens) =
    if is_word_text name.text
    then (if touches opening name then closed_name name tokens else None)
    else None

-- the name in angle brackets that stands directly behind a token
unfoldable pub bracketed : Lexeme → List Lexeme → Option (List ℕ)
bracketed before [] = None
bracketed before (opening ∷ tokens) =
    if marks 60 opening then (if touches before opening then opened_name opening tokens else None) else None

-- a symbolic register: its letter and its name
pub record Symbol : Type 0 where
  pub letter : Letter
  pub name : List ℕ

-- the symbolic register that tokens begin with
unfoldable pub symbol_at : List Lexeme → Option Symbol
symbol_at [] = None
symbol_at (token ∷ tokens) = if is_word token.kind then (do
  l ← letter_of token.text
  name ← bracketed token tokens
  Some (record { letter = l; name = name })) else None

-- its pair
abbrev pub symbol_pair : Symbol → Pair
symbol_pair symbol = (letter_bank symbol.letter, symbol.name)

-- the pair of a symbolic register, if there is one
abbrev pub pair_if : Option Symbol → List Pair
pair_if None = []
pair_if (Some symbol) = symbol_pair symbol ∷ []

-- the pair of the symbolic register that tokens begin with
abbrev pub first_pairs : List Lexeme → List Pair
first_pairs tokens = pair_if (symbol_at tokens)

-- the pairs of the symbolic registers among tokens, in their order
unfoldable pub pairs_from : List Lexeme → List Pair
pairs_from [] = []
pairs_from (token ∷ tokens) = first_pairs (token ∷ tokens) ++ pairs_from tokens

-- those among the words of an instruction, which stand behind its mnemonic
unfoldable pub pairs_in : List Lexeme → List Pair
pairs_in [] = []
pairs_in (first ∷ tokens) = pairs_from tokens
