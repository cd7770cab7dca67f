-- What a token is, and where it stands beside another.
use Rattle.std.specs.Prelude.{ℕ, Bool, true, false, ◌+◌, ◌==◌, nat_le, length, slice_index, if◌then◌else◌}
use Rattle.sl_model.specs.declared.text.TokenKind.{TokenKind}
use Rattle.sl_model.specs.declared.text.TokenKind.TheVariants.{Word, Number, Mark, Comment}
use Rattle.sl_model.specs.Token.{Lexeme}

-- Is this the kind of words?
abbrev pub is_word : TokenKind → Bool
is_word Word = true
is_word Number = false
is_word Mark = false
is_word Comment = false

-- of numbers
abbrev pub is_number : TokenKind → Bool
is_number Word = false
is_number Number = true
is_number Mark = false
is_number Comment = false

-- of marks
abbrev pub is_mark : TokenKind → Bool
is_mark Word = false
is_mark Number = false
is_mark Mark = true
is_mark Comment = false

-- of comments
abbrev pub is_comment : TokenKind → Bool
is_comment Word = false
is_comment Number = false
is_comment Mark = false
is_comment Comment = true

-- the code of a mark
abbrev pub code_of : Lexeme → ℕ
code_of token = slice_index token.text 0

-- Is a token the mark with a code?
abbrev pub marks : ℕ → Lexeme → Bool
marks code token = if is_mark token.kind then code_of token == code else false

-- Does a token stand directly behind another, with no blank between?
abbrev pub touches : Lexeme → Lexeme → Bool
touches before token = nat_le token.start (before.start + length before.text)
