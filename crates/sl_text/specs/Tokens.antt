-- The tokens of a line, as an iterator has them left.
use Rattle.std.specs.Prelude.{◌≡◌, ℕ, ◌<◌, Bool, true, false, List, length, Option, MatchOption}
use Rattle.std.specs.Iterator.{YieldsFirstBy}
use Rattle.sl_model.specs.declared.text.Comments.{Comments}
use Rattle.sl_model.specs.declared.text.TokenKind.{TokenKind}
use Rattle.sl_model.specs.declared.text.TokenKind.TheVariants.{Comment}
use Rattle.std.specs.List.{prefix_len}
use Rattle.sl_model.specs.Text.{is_blank}
use Rattle.sl_model.specs.Token.{Lexeme, comment_length, first_token, tokens_at, leaves_open}
use Rattle.sl_text.specs.declared.token.Token.{Token}
use Rattle.sl_text.specs.declared.token.Tokens.{Tokens}

-- a token by its kind, text and place
abbrev pub token_value : Token → Lexeme
token_value token = record { kind = token.kind; text = token.text.now; start = token.start }

-- the tokens that are left
unfoldable pub tokens_left : Tokens → List Lexeme
tokens_left left = tokens_at left.comments left.inside left.start left.rest.now

-- Is a block comment open behind the last token given?
abbrev pub is_inside : Tokens → Bool
is_inside left = left.inside

-- the number of blanks before the next token; inside a block comment they belong to it
abbrev pub blanks_before : Bool → List ℕ → ℕ
blanks_before true text = 0
blanks_before false text = prefix_len is_blank text

-- the kind and the length of what a text begins with, inside a block comment and outside
abbrev pub shape : Comments → Bool → List ℕ → TokenKind × ℕ
shape comments true text = (Comment, comment_length text)
shape comments false text = first_token comments text

-- this is what the text begins with
pub record IsFirst (comments : Comments) (inside : Bool) (text : List ℕ)
    (found : TokenKind × ℕ) : Type 0 where
  pub shape_is : found ≡ shape comments inside text
  pub some : 0 < length text

-- a call of `next` gives the first token that was left, and keeps track of an open comment
pub record GivesToken (old : Tokens) (given : Option Token) (new : Tokens) : Type 0 where
  pub tokens : YieldsFirstBy token_value tokens_left old given new
  pub inside : MatchOption given (is_inside new ≡ is_inside old)
      (λ token. is_inside new ≡ leaves_open (is_inside old) token.text.now)
