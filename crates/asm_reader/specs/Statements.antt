-- A statement, and what is asked of one before it is read. Source: a profile of GNU as.
use Rattle.std.specs.Prelude.{ℕ, Bool, true, false, List, [], ◌∷◌, ◌++◌, codes, Option, if◌then◌else◌}
use Rattle.std.specs.List.{list_any}
use Rattle.std.specs.Str.{str_eq_ignore_ascii_case}
use Rattle.sl_model.specs.Token.{Lexeme}
use Rattle.sl_model.specs.TokenTests.{is_word, touches}
use Rattle.macro_expand.specs.Words.{is_label, is_dotted}

-- A statement: its line, its words, and what stands behind `// @slothy:` in its note, if it has one.
pub record Statement : Type 0 where
  pub line : ℕ
  pub words : List Lexeme
  pub note : Option (List ℕ)

-- Does a statement begin with a label?
abbrev pub has_label : List Lexeme → Bool
has_label (first ∷ colon ∷ words) = is_label first colon
has_label words = false

-- Are two tokens `.` and a word, with no blank between a token and these?
abbrev pub is_suffix : Lexeme → Lexeme → Lexeme → Bool
is_suffix before dot word = if touches before dot then is_dotted dot word else false

-- each `.word` that stands directly behind the first word, one behind the other
unfoldable pub suffixes : Lexeme → List Lexeme → List ℕ
suffixes before (dot ∷ word ∷ words) =
    if is_suffix before dot word then (codes "." ++ word.text) ++ suffixes word words else []
suffixes before words = []

-- The mnemonic: the first word with each `.word` directly behind it. It
-- is empty where no word begins.
abbrev pub mnemonic : List Lexeme → List ℕ
mnemonic [] = []
mnemonic (first ∷ words) = if is_word first.kind then first.text ++ suffixes first words else []

-- the mnemonics of branches, which aren't read yet
abbrev pub branch_mnemonics : List (List ℕ)
branch_mnemonics = codes "b" ∷ codes "b.ne" ∷ codes "bne" ∷ codes "cbnz" ∷ []

-- Is a mnemonic one of these, in letters of either case?
abbrev pub is_branch : List ℕ → Bool
is_branch name = list_any (str_eq_ignore_ascii_case name) branch_mnemonics

-- Are the words of a statement ones that aren't read yet: a label's or a branch's?
abbrev pub is_unbuilt : List Lexeme → Bool
is_unbuilt words = if has_label words then true else is_branch (mnemonic words)
