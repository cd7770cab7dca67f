-- The parts of a statement, as the definitions see them.
use Rattle.std.specs.Prelude.{◌≡◌, ℕ, List, [], ◌∷◌, ◌++◌, map, drop, option_map}
use Rattle.std.specs.declared.string.String.{String}
use Rattle.std.specs.HashMap.{get_by_text}
use Rattle.indexmap.specs.IndexMap.{IndexMap}
use Rattle.indexmap.specs.IndexSet.{IndexSet}
use Rattle.macro_expand.specs.Filled.{Names, value_of}
use Rattle.sl_model.specs.Token.{Lexeme}
use Rattle.sl_text.specs.declared.token.Token.{Token}
use Rattle.sl_text.specs.Tokens.{token_value}
use Rattle.std.specs.declared.vec.Vec.{Vec}
use Rattle.macro_expand.specs.Words.{gap}
use Rattle.macro_expand.specs.declared.parts.Cursor.{Cursor}
use Rattle.macro_expand.specs.declared.parts.Part.{Part}
use Rattle.macro_expand.specs.declared.parts.Part.TheVariants as part

-- what a part spells: a slice of the input, or the gap where a comment was taken off
abbrev pub spelled_part : Part → List ℕ
spelled_part (part.Text text) = text.now
spelled_part part.Gap = gap ∷ []

-- the text of parts
unfoldable pub spelled : List Part → List ℕ
spelled [] = []
spelled (p ∷ parts) = spelled_part p ++ spelled parts

-- A cursor stands at the beginning of a part.
abbrev pub StandsIn : List Part → Cursor → Type 0
StandsIn parts cursor = spelled (drop cursor.index parts) ≡ drop cursor.start (spelled parts)

-- tokens by their kinds, texts and places
abbrev pub lexemes : List Token → List Lexeme
lexemes tokens = map token_value tokens

-- the texts of several lists of parts
module _ {A : Type 0} where
  abbrev pub spelled_lists : List (Vec Part A) → List (List ℕ)
  spelled_lists lists = map (λ list. spelled list.items) lists

module _ {A S : Type 0} where
  -- the names of parameters, in their order
  abbrev pub names_in : IndexSet (Vec ℕ A) S → List (List ℕ)
  names_in names = map (λ name. name.items) names.keys

module _ {A S Z : Type 0} where
  -- what the names of parameters stand for
  abbrev pub values_in : IndexSet (Vec ℕ A) S → List (Vec Part Z) → Names (List ℕ)
  values_in names values = value_of (names_in names) (spelled_lists values)

module _ {Y Z S : Type 0} where
  -- what names are aliases
  abbrev pub alias_names : IndexMap (String Y) (Vec Part Z) S → Names (List ℕ)
  alias_names aliases name = option_map (λ parts. spelled parts.items) (get_by_text aliases name)
