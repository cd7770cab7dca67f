-- Parts that are slices, at their place, of the text before a region or of the region.
use Rattle.std.specs.Prelude.{◌≡◌, ℕ, ◌⊎◌, List, ◌++◌, All, IfSome, ⊤}
use Rattle.std.specs.HashMap.{get_by_text}
use Rattle.std.specs.declared.string.String.{String}
use Rattle.std.specs.declared.vec.Vec.{Vec}
use Rattle.indexmap.specs.IndexMap.{IndexMap}
use Rattle.sl_model.specs.Text.{Parts}
use Rattle.sl_model.specs.Token.{Lexeme}
use Rattle.macro_expand.specs.declared.parts.Part.{Part}
use Rattle.macro_expand.specs.declared.parts.Part.TheVariants as part
use Rattle.macro_expand.specs.declared.expansion.What.{What}
use Rattle.macro_expand.specs.declared.expansion.What.TheVariants as what
use Rattle.macro_expand.specs.declared.expansion.Piece.{Piece}
use Rattle.macro_expand.specs.declared.expansion.Macro.{Macro}
use Rattle.macro_expand.specs.declared.expansion.Known.{Known}
use Rattle.macro_expand.specs.declared.reading.Open.{Open}
use Rattle.macro_expand.specs.declared.reading.Reading.{Reading}

-- A text stands in another: behind a front, whose length is its place, and before a back.
pub record IsSliceOf (whole text : List ℕ) : Type 0 where
  pub front : List ℕ
  pub back : List ℕ
  pub joined : whole ≡ front ++ (text ++ back)

-- A text stands before the region or in it.
abbrev pub IsSliceIn : Parts → List ℕ → Type 0
IsSliceIn texts text = IsSliceOf texts.before text ⊎ IsSliceOf texts.body text

-- Each token of a line is a slice of it.
abbrev pub AreCutOf : List ℕ → List Lexeme → Type 0
AreCutOf line tokens = All (λ token. IsSliceOf line token.text) tokens

-- A part is a slice of the text before the region or of the region, or a gap.
abbrev pub IsSlice : Parts → Part → Type 0
IsSlice texts (part.Text text) = IsSliceIn texts text.now
IsSlice texts part.Gap = ⊤

-- All parts of a statement are.
pub record AreSlices (texts : Parts) (parts : List Part) : Type 0 where
  pub each : All (IsSlice texts) parts

-- All parts of what stands in a row are.
abbrev pub HasSlices : Parts → What → Type 0
HasSlices texts (what.Statement parts) = AreSlices texts parts.items
HasSlices texts what.Row = ⊤
HasSlices texts what.Invoked = ⊤
HasSlices texts (what.Note note) = ⊤

-- All parts of pieces are.
pub record HaveSlices (texts : Parts) (pieces : List Piece) : Type 0 where
  pub each : All (λ piece. HasSlices texts piece.what) pieces

-- All parts of a macro's body are.
pub record AreBody (texts : Parts) (body : List What) : Type 0 where
  pub each : All (HasSlices texts) body

-- All parts of several statements are.
module _ {A : Type 0} where
  abbrev pub AreLists : Parts → List (Vec Part A) → Type 0
  AreLists texts lists = All (λ list. AreSlices texts list.items) lists

-- All parts of what names stand for are.
module _ {Y Z S : Type 0} where
  abbrev pub AreAliases : Parts → IndexMap (String Y) (Vec Part Z) S → Type 0
  AreAliases texts aliases =
      (name : List ℕ) → IfSome (get_by_text aliases name) (λ parts. AreSlices texts parts.items)

-- All parts of macros are.
module _ {Y S : Type 0} where
  abbrev pub AreMacros : Parts → IndexMap (String Y) Macro S → Type 0
  AreMacros texts macros =
      (name : List ℕ) → IfSome (get_by_text macros name) (λ found. AreBody texts found.body.items)

-- All parts of what is known are.
pub record KnowsSlices (texts : Parts) (known : Known) : Type 0 where
  pub aliases : AreAliases texts known.aliases
  pub given : HaveSlices texts known.given.items

-- All parts of a definition are whose end isn't read yet.
pub record IsOpen (texts : Parts) (opened : Open) : Type 0 where
  pub head : AreSlices texts opened.head.items
  pub body : AreBody texts opened.body.items

-- All parts of all that is known are.
pub record ReadsSlices (texts : Parts) (reading : Reading) : Type 0 where
  pub macros : AreMacros texts reading.macros
  pub opened : IfSome reading.opened (IsOpen texts)
  pub known : KnowsSlices texts reading.known
