-- Items, and what was found of them, as values of their code.
use Rattle.std.specs.Prelude.{◌≡◌, List, map, Option, None, Some}
use Rattle.sl_text.specs.declared.token.Token.{Token}
use Rattle.sl_text.specs.Tokens.{token_value}
use Rattle.sl_model.specs.Token.{Lexeme}
use Rattle.form_table.specs.Symbols.{Symbol}
use Rattle.form_table.specs.Items.{Item, blank, mark, word, symbol, numeral}
use Rattle.form_table.specs.Items as spec
use Rattle.form_table.specs.declared.symbols.Symbol as symbols
use Rattle.form_table.specs.declared.items.Item as code
use Rattle.form_table.specs.declared.items.Item.TheVariants as variant
use Rattle.form_table.specs.declared.items.Found as found

-- tokens by their kinds, texts and places
abbrev pub lexemes : List Token → List Lexeme
lexemes tokens = map token_value tokens

-- an item as a value of the definitions
abbrev pub item_value : code.Item → Item
item_value variant.Gap = blank
item_value (variant.Mark c) = mark c
item_value (variant.Word w) = word w.now
item_value (variant.Symbol letter number) = symbol letter number
item_value (variant.Number n) = numeral n

-- a number that was found, as such a value
abbrev pub found_value : found.Found → spec.Found
found_value f = record { count = f.count; negative = f.negative; value = f.value }

-- what the code found is what the definition says
abbrev pub Finds : Option found.Found → Option spec.Found → Type 0
Finds None wanted = wanted ≡ None
Finds (Some f) wanted = wanted ≡ Some (found_value f)

-- a symbolic register as such a value
abbrev pub symbol_value : symbols.Symbol → Symbol
symbol_value s = record { letter = s.letter; name = s.name.now }

-- the code found the symbolic register that the definition says
abbrev pub FindsSymbol : Option symbols.Symbol → Option Symbol → Type 0
FindsSymbol None wanted = wanted ≡ None
FindsSymbol (Some s) wanted = wanted ≡ Some (symbol_value s)
