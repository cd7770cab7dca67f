-- Symbols as the list of their pairs.
use Rattle.std.specs.Prelude.{List, map, string_bytes}
use Rattle.sl_isa.specs.Symbols.{Pair}
use Rattle.sl_isa.specs.declared.symbols.Symbol.{Symbol}
use Rattle.sl_isa.specs.declared.symbols.Symbols.{Symbols}

-- a symbol as its bank and the bytes of its name
abbrev pub pair_of : Symbol → Pair
pair_of symbol = (symbol.bank, string_bytes symbol.name)

-- by their numbers
abbrev pub pairs : Symbols → List Pair
pairs symbols = map pair_of symbols.list.items
