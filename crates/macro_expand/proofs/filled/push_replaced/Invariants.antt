use Rattle.std.proofs.Common.{◌≡◌, ◌++◌, [], drop, IsUtf8}
use Rattle.sl_model.specs.Text.{Parts}
use Rattle.macro_expand.specs.Slices.{AreAliases, AreSlices}
use Rattle.macro_expand.specs.Filled.{replaced}
use Rattle.macro_expand.specs.Spelled.{lexemes, spelled, alias_names, StandsIn}
use Rattle.macro_expand.proofs.filled.push_replaced.Given as goal

-- what was put, with what is left to be replaced, is all; and the token before is a text
abbrev pub invariant-loop-token : goal.invariant-loop-token
invariant-loop-token l =
    (spelled l.out.items ++ replaced (alias_names l.aliases) (spelled l.parts) l.first l.last l.place (lexemes (drop l.token-index l.words))
    ≡ spelled l.fn.out.items ++ replaced (alias_names l.aliases) (spelled l.parts) l.fn.first [] l.fn.place (lexemes l.words))
    × IsUtf8 l.last × StandsIn l.parts l.cursor
    × ((texts : Parts) → AreSlices texts l.parts → AreAliases texts l.aliases → AreSlices texts l.fn.out.items → AreSlices texts l.out.items)
