use Rattle.std.proofs.Common.{◌≡◌, ◌++◌, drop, false}
use Rattle.sl_model.specs.Text.{Parts}
use Rattle.macro_expand.specs.Slices.{AreCutOf, AreSlices, IsSliceIn}
use Rattle.macro_expand.specs.Spelled.{lexemes, spelled}
use Rattle.macro_expand.specs.Source.{bared}
use Rattle.macro_expand.proofs.source.push_bared.Given as goal

-- what was added, and what the tokens that are left give behind it, is what all give
abbrev pub invariant-loop-token : goal.invariant-loop-token
invariant-loop-token l =
    (spelled l.out.items ++ bared l.line l.commented l.place (lexemes (drop l.token-index l.tokens))
    ≡ spelled l.initial.out.items ++ bared l.line false l.initial.place (lexemes l.tokens))
    × ((texts : Parts) → IsSliceIn texts l.line → AreCutOf l.line (lexemes l.tokens) → AreSlices texts l.initial.out.items → AreSlices texts l.out.items)
