use Rattle.std.proofs.Common.{◌≡◌, ◌++◌, length, false}
use Rattle.sl_model.specs.Text.{Parts}
use Rattle.macro_expand.specs.Slices.{AreLists, AreSlices}
use Rattle.macro_expand.specs.Words.{divided}
use Rattle.macro_expand.specs.Spelled.{lexemes, spelled, spelled_lists, StandsIn}
use Rattle.macro_expand.proofs.words.push_divided.Given as goal

-- what was divided, with what is left, is all
abbrev pub invariant-loop-rest : goal.invariant-loop-rest
invariant-loop-rest l =
    (spelled_lists l.out.items ++ divided l.labelled (spelled l.parts) (lexemes l.rest)
    ≡ spelled_lists l.fn.out.items ++ divided false (spelled l.parts) (lexemes l.words))
    × StandsIn l.parts l.cursor
    × ((texts : Parts) → AreSlices texts l.parts → AreLists texts l.fn.out.items → AreLists texts l.out.items)

abbrev pub decreases-loop-rest : goal.decreases-loop-rest
decreases-loop-rest l = length l.rest
