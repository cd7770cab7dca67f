use Rattle.std.proofs.Common.{◌≡◌, ◌++◌, map}
use Rattle.sl_model.specs.Text.{Parts}
use Rattle.macro_expand.specs.Slices.{AreLists, AreSlices}
use Rattle.macro_expand.specs.Words.{span, between_commas}
use Rattle.macro_expand.specs.Spelled.{lexemes, spelled, spelled_lists, StandsIn}
use Rattle.macro_expand.proofs.WordLemmas.{fields_of, left_of}
use Rattle.macro_expand.proofs.words.arguments.Given as goal

-- the fields so far, with those that are left, are all
abbrev pub invariant-loop-rest : goal.invariant-loop-rest
invariant-loop-rest l =
    (spelled_lists l.values.items ++ map (span (spelled l.parts)) (fields_of 44 l.rest) ≡ map (span (spelled l.parts)) (between_commas (lexemes l.words)))
    × StandsIn l.parts l.cursor
    × ((texts : Parts) → AreSlices texts l.parts → AreLists texts l.values.items)

abbrev pub decreases-loop-rest : goal.decreases-loop-rest
decreases-loop-rest l = left_of l.rest
