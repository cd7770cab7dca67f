use Rattle.std.proofs.Common.{◌≡◌, ◌-◌, ◌++◌, length, drop}
use Rattle.sl_model.specs.Text.{Parts}
use Rattle.macro_expand.specs.Slices.{AreLists, AreSlices}
use Rattle.macro_expand.specs.Filled.{value_of, filled}
use Rattle.macro_expand.specs.Spelled.{spelled, spelled_lists, names_in, StandsIn}
use Rattle.macro_expand.proofs.filled.fill.Given as goal

-- what was put, with what is left to be filled, is all
abbrev pub invariant-loop-place : goal.invariant-loop-place
invariant-loop-place l =
    (spelled l.out.items ++ filled (value_of (names_in l.names) (spelled_lists l.values)) 0 (drop l.place l.text)
    ≡ spelled l.fn.out.items ++ filled (value_of (names_in l.names) (spelled_lists l.values)) 0 l.text)
    × StandsIn l.parts l.cursor
    × ((texts : Parts) → AreSlices texts l.parts → AreLists texts l.values → AreSlices texts l.fn.out.items → AreSlices texts l.out.items)

abbrev pub decreases-loop-place : goal.decreases-loop-place
decreases-loop-place l = length l.text - l.place
