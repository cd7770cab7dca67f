use Rattle.std.proofs.Common.{◌≡◌, ◌-◌, ◌++◌, length, drop}
use Rattle.sl_model.specs.Text.{Parts}
use Rattle.macro_expand.specs.Slices.{AreSlices}
use Rattle.macro_expand.specs.Filled.{kept}
use Rattle.macro_expand.specs.Spelled.{spelled, StandsIn}
use Rattle.macro_expand.proofs.filled.push_kept.Given as goal

-- what was put, with what is left to be kept, is all
abbrev pub invariant-loop-place : goal.invariant-loop-place
invariant-loop-place l =
    (spelled l.out.items ++ kept 0 (drop l.place l.text) ≡ spelled l.fn.out.items ++ kept 0 l.text)
    × StandsIn l.parts l.cursor
    × ((texts : Parts) → AreSlices texts l.parts → AreSlices texts l.fn.out.items → AreSlices texts l.out.items)

abbrev pub decreases-loop-place : goal.decreases-loop-place
decreases-loop-place l = length l.text - l.place
