use Rattle.std.proofs.Common.{◌≡◌, ◌++◌, ◌-◌, drop, slice_range, length}
use Rattle.sl_model.specs.Text.{Parts}
use Rattle.macro_expand.specs.Slices.{AreSlices}
use Rattle.macro_expand.specs.Spelled.{spelled, StandsIn}
use Rattle.macro_expand.proofs.parts.push_cut.Given as goal

-- what was cut, and what is still to be cut, are the whole cut
abbrev pub invariant-loop-next : goal.invariant-loop-next
invariant-loop-next l =
    StandsIn l.parts l.next
    × (spelled l.out.items ++ slice_range (spelled (drop l.next.index l.parts)) (l.fn.from - l.next.start) (l.fn.to - l.next.start)
    ≡ spelled l.fn.out.items ++ slice_range (spelled l.parts) l.fn.from l.fn.to)
    × ((texts : Parts) → AreSlices texts l.parts → AreSlices texts l.fn.out.items → AreSlices texts l.out.items)

abbrev pub decreases-loop-next : goal.decreases-loop-next
decreases-loop-next l = length l.parts - l.next.index
