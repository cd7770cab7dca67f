use Rattle.std.proofs.Common.{◌≡◌, ◌-◌, length, drop}
use Rattle.macro_expand.specs.Filled.{value_of, has_unknown}
use Rattle.macro_expand.specs.Spelled.{spelled_lists, names_in}
use Rattle.macro_expand.proofs.filled.has_unknown.Given as goal

-- none was found so far
abbrev pub invariant-loop-place : goal.invariant-loop-place
invariant-loop-place l =
    has_unknown (value_of (names_in l.names) (spelled_lists l.values)) 0 (drop l.place l.text)
    ≡ has_unknown (value_of (names_in l.names) (spelled_lists l.values)) 0 l.text

abbrev pub decreases-loop-place : goal.decreases-loop-place
decreases-loop-place l = length l.text - l.place
