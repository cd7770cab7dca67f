use Rattle.std.proofs.Common.{◌≡◌, ◌<◌, ℕ, true, length, reverse}
use Rattle.sl_model.specs.Body.{stands_in}
use Rattle.sl_model.specs.Graph.{last_of}
use Rattle.dataflow.proofs.last.last_of.Given as goal

-- what stands below the items left is what stands below all
abbrev pub invariant-loop-last : goal.invariant-loop-last
invariant-loop-last l =
    (last_of l.items (reverse l.rest) l.reg ≡ last_of l.items (reverse l.fn.order) l.reg)
    × ((p : ℕ) → stands_in p l.rest ≡ true → p < length l.items)

abbrev pub decreases-loop-last : goal.decreases-loop-last
decreases-loop-last l = length l.rest
