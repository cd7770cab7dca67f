use Rattle.std.proofs.Common.{◌≡◌, ◌++◌, drop}
use Rattle.dataflow.proofs.item_set.copies.Given as goal

-- the sets so far and those left are all of them
abbrev pub invariant-loop-set : goal.invariant-loop-set
invariant-loop-set l = l.all.items ++ drop l.set-index l.sets ≡ l.sets
