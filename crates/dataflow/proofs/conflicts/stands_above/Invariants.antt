use Rattle.std.proofs.Common.{◌≡◌, drop}
use Rattle.sl_model.specs.Body.{above, stands_in}
use Rattle.dataflow.proofs.conflicts.stands_above.Given as goal

-- the other stands above among the numbers left where it does among all
abbrev pub invariant-loop-number : goal.invariant-loop-number
invariant-loop-number l = stands_in l.other (above l.item (drop l.number-index l.order)) ≡ stands_in l.other (above l.item l.order)
