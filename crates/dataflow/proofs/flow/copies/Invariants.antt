use Rattle.std.proofs.Common.{◌≡◌, ◌++◌, map, drop}
use Rattle.dataflow.proofs.flow.copies.Given as goal

-- the lists so far and those left are all of them
abbrev pub invariant-loop-list : goal.invariant-loop-list
invariant-loop-list l = map (λ v. v.items) l.all.items ++ map (λ v. v.items) (drop l.list-index l.lists) ≡ map (λ v. v.items) l.lists
