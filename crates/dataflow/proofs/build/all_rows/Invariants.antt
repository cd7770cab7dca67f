use Rattle.std.proofs.Common.{◌≡◌, ◌++◌, map, drop}
use Rattle.std.specs.List.{filter_map}
use Rattle.dataflow.proofs.build.all_rows.Given as goal

-- the sources so far and those of the rows left are all of them
abbrev pub invariant-loop-row : goal.invariant-loop-row
invariant-loop-row l =
    map (λ v. v.items) l.all.items ++ map (filter_map (λ s. s)) (drop l.row-index l.rows) ≡ map (filter_map (λ s. s)) l.rows
