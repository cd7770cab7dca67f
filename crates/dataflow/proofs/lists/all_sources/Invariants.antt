use Rattle.std.proofs.Common.{◌≡◌, map}
use Rattle.sl_model.specs.Source.{list_sources, numbers_below}
use Rattle.dataflow.proofs.lists.all_sources.Given as goal

-- the sources of the items so far
abbrev pub invariant-loop-place : goal.invariant-loop-place
invariant-loop-place l = map (λ v. v.items) l.all.items ≡ map (list_sources l.items) (numbers_below l.place)
