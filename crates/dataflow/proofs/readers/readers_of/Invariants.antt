use Rattle.std.proofs.Common.{◌≡◌, filter}
use Rattle.std.specs.List.{list_any}
use Rattle.sl_model.specs.Source.{numbers_below}
use Rattle.sl_model.specs.Graph.{is_output_of, sources_at}
use Rattle.dataflow.proofs.readers.readers_of.Given as goal

-- the readers among the items so far
abbrev pub invariant-loop-reader : goal.invariant-loop-reader
invariant-loop-reader l = l.set ≡ filter (λ reader. list_any (is_output_of l.item) (sources_at l.graph reader)) (numbers_below l.reader)
