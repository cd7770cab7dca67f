use Rattle.std.proofs.Common.{◌≡◌, ◌≤◌, length, reverse}
use Rattle.sl_model.specs.Source.{source_of}
use Rattle.dataflow.proofs.sources.source_of.Given as goal

-- the source below the items left is that below all
abbrev pub invariant-loop-last : goal.invariant-loop-last
invariant-loop-last l = (source_of l.reg (reverse l.rest) ≡ source_of l.reg (reverse l.fn.above)) × (length l.rest ≤ length l.fn.above)

abbrev pub decreases-loop-last : goal.decreases-loop-last
decreases-loop-last l = length l.rest
