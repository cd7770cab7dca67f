use Rattle.std.proofs.Common.{map, reverse}
use Rattle.stall_bound.proofs.HeightLemmas.{AreRaised}
use Rattle.stall_bound.proofs.heights.raise_all.Given as goal

-- the heights are those by the readers so far, which come from the last on
abbrev pub invariant-loop-reader : goal.invariant-loop-reader
invariant-loop-reader l = AreRaised l.problem (reverse (map (λ r. r.now) l.yielded)) l.heights
