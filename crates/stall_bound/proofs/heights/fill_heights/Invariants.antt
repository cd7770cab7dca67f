use Rattle.std.proofs.Common.{◌≡◌, replicate}
use Rattle.std.specs.Vec.{vec_capacity}
use Rattle.stall_bound.proofs.heights.fill_heights.Given as goal

-- a height of 1 for each item so far
abbrev pub invariant-loop : goal.invariant-loop
invariant-loop l = record {
  items : l.heights.items ≡ replicate l.counter 1;
  room : vec_capacity l.heights ≡ vec_capacity l.fn.heights;
}
