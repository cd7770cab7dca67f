-- The list so far, and the rest of the schedule applied, are the schedule applied; there is room for the rest.
use Rattle.std.proofs.Common.{◌≡◌, ◌++◌, reverse, take, drop, length, vec_len, vec_capacity}
use Rattle.sl_model.specs.Body.{applied, applied_from}
use Rattle.sl_model.specs.Graph.{body_of}
use Rattle.renamer.proofs.applied.apply.Given as goal

abbrev pub invariant-loop-place : goal.invariant-loop-place
invariant-loop-place l =
    (vec_len l.list ≡ l.place)
    × (vec_capacity l.list ≡ length l.schedule)
    × (l.list.items ++ applied_from (body_of l.problem.graph) (reverse (take l.place l.schedule)) (drop l.place l.schedule) ≡ applied (body_of l.problem.graph) l.schedule)
