use Rattle.std.proofs.Common.{◌≡◌, ◌++◌, map, drop}
use Rattle.dataflow.proofs.infos.infos_of.Given as goal

-- what is told of the items so far and of those left is told of all
abbrev pub invariant-loop-place : goal.invariant-loop-place
invariant-loop-place g l =
    l.infos.items ++ map (λ i. g.A.Arch.language.isa.info i.form) (drop l.place l.items) ≡ map (λ i. g.A.Arch.language.isa.info i.form) l.items
