use Rattle.std.proofs.Common.{◌≡◌, ◌++◌, drop, filter, not}
use Rattle.std.specs.List.{filter_map}
use Rattle.legal_space.proofs.straight.add_concrete.Given as goal

-- the registers so far and those of the outputs left are all of them
abbrev pub invariant-loop-out : goal.invariant-loop-out
invariant-loop-out l =
    l.regs.items ++ filter (λ r. not r.symbolic) (filter_map (λ r. r) (drop l.out-index l.outs))
    ≡ l.initial.regs.items ++ filter (λ r. not r.symbolic) (filter_map (λ r. r) l.outs)
