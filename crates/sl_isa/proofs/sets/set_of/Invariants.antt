use Rattle.std.proofs.Common.{◌≡◌, map, reverse}
use Rattle.sl_model.specs.RegSets.{set_of}
use Rattle.sl_isa.proofs.sets.set_of.Given as goal

-- the registers so far, which come from the last on, are in the set
abbrev pub invariant-loop-reg : goal.invariant-loop-reg
invariant-loop-reg l = l.set ≡ set_of (reverse (map (λ r. r.now) l.yielded))
