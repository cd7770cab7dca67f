use Rattle.std.proofs.Common.{◌≡◌, ◌≤◌, drop}
use Rattle.std.specs.List.{filter_map}
use Rattle.sl_model.specs.Source.{place_from}
use Rattle.sl_isa.proofs.registers.place_among.Given as goal

-- the register stands among the outputs left where it stands among all
abbrev pub invariant-loop-output : goal.invariant-loop-output
invariant-loop-output l =
    (place_from l.place l.reg (filter_map (λ r. r) (drop l.output-index l.outputs)) ≡ place_from 0 l.reg (filter_map (λ r. r) l.outputs))
    × (l.place ≤ l.output-index)
