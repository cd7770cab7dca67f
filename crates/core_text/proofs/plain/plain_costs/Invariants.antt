use Rattle.std.proofs.Common.{◌≡◌}
use Rattle.core_text.specs.Plain.{plain_costs}
use Rattle.core_text.proofs.plain.plain_costs.Given as goal

-- the entries so far are those of the classes so far
abbrev pub invariant-loop-class : goal.invariant-loop-class
invariant-loop-class l = l.entries.items ≡ plain_costs l.latency l.class
