use Rattle.std.proofs.Common.{◌≡◌}
use Rattle.std.specs.List.{filter_map}
use Rattle.sl_model.specs.RegSets.{bit_of}
use Rattle.reduced_choice.proofs.Orders.{lower_from}
use Rattle.reduced_choice.proofs.order.are_lower.Given as goal

abbrev pub invariant-loop-place : goal.invariant-loop-place
invariant-loop-place l =
    lower_from (λ r. bit_of r.bank r.number) l.ends l.place (filter_map (λ r. r) l.a) (filter_map (λ r. r) l.b)
    ≡ lower_from (λ r. bit_of r.bank r.number) l.ends 0 (filter_map (λ r. r) l.a) (filter_map (λ r. r) l.b)
