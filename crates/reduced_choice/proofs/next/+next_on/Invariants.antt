use Rattle.std.proofs.Common.{◌≡◌, ◌-◌, ◌++◌, ◌∷◌, [], reverse, None}
use Rattle.std.specs.List.{find, flat_map}
use Rattle.sl_model.specs.Source.{numbers_below}
use Rattle.sl_model.specs.Body.{chosen}
use Rattle.search_space.specs.Next.{may_follow}
use Rattle.search_space.specs.Trials.{reg_of_bit, beginning}
use Rattle.reduced_choice.proofs.next.+next_on.Given as goal

abbrev pub decreases-next_on : goal.decreases-next_on
decreases-next_on l = l.left

abbrev pub invariant-loop-bit : goal.invariant-loop-bit
invariant-loop-bit l =
    find (may_follow l.problem (reverse l.done) l.after)
    (flat_map (λ bit. beginning l.front.item l.front.unit (chosen l.front ++ reg_of_bit bit ∷ []) (l.left - 1)) (numbers_below l.bit)) ≡ None
