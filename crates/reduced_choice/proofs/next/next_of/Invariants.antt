use Rattle.std.proofs.Common.{◌≡◌, [], reverse, None}
use Rattle.std.specs.List.{find, flat_map}
use Rattle.sl_model.specs.Source.{numbers_below}
use Rattle.search_space.specs.Searchable.{output_count}
use Rattle.search_space.specs.Next.{may_follow}
use Rattle.search_space.specs.Trials.{beginning}
use Rattle.reduced_choice.proofs.next.next_of.Given as goal

abbrev pub invariant-loop-unit : goal.invariant-loop-unit
invariant-loop-unit l =
    find (may_follow l.problem (reverse l.done) l.after) (flat_map (λ unit. beginning l.item unit [] (output_count l.problem l.item)) (numbers_below l.unit)) ≡ None
