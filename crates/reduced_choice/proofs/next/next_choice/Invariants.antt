use Rattle.std.proofs.Common.{◌≡◌, reverse, None}
use Rattle.std.specs.List.{find, flat_map}
use Rattle.sl_model.specs.Source.{numbers_below}
use Rattle.search_space.specs.Next.{choices_of, may_follow}
use Rattle.reduced_choice.proofs.next.next_choice.Given as goal

abbrev pub invariant-loop-item : goal.invariant-loop-item
invariant-loop-item l =
    find (may_follow l.problem (reverse l.done) l.after) (flat_map (choices_of l.problem) (numbers_below l.item)) ≡ None
