use Rattle.std.proofs.Common.{◌≡◌, ◌||◌, not, true, reverse}
use Rattle.std.specs.List.{list_all}
use Rattle.sl_model.specs.Source.{numbers_below}
use Rattle.sl_model.specs.Body.{is_placed, stands_in}
use Rattle.legal_space.proofs.placed.are_placed.Given as goal

-- all members so far are placed
abbrev pub invariant-loop-item : goal.invariant-loop-item
invariant-loop-item l = list_all (λ p. not (stands_in p l.items) || is_placed (reverse l.done) p) (numbers_below l.item) ≡ true
