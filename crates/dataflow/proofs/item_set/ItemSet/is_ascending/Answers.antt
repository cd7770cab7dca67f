use Rattle.std.proofs.Common.{◌≡◌, ℕ, List, filter, subst}
use Rattle.sl_model.specs.Source.{numbers_below}
use Rattle.sl_model.specs.Body.{stands_in}
use Rattle.sl_model.specs.declared.limits.TheConstants.{SET_ITEMS}
use Rattle.dataflow.proofs.Sets.{members-ascending}
use Rattle.dataflow.proofs.item_set.ItemSet.is_ascending.Goals as goal

pub returns : goal.returns
returns c =
    subst (λ (set : List ℕ). set ≡ filter (λ p. stands_in p set) (numbers_below SET_ITEMS)) c.self.view_is
    (members-ascending c.self.inside.low c.self.inside.middle c.self.inside.high)
