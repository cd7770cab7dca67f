use Rattle.std.proofs.Common.{ap, ◌∙◌}
use Rattle.sl_model.specs.Body.{stands_in}
use Rattle.dataflow.proofs.item_set.ItemSet.contains.Goals as goal

pub returns : goal.returns
returns c = c.is_member.ensures ∙ ap (λ set. stands_in c.args.item set) c.self.view_is
