use Rattle.std.proofs.Common.{◌∙◌}
use Rattle.sl_model.specs.Space.{choice_key}
use Rattle.reduced_choice.proofs.Orders.{lower-before}
use Rattle.reduced_choice.proofs.order.choice_before.Goals as goal

pub returns : goal.returns
returns c = c.is_lower.ensures ∙ lower-before (choice_key c.args.a.now) (choice_key c.args.b.now)
