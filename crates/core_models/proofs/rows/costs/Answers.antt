use Rattle.std.proofs.Common.{◌∙◌, length, ap}
use Rattle.sl_model.specs.Cycles.{CostTable}
use Rattle.core_models.proofs.UnitSets.{costs-known}
use Rattle.core_models.proofs.rows.costs.Goals as goal

pub returns-clause-known : goal.returns-clause-known
returns-clause-known g c =
    costs-known (length c.args.core.now.units) c.in_ok-costs.costs c.in_ok-rows.rows.items (ap (λ (t : CostTable). t.rows) c.in_ok-costs.ensures ∙ c.deref.ensures.value) c.in_ok-rows.ensures.known
