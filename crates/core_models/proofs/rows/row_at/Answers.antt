use Rattle.std.proofs.Common.{◌∙◌, length, ap}
use Rattle.core_models.specs.Costs.{has_known_units}
use Rattle.core_models.proofs.UnitSets.{entry-weaker, row-known}
use Rattle.core_models.proofs.rows.row_at.Goals as goal

pub row_for-requires : goal.row_for-requires
row_for-requires c = entry-weaker (length c.args.core.now.units) 16 c.in-Some.entry.now c.in-Some.ensures.few c.in-Some.ensures.sound

pub returns-clause-known : goal.returns-clause-known
returns-clause-known c =
    ap (has_known_units (length c.args.core.now.units)) c.row_for.ensures.row
    ∙ row-known (length c.args.core.now.units) c.args.info.now c.in-Some.entry.now c.in-Some.ensures.sound
