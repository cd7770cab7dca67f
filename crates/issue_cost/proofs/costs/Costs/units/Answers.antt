use Rattle.std.proofs.Common.{◌<◌, arith}
use Rattle.issue_cost.proofs.SoundRows.{sound_row}
use Rattle.issue_cost.proofs.costs.Costs.units.Goals as goal

pub returns-clause-least : goal.returns-clause-least
returns-clause-least c =
    let least : 0 < c.row.result.units = (sound_row c.row.result c.row.ensures.sound).0 in
    omega arith
