use Rattle.std.proofs.Common.{◌<◌, arith}
use Rattle.issue_cost.proofs.SoundRows.{sound_row}
use Rattle.issue_cost.proofs.costs.Costs.busy.Goals as goal

pub returns-clause-least : goal.returns-clause-least
returns-clause-least c =
    let least : 0 < c.row.result.busy = (sound_row c.row.result c.row.ensures.sound).1 in
    omega arith
