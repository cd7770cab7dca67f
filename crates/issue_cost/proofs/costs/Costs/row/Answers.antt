use Rattle.std.proofs.Common.{◌≡◌, ◌<◌, true, length, subst, sym, ap, arith}
use Rattle.issue_cost.specs.Sound.{is_sound_row}
use Rattle.issue_cost.proofs.SoundRows.{row-is_sound}
use Rattle.issue_cost.proofs.costs.Costs.row.Goals as goal

pub returns-clause-sound : goal.returns-clause-sound
returns-clause-sound c =
    let rows : length c.self.inside.rows.items ≡ length c.args.self.now.rows = ap (λ costs. length costs.rows) c.self.view_is in
    let within : c.from.result < length c.self.inside.rows.items = omega (arith, c.from.ensures, c.requires) in
    subst (λ row. is_sound_row row ≡ true) (sym c.index.ensures)
    (row-is_sound c.self.inside.rows.items c.from.result c.index.result.now c.self.invariant.rows within)
