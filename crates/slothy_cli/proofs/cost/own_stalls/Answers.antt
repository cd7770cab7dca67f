use Rattle.std.proofs.Common.{◌≡◌, true, nat_lt, length, ap, ◌∙◌}
use Rattle.std.specs.List.{list_all}
use Rattle.slothy_cli.proofs.OptChoices.{units-below}
use Rattle.slothy_cli.proofs.cost.own_stalls.Goals as goal

pub times_of-requires-clause-units : goal.times_of-requires-clause-units
times_of-requires-clause-units g c =
    units-below (length c.args.setting.core.now.units) 16 c.deref.result.now c.in_ok-schedule.ensures.few_units
    (ap (list_all (λ k. nat_lt k.unit (length c.args.setting.core.now.units))) c.deref.ensures.value ∙ c.in_ok-schedule.ensures.units)
