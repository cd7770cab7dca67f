use Rattle.std.proofs.Common.{◌≡◌, sym, subst, true, nat_lt, ℕ, List}
use Rattle.std.specs.List.{list_all}
use Rattle.core_models.proofs.UnitSets.{entry-units, row-sound}
use Rattle.core_models.proofs.rows.row_for.Goals as goal

pub unit_set-requires : goal.unit_set-requires
unit_set-requires c = subst (λ (units : List ℕ). list_all (λ unit. nat_lt unit 16) units ≡ true) (sym c.units.ensures) (entry-units 16 c.args.entry.now c.requires)

pub returns-clause-sound : goal.returns-clause-sound
returns-clause-sound c = rw (c.unit_set.ensures, c.units.ensures, c.busy.ensures, c.latency.ensures, c.writeback.ensures) (row-sound 16 c.args.info.now c.args.entry.now c.requires)
