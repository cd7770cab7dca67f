use Rattle.std.proofs.Common.{◌<◌, arith, length, map, string_bytes, subst, sym}
use Rattle.std.proofs.lemmas.List.{length-map}
use Rattle.core_text.specs.Core.{CoreTable}
use Rattle.core_text.proofs.UnitNames.{name-shaped}
use Rattle.core_text.proofs.core_table.Core.unit_name.Goals as goal

pub returns-clause-shape : goal.returns-clause-shape
returns-clause-shape c =
    let within : c.args.unit < length (map string_bytes c.self.inside.units.items) = subst (λ (core : CoreTable). c.args.unit < length core.units) (sym c.self.view_is) c.requires in
    let count = length-map c.self.inside.units.items string_bytes in
    name-shaped c.self.inside.units.items c.from.result c.index.result.now c.as_str.result.now (omega (arith, c.from.ensures)) c.index.ensures c.as_str.ensures.value c.self.invariant.names
