use Rattle.std.proofs.Common.{map, string_bytes}
use Rattle.toml.specs.View.{table_view}
use Rattle.core_text.proofs.Sound.{core-made, few-units}
use Rattle.core_text.proofs.reading.core_in.Goals as goal

pub classes_at-requires : goal.classes_at-requires
classes_at-requires c = few-units (table_view c.args.table.now) c.in_ok-units.units.items c.deref.result.now c.in_ok-units.ensures c.deref.ensures.value

pub new-requires : goal.new-requires
new-requires c =
    core-made c.args.arch (table_view c.args.table.now) c.in_ok-width.width (map string_bytes c.in-Ok.units.items) c.in_ok-units.units.items c.deref.result.now c.deref-2.result.now
    c.in_ok-classes.classes.items c.in_ok-forwards.forwards.items c.in_ok-width.ensures c.in_ok-units.ensures c.deref.ensures.value c.deref-2.ensures.value c.in-Ok.ensures
    c.in_ok-classes.ensures c.in_ok-forwards.ensures
