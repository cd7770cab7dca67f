-- Which cost tables are taken.
use Rattle.std.specs.Prelude.{Bool, ◌&&◌, nat_lt, IsTrue, ◌≤◌}
use Rattle.std.specs.List.{list_all}
use Rattle.sl_model.specs.Cycles.{CostTable}
use Rattle.sl_model.specs.declared.schedule.CostRow.{CostRow}
use Rattle.sl_model.specs.declared.schedule.Forward.{Forward}

-- Does a row have a unit, and numbers of at least 1?
abbrev pub is_sound_row : CostRow → Bool
is_sound_row row =
    nat_lt 0 row.units && (nat_lt 0 row.busy && (nat_lt 0 row.latency && nat_lt 0 row.writeback))

-- Is a forward's latency at least 1?
abbrev pub is_sound_forward : Forward → Bool
is_sound_forward forward = nat_lt 0 forward.latency

-- A core issues 1 to 8 items in a cycle, and its rows and forwards are sound.
pub record IsSound (costs : CostTable) : Type 0 where
  pub some_width : 1 ≤ costs.width
  pub most_width : costs.width ≤ 8
  pub rows : IsTrue (list_all is_sound_row costs.rows)
  pub forwards : IsTrue (list_all is_sound_forward costs.forwards)
