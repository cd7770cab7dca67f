-- What a search leaves of a stop of a race. Source: none; the race's own.
use Rattle.std.specs.Prelude.{ℕ}
use Rattle.atomic_table.specs.Seated.{TableId}
use Rattle.race_pool.specs.declared.key.Level.{Level}
use Rattle.race_pool.specs.declared.race_stop.StopMark.{StopMark}

-- what a search leaves of a stop: its table, its tree and its level
abbrev pub stop_mark : TableId → ℕ → Level → StopMark
stop_mark table tree level = record { tree = tree; level = level; table_id = table }
