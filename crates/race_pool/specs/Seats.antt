-- A seat at the word of a race. Source: none; the race's own.
use Rattle.std.specs.Prelude.{◌≡◌, ◌≤◌, true, []}
use Rattle.atomic_table.specs.Seated.{TableId}
use Rattle.atomic_table.specs.declared.shared.Seat.{Seat}
use Rattle.race_pool.specs.declared.key.Level.{Level}
use Rattle.race_pool.specs.declared.rule.View.{View}

-- A live seat at a table of one word, whose worker knows the level.
abbrev pub IsSeated : TableId → Level → Seat (Unit {0}) View → Type 0
IsSeated table level seat =
    (seat.table_id ≡ table) × (table.words ≡ 1) × (table.slots ≡ 0) × (seat.me.1 ≡ []) × (seat.me.0.live ≡ true) × (seat.me.0.level ≡ level) × (seat.me.0.best ≤ level.count)
