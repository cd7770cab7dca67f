-- A table as the list of its rows.
use Rattle.std.specs.Prelude.{List, ◌++◌}
use Rattle.form_table.specs.declared.rows.Row.{Row}
use Rattle.form_table.specs.declared.table.Table.{Table}

-- its four parts, one behind the other
abbrev pub rows_of : Table → List Row
rows_of table = table.first.now ++ (table.second.now ++ (table.third.now ++ table.fourth.now))
