-- The code's table, as the definitions see it. Source: `src/table.rt`.
use Rattle.command_words.specs.Table.{OptionLine}
use Rattle.command_words.specs.declared.table.OptionLine.{OptionLine as CodeLine}

-- an option's line
abbrev pub line_value : CodeLine → OptionLine
line_value line = record {
  name = line.name.now;
  cost = line.cost;
  opt = line.opt;
  run = line.run;
  demo = line.demo;
}
