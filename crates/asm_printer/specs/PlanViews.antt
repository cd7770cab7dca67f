-- Plans of the code, as the definitions see them.
use Rattle.std.specs.Prelude.{map}
use Rattle.asm_reader.specs.NoteViews.{note_value}
use Rattle.asm_printer.specs.declared.plan.Plan as code
use Rattle.asm_printer.specs.Printed.{PlanValue}

-- a plan with its notes
abbrev pub plan_value : code.Plan → PlanValue
plan_value plan = record { head = plan.head; notes = map note_value plan.notes.list.items }
