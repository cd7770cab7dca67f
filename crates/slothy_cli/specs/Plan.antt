-- The problem of a region on a core, and what the written region of a schedule says of itself.
use Rattle.std.specs.Prelude.{ℕ, List, [], ◌∷◌, length, Some}
use Rattle.sl_model.specs.declared.instruction.Instr.{Instr}
use Rattle.sl_model.specs.declared.schedule.Choice.{Choice}
use Rattle.sl_model.specs.Body.{applied}
use Rattle.sl_model.specs.Cycles.{timed, cycle_count, cycles_of}
use Rattle.sl_model.specs.Graph.{body_of}
use Rattle.sl_model.specs.Isa.{Isa}
use Rattle.sl_model.specs.declared.frame.Frame.{Frame}
use Rattle.sl_model.specs.Legal.{Problem, sources_in, frame_of, straight_problem}
use Rattle.sl_model.specs.Space.{stalls_of}
use Rattle.sl_isa.specs.Language.{Language}
use Rattle.asm_reader.specs.declared.words.Part.TheVariants.{Plain}
use Rattle.asm_reader.specs.Notes.{NoteValue}
use Rattle.asm_reader.specs.Reading.{Region}
use Rattle.core_text.specs.Core.{CoreTable, unit_name}
use Rattle.slothy_cli.specs.Command.{Aim}
use Rattle.slothy_cli.specs.Setting.{Setting}
use Rattle.asm_printer.specs.declared.plan.Head.{Head}
use Rattle.asm_printer.specs.Printed.{PlanValue, line_end, region_text, written_text}

-- the registers that live on behind the items of a region, and those that may be written
abbrev pub region_frame : Aim → List Instr → Frame
region_frame aim items = frame_of items aim.live aim.free

-- the problem of the items of a region on a core
abbrev pub region_problem : Isa → Aim → Setting → Problem
region_problem isa aim setting =
    straight_problem isa setting.region.items (region_frame aim setting.region.items) setting.costs

-- what is told of an instruction: its old index, its unit, its cycle and its old line
abbrev pub note_of : ℕ → List ℕ → ℕ → ℕ → NoteValue
note_of item unit cycle line = record {
  item = Some item;
  unit = Some unit;
  cycle = Some cycle;
  part = Plain;
  line = line;
}

-- the same of instructions, with the choices that they come from and their cycles
unfoldable pub notes_of : CoreTable → List Instr → List Choice → List ℕ → List NoteValue
notes_of core [] choices cycles = []
notes_of core (i ∷ items) [] cycles = []
notes_of core (i ∷ items) (c ∷ choices) [] = []
notes_of core (i ∷ items) (c ∷ choices) (cycle ∷ cycles) =
    note_of c.item (unit_name core c.unit) cycle i.line ∷ notes_of core items choices cycles

-- the first line of a straight list
abbrev pub head_of : ℕ → ℕ → ℕ → Head
head_of items cycles stalls =
    record { items = items; cycles = cycles; stalls = stalls; least = 1; early = 0 }

-- the plan of instructions, with their choices and cycles, of how many cycles they take, and of
-- the stalls among these
abbrev pub plan_from : CoreTable → List Instr → List Choice → List ℕ → ℕ → ℕ → PlanValue
plan_from core items schedule cycles count stalls = record {
  head = head_of (length schedule) count stalls;
  notes = notes_of core items schedule cycles;
}

-- the plan of a schedule of a problem on a core
unfoldable pub plan_of : CoreTable → Problem → List Choice → PlanValue
plan_of core problem schedule =
    let times = timed problem.costs (sources_in problem) schedule in
    plan_from core (applied (body_of problem.graph) schedule) schedule (cycles_of times)
    (cycle_count times) (stalls_of problem schedule)

-- the printed region of a schedule of a problem of a region on a core
abbrev pub schedule_text : Language → CoreTable → Region → Problem → List Choice → List ℕ
schedule_text language core region problem schedule =
    region_text (language.printed region.pairs) region.tags (applied (body_of problem.graph) schedule)
    (plan_of core problem schedule) (line_end region.parts.before)

-- the written file of a schedule of a problem of a region on a core
abbrev pub schedule_file : Language → CoreTable → Region → Problem → List Choice → List ℕ
schedule_file language core region problem schedule =
    written_text language.printed region (applied (body_of problem.graph) schedule)
    (plan_of core problem schedule)
