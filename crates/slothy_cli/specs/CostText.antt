-- The text of `cost` for a straight region on a core.
use Rattle.std.specs.Prelude.{ℕ, List, [], ◌∷◌, ◌++◌, length, codes, None}
use Rattle.std.specs.Fmt.{decimal}
use Rattle.sl_model.specs.declared.instruction.Instr.{Instr}
use Rattle.sl_model.specs.declared.schedule.Choice.{Choice}
use Rattle.sl_model.specs.Cycles.{timed, cycle_count, cycles_of}
use Rattle.sl_model.specs.Isa.{Isa}
use Rattle.sl_model.specs.Legal.{Problem, sources_in, frame_of, straight_problem}
use Rattle.sl_model.specs.Space.{stalls_of}
use Rattle.sl_isa.specs.Language.{Language}
use Rattle.core_text.specs.Core.{CoreTable, unit_name}
use Rattle.own_schedule.specs.OwnSchedule.{own_schedule}
use Rattle.slothy_cli.specs.Setting.{Setting}

-- the problem of the items as they stand, in which no register is free
abbrev pub own_problem : Isa → Setting → Problem
own_problem isa setting =
    straight_problem isa setting.region.items
    (frame_of setting.region.items None (record { bits = 0 })) setting.costs

-- the stalls of the items as they stand, each on the unit that issues it first
abbrev pub own_stalls : Isa → Setting → ℕ
own_stalls isa setting =
    stalls_of (own_problem isa setting)
    (own_schedule setting.core (own_problem isa setting))

-- the numbers of an item: its cycle, its unit, its number, and its line in the file
abbrev pub cost_numbers : ℕ → List ℕ → ℕ → ℕ → List ℕ
cost_numbers cycle unit item line =
    codes "c=" ++ (decimal cycle
    ++ (codes " u=" ++ (unit
    ++ (codes " i=" ++ (decimal item ++ (codes " line=" ++ (decimal line ++ codes " ")))))))

-- the line of an item that was chosen: its numbers, and how it is printed
abbrev pub cost_line : (Instr → List ℕ) → CoreTable → Instr → Choice → ℕ → List ℕ
cost_line printed core i c cycle =
    cost_numbers cycle (unit_name core c.unit) c.item i.line ++ (printed i ++ codes "\n")

-- the lines of items, with their choices and cycles
unfoldable pub cost_lines : (Instr → List ℕ) → CoreTable → List Instr → List Choice → List ℕ
    → List ℕ
cost_lines printed core [] choices cycles = []
cost_lines printed core (i ∷ items) [] cycles = []
cost_lines printed core (i ∷ items) (c ∷ choices) [] = []
cost_lines printed core (i ∷ items) (c ∷ choices) (cycle ∷ cycles) =
    cost_line printed core i c cycle ++ cost_lines printed core items choices cycles

-- how many items there are, the cycles that they take and the stalls among these
abbrev pub cost_head : ℕ → ℕ → ℕ → List ℕ
cost_head items cycles stalled =
    codes "kind=straight n=" ++ (decimal items
    ++ (codes " cycles=" ++ (decimal cycles
    ++ (codes " stalls=" ++ (decimal stalled ++ codes "\n")))))

-- the text of a schedule of a problem that keeps the order of its items: its head, and a line for
-- each item
abbrev pub text_of : (Instr → List ℕ) → CoreTable → Problem → List Choice → List ℕ
text_of printed core problem schedule =
    let times = timed problem.costs (sources_in problem) schedule in
    cost_head (length problem.graph.items) (cycle_count times) (stalls_of problem schedule)
    ++ cost_lines printed core problem.graph.items schedule (cycles_of times)

-- the text of `cost`
unfoldable pub cost_text : Language → Setting → List ℕ
cost_text language setting =
    let problem = own_problem language.isa setting in
    text_of (language.printed setting.region.pairs) setting.core problem
    (own_schedule setting.core problem)
