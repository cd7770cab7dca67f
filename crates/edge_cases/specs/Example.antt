-- A small instruction set, and a straight list with a schedule in another order and in other
-- registers: there are lawful sets, valid items and legal schedules.
use Rattle.std.specs.Prelude.{ℕ, ◌≡◌, pos, nat_lt, false, ◌+◌, ◌-◌, ◌%◌, ◌^◌, List, [], ◌∷◌, slice_index, None, Some}
use Rattle.sl_model.specs.declared.frame.Frame.{Frame}
use Rattle.sl_model.specs.declared.register.Bank.TheVariants.{General}
use Rattle.sl_model.specs.declared.register.Reg.{Reg}
use Rattle.sl_model.specs.declared.register.RegSet.{RegSet}
use Rattle.sl_model.specs.declared.instruction.ArchName.TheVariants.{M4}
use Rattle.sl_model.specs.declared.instruction.FormInfo.{FormInfo}
use Rattle.sl_model.specs.declared.instruction.Instr.{Instr}
use Rattle.sl_model.specs.declared.schedule.Choice.{Choice}
use Rattle.sl_model.specs.declared.schedule.CostRow.{CostRow}
use Rattle.sl_model.specs.RegSets.{set_of}
use Rattle.sl_model.specs.Cycles.{CostTable}
use Rattle.sl_model.specs.Isa.{Isa}
use Rattle.sl_model.specs.declared.rules.Rule.TheVariants.{L1, L2, L4, L7}
use Rattle.sl_model.specs.Legal.{Problem, first_broken, frame_of, straight_problem}

-- a general register
abbrev pub general : ℕ → Reg
general n = record { bank = General; symbolic = false; number = n }

-- all general registers but the zero register
abbrev pub all_general : RegSet
all_general = record { bits = 2 ^ 31 - 1 }

-- no register
abbrev pub no_register : RegSet
no_register = record { bits = 0 }

-- the one form: it adds two general registers into a third
abbrev pub adding_form : FormInfo
adding_form = record {
  class = 0;
  in_sets = all_general ∷ all_general ∷ no_register ∷ no_register ∷ [];
  out_sets = all_general ∷ no_register ∷ no_register ∷ [];
  tied = None ∷ None ∷ None ∷ [];
  back = None;
  base = None;
  store = false;
  size = 0;
}

-- an instruction set that only adds, with registers of 32 bits
abbrev pub adding_isa : Isa
adding_isa = record {
  name = M4;
  forms = 1;
  valid = λ op. nat_lt op.form 1;
  info = λ form. adding_form;
  offset = λ op. pos 0;
  values = λ op ins loaded. (slice_index ins 0 + slice_index ins 1) % 2 ^ 32 ∷ [];
  stored = λ op ins. [];
}

-- out = a + b
abbrev pub add : Reg → Reg → Reg → Instr
add out a b = record {
  form = 0;
  wide = false;
  imms = pos 0 ∷ pos 0 ∷ pos 0 ∷ [];
  ins = Some a ∷ Some b ∷ None ∷ None ∷ [];
  outs = Some out ∷ None ∷ None ∷ [];
  tag = None;
  early = false;
  late = false;
  line = 1;
}

-- r1 = r0 + r0, r2 = r1 + r1, r4 = r0 + r0
abbrev pub adding_items : List Instr
adding_items =
    add (general 1) (general 0) (general 0) ∷ add (general 2) (general 1) (general 1)
    ∷ add (general 4) (general 0) (general 0) ∷ []

-- every item may go to the one unit
abbrev pub adding_costs : CostTable
adding_costs =
    let row : CostRow = record {
      class = 0;
      units = 1;
      busy = 1;
      latency = 1;
      writeback = 1;
      back = None;
    } in record { width = 1; rows = row ∷ row ∷ row ∷ []; forwards = [] }

-- r2 and r4 are live, r3 is free
abbrev pub adding_frame : Frame
adding_frame =
    frame_of adding_items (Some (set_of (general 2 ∷ general 4 ∷ []))) (set_of (general 3 ∷ []))

-- the straight problem of these
abbrev pub adding_problem : Problem
adding_problem = straight_problem adding_isa adding_items adding_frame adding_costs

-- an item on the one unit, with its output in a register
abbrev pub choice : ℕ → Reg → Choice
choice item out = record { item = item; unit = 0; outs = Some out ∷ None ∷ None ∷ [] }

-- r4 = r0 + r0, r3 = r0 + r0, r2 = r3 + r3
abbrev pub adding_schedule : List Choice
adding_schedule = choice 2 (general 4) ∷ choice 0 (general 3) ∷ choice 1 (general 2) ∷ []

-- Choices that break a rule: an item twice, one before the item whose output it reads, an output in
-- a register that is neither written nor free, and one over a final value.
pub record BreakRules : Type 0 where
  pub twice : first_broken adding_problem
      (choice 0 (general 3) ∷ []) (choice 0 (general 1)) ≡ Some L1
  pub too_early : first_broken adding_problem [] (choice 1 (general 2)) ≡ Some L2
  pub foreign : first_broken adding_problem [] (choice 0 (general 5)) ≡ Some L4
  pub over_final : first_broken adding_problem
      (choice 2 (general 4) ∷ []) (choice 0 (general 4)) ≡ Some L7
