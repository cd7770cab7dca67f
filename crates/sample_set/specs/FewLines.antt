-- Instructions of the small set in registers of choice. Source: DDI 0487, A64 base instructions.
use Rattle.std.specs.Prelude.{ℕ, List, [], ◌∷◌, Option, None}
use Rattle.sl_model.specs.declared.register.Reg.{Reg}
use Rattle.sl_model.specs.declared.instruction.Instr.{Instr}
use Rattle.sl_isa.specs.declared.arch.CounterOp.TheVariants.{Subs}
use Rattle.sample_set.specs.FewForms.{example, step_flags, x_register}

-- an instruction of a form with a number, in these registers and with a tag
abbrev pub placed : ℕ → ℕ → List (Option Reg) → List (Option Reg) → Option ℕ → Instr
placed form number ins outs tag =
    record (example form number) { ins = ins; outs = outs; tag = tag }

-- the sum of two x registers into a third
abbrev pub sum_of : ℕ → ℕ → ℕ → Instr
sum_of out left right =
    placed 0 0 (x_register left ∷ x_register right ∷ None ∷ None ∷ [])
    (x_register out ∷ None ∷ None ∷ []) None

-- a register less a number, with flags
abbrev pub subs_of : ℕ → ℕ → ℕ → Instr
subs_of out from number =
    placed 4 number (x_register from ∷ None ∷ None ∷ None ∷ [])
    (x_register out ∷ step_flags Subs ∷ None ∷ []) None

-- a load at a register and an offset
abbrev pub load_of : ℕ → ℕ → ℕ → Option ℕ → Instr
load_of out base offset tag =
    placed 6 offset (x_register base ∷ None ∷ None ∷ None ∷ [])
    (x_register out ∷ None ∷ None ∷ []) tag

-- a store of a register at another, which is moved on
abbrev pub store_of : ℕ → ℕ → ℕ → Option ℕ → Instr
store_of value base step tag =
    placed 7 step (x_register value ∷ x_register base ∷ None ∷ None ∷ [])
    (x_register base ∷ None ∷ None ∷ []) tag
