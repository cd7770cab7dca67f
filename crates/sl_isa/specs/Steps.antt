-- The steps of a loop's counter. Source: DDI 0487 (A64) and DDI 0403 (Armv7-M), `sub`, `subs` and
-- `lsr` of a register and a number.
use Rattle.std.specs.Prelude.{ℕ, false, ◌+◌, ◌-◌, ◌/◌, ◌%◌, ◌^◌, ◌<◌, ◌≤◌, ◌≡◌, List, [], ◌∷◌, slice_index, None}
use Rattle.sl_model.specs.declared.register.Reg.{Reg}
use Rattle.sl_model.specs.declared.register.Bank.TheVariants.{Flags}
use Rattle.sl_model.specs.declared.instruction.Instr.{Instr}
use Rattle.sl_model.specs.Source.{operands, outputs}
use Rattle.sl_model.specs.Machine.{limit_of}
use Rattle.sl_model.specs.Isa.{Isa, op_of}
use Rattle.sl_model.specs.Exec.{has_access}
use Rattle.sl_model.specs.Lawful.{IsValid}
use Rattle.sl_isa.specs.declared.arch.CounterOp.{CounterOp}
use Rattle.sl_isa.specs.declared.arch.CounterOp.TheVariants.{Sub, Subs, Lsr}

-- The steps of a counter: less 1 or 2, less 1 with flags, and shifted right by 1 to 3.
abbrev pub IsStep : CounterOp → Type 0
IsStep (Sub number) = (1 ≤ number) × (number ≤ 2)
IsStep Subs = Unit {0}
IsStep (Lsr by) = (1 ≤ by) × (by ≤ 3)

-- the value of a counter that takes so many values, after a step
abbrev pub stepped : CounterOp → ℕ → ℕ → ℕ
stepped (Sub number) limit value = (value + limit - number) % limit
stepped Subs limit value = (value + limit - 1) % limit
stepped (Lsr by) limit value = value / 2 ^ by

-- the register of the flags
abbrev pub flags_register : Reg
flags_register = record { bank = Flags; symbolic = false; number = 0 }

-- the registers that the step of a counter writes
abbrev pub step_outputs : CounterOp → Reg → List Reg
step_outputs (Sub number) counter = counter ∷ []
step_outputs Subs counter = counter ∷ flags_register ∷ []
step_outputs (Lsr by) counter = counter ∷ []

-- An instruction makes a step of a counter: it is one of the set without access and tag, neither
-- early nor late, and stands on a line; it reads the counter, and writes it, and the flags where it
-- is `subs`; and the counter's new value is the stepped one.
pub record Steps (isa : Isa) (op : CounterOp) (counter : Reg) (line : ℕ) (i : Instr) : Type 0 where
  pub valid : IsValid isa i
  pub plain : (i.tag ≡ None) × (i.early ≡ false) × (i.late ≡ false) × (i.line ≡ line)
  pub no_access : has_access (isa.info i.form) ≡ false
  pub reads : operands i ≡ counter ∷ []
  pub writes : outputs i ≡ step_outputs op counter
  pub value : (n : ℕ) → n < limit_of isa.name counter.bank
      → slice_index (isa.values (op_of i) (n ∷ []) []) 0
      ≡ stepped op (limit_of isa.name counter.bank) n
