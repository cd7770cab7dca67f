-- The instruction that makes a step of a counter, where its form is known: each table has a form of
-- `sub` and one of `subs` of a register and a number, and one of `lsr` by a number. Source: this
-- project's own format.
use Rattle.std.specs.Prelude.{ℕ, pos, false, [], ◌∷◌, Option, None, Some}
use Rattle.sl_model.specs.declared.register.Reg.{Reg}
use Rattle.sl_model.specs.declared.instruction.Instr.{Instr}
use Rattle.sl_isa.specs.declared.arch.CounterOp.{CounterOp}
use Rattle.sl_isa.specs.declared.arch.CounterOp.TheVariants.{Sub, Subs, Lsr}
use Rattle.sl_isa.specs.Steps.{flags_register}

-- the number of a step
abbrev pub step_number : CounterOp → ℕ
step_number (Sub number) = number
step_number Subs = 1
step_number (Lsr by) = by

-- its second output
abbrev pub step_flags : CounterOp → Option Reg
step_flags (Sub number) = None
step_flags Subs = Some flags_register
step_flags (Lsr by) = None

-- the instruction of a form that makes a counter's step
unfoldable pub step_instr : ℕ → CounterOp → Reg → ℕ → Instr
step_instr form op counter line = record {
  form = form;
  wide = false;
  imms = pos (step_number op) ∷ pos 0 ∷ pos 0 ∷ [];
  ins = Some counter ∷ None ∷ None ∷ None ∷ [];
  outs = Some counter ∷ step_flags op ∷ None ∷ [];
  tag = None;
  early = false;
  late = false;
  line = line;
}
