-- Armv7E-M as an instruction set: how its instructions are read and printed, and which of them make
-- a counter's steps. Source: this project's own format, over the forms of the document.
use Rattle.std.specs.Prelude.{ℕ}
use Rattle.sl_model.specs.declared.register.Reg.{Reg}
use Rattle.sl_model.specs.declared.instruction.Instr.{Instr}
use Rattle.sl_model.specs.declared.instruction.ArchName.TheVariants.{M4}
use Rattle.sl_isa.specs.declared.arch.CounterOp.{CounterOp}
use Rattle.sl_isa.specs.declared.arch.CounterOp.TheVariants.{Sub, Subs, Lsr}
use Rattle.sl_isa.specs.Language.{Language}
use Rattle.form_isa.specs.CounterSteps.{step_instr}
use Rattle.wide_forms.specs.Wide.{wide_language}
use Rattle.m4_table.specs.Document.{document}

-- the form of a counter's step: sub and subs of a register and a number, and lsr
abbrev pub step_form : CounterOp → ℕ
step_form (Sub number) = 14
step_form Subs = 30
step_form (Lsr by) = 94

-- the instruction that makes a counter's step
abbrev pub m4_step : CounterOp → Reg → ℕ → Instr
m4_step op counter line = step_instr (step_form op) op counter line

-- Armv7E-M: the language of the document, with `.w`
unfoldable pub m4 : Language
m4 = wide_language M4 document m4_step
