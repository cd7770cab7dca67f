-- AArch64 as an instruction set: how its instructions are read and printed, and which of them make
-- a counter's steps. Source: this project's own format, over the forms of the document.
use Rattle.std.specs.Prelude.{ℕ}
use Rattle.sl_model.specs.declared.register.Reg.{Reg}
use Rattle.sl_model.specs.declared.instruction.Instr.{Instr}
use Rattle.sl_model.specs.declared.instruction.ArchName.TheVariants.{Arm64}
use Rattle.sl_isa.specs.declared.arch.CounterOp.{CounterOp}
use Rattle.sl_isa.specs.declared.arch.CounterOp.TheVariants.{Sub, Subs, Lsr}
use Rattle.sl_isa.specs.Language.{Language}
use Rattle.form_isa.specs.CounterSteps.{step_instr}
use Rattle.form_isa.specs.TableIsa.{table_language}
use Rattle.arm64_table.specs.Document.{document}

-- the form of a counter's step: sub and subs of an X register and a
-- number, and lsr of an X register
abbrev pub step_form : CounterOp → ℕ
step_form (Sub number) = 20
step_form Subs = 44
step_form (Lsr by) = 122

-- the instruction that makes a counter's step
abbrev pub arm64_step : CounterOp → Reg → ℕ → Instr
arm64_step op counter line = step_instr (step_form op) op counter line

-- AArch64: the language of the document
unfoldable pub arm64 : Language
arm64 = table_language Arm64 document arm64_step
