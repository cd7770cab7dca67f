-- The greatest values of Armv7E-M fit their registers, and its instructions have known forms.
use Rattle.std.proofs.Common.{◌≡◌, ℕ, ◌^◌, ◌<◌, lit<}
use Rattle.sl_model.specs.declared.register.Bank.{Bank}
use Rattle.sl_model.specs.declared.register.Bank.TheVariants.{General, Vector, Flags, Stack}
use Rattle.sl_model.specs.declared.instruction.Instr.{Instr}
use Rattle.sl_model.specs.Isa.{op_of}
use Rattle.sl_model.specs.Lawful.{IsValid}
use Rattle.sl_model.specs.Machine.{limit_of, space_of}
use Rattle.form_isa.specs.TableIsa.{table_isa}
use Rattle.wide_forms.specs.Wide.{wide_isa, wide_language}
use Rattle.m4_table.specs.M4.{m4}
use Rattle.m4_table.specs.Laws.{m4_lawful}

pub general : 4294967295 < limit_of m4.isa.name General
unfolding m4 wide_language wide_isa table_isa
general = lit< tt

pub vector : 4294967295 < limit_of m4.isa.name Vector
unfolding m4 wide_language wide_isa table_isa
vector = lit< tt

pub stack : 4294967295 < limit_of m4.isa.name Stack
unfolding m4 wide_language wide_isa table_isa
stack = lit< tt

pub flags : 15 < limit_of m4.isa.name Flags
unfolding m4 wide_language wide_isa table_isa
flags = lit< tt

pub addressed : (address : ℕ) → address < 2 ^ 32 → address < space_of m4.isa.name
unfolding m4 wide_language wide_isa table_isa
addressed address h = h

pub is_known : (i : Instr) → IsValid m4.isa i → i.form < m4.isa.forms
is_known i v = m4_lawful.set.known (op_of i) v.op
