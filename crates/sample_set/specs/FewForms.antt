-- A small instruction set of x registers, with a counter's steps, a load and a store: what the laws
-- of instruction sets ask for can be met. Source: DDI 0487, A64 base instructions.
use Rattle.std.specs.Prelude.{ℕ, ℤ, true, false, pos, ◌+◌, ◌-◌, ◌*◌, ◌/◌, ◌%◌, ◌^◌, ◌==◌, ◌&&◌, nat_lt, int_le, unsigned_abs, bit_xor, List, [], ◌∷◌, slice_index, slice_index_or, Option, None, Some, Err, if◌then◌else◌}
use Rattle.sl_model.specs.declared.register.Bank.TheVariants.{General}
use Rattle.sl_model.specs.declared.register.Reg.{Reg}
use Rattle.sl_model.specs.declared.register.RegSet.{RegSet}
use Rattle.sl_model.specs.declared.instruction.ArchName.TheVariants.{Arm64}
use Rattle.sl_model.specs.declared.instruction.Access.{Access}
use Rattle.sl_model.specs.declared.instruction.FormInfo.{FormInfo}
use Rattle.sl_model.specs.declared.instruction.Instr.{Instr}
use Rattle.sl_model.specs.Isa.{Isa}
use Rattle.sl_isa.specs.declared.arch.CounterOp.{CounterOp}
use Rattle.sl_isa.specs.declared.arch.CounterOp.TheVariants.{Sub, Subs, Lsr}
use Rattle.sl_isa.specs.declared.reasons.FormReason.TheVariants.{UnknownMnemonic}
use Rattle.sl_isa.specs.Steps.{flags_register}
use Rattle.sample_set.specs.declared.forms.Form.{Form}
use Rattle.sample_set.specs.declared.forms.Form.TheVariants.{AddRegisters, SubRegisters, EorRegisters, SubNumber, SubsNumber, LsrNumber, LoadHalf, StoreHalf}
use Rattle.sl_isa.specs.Language.{Language}

-- the form with a number
abbrev pub form_of : ℕ → Form
form_of number =
    if number == 0 then AddRegisters
    else (if number == 1 then SubRegisters
    else (if number == 2 then EorRegisters
    else (if number == 3 then SubNumber
    else (if number == 4 then SubsNumber
    else (if number == 5 then LsrNumber
    else (if number == 6 then LoadHalf else StoreHalf))))))

-- no register
abbrev pub nothing : RegSet
nothing = record { bits = 0 }

-- x0 to x30
abbrev pub x_registers : RegSet
x_registers = record { bits = 2 ^ 31 - 1 }

-- the flags
abbrev pub the_flags : RegSet
the_flags = record { bits = 2 ^ 64 }

-- a form without access
abbrev pub plain_info : RegSet → RegSet → FormInfo
plain_info second flags = record {
  class = 0;
  in_sets = x_registers ∷ second ∷ nothing ∷ nothing ∷ [];
  out_sets = x_registers ∷ flags ∷ nothing ∷ [];
  tied = None ∷ None ∷ None ∷ [];
  back = None;
  base = None;
  store = false;
  size = 0;
}

-- what the table says of each form: the load's base is its one operand; the store's is its second
-- one, which is written back
abbrev pub info_of : Form → FormInfo
info_of AddRegisters = plain_info x_registers nothing
info_of SubRegisters = plain_info x_registers nothing
info_of EorRegisters = plain_info x_registers nothing
info_of SubNumber = plain_info nothing nothing
info_of SubsNumber = plain_info nothing the_flags
info_of LsrNumber = plain_info nothing nothing
info_of LoadHalf = record (plain_info nothing nothing) { base = Some 0; size = 2 }
info_of StoreHalf = record (plain_info x_registers nothing) {
  tied = Some 1 ∷ None ∷ None ∷ [];
  back = Some 0;
  base = Some 1;
  store = true;
  size = 2;
}

-- the number of an instruction
abbrev pub number_in : List ℤ → ℕ
number_in imms = unsigned_abs (slice_index_or imms 0 (pos 0))

-- the value of an operand, as that of an x register
abbrev pub operand_in : List ℕ → ℕ → ℕ
operand_in ins place = slice_index ins place % 2 ^ 64

-- a number less another, in 64 bits
abbrev pub less : ℕ → ℕ → ℕ
less a b = (a + 2 ^ 64 - b) % 2 ^ 64

-- the flags N, Z, C, V of a number less one below 64
abbrev pub flags_of : ℕ → ℕ → ℕ
flags_of a n =
    (if nat_lt (less a n) (2 ^ 63) then 0 else 8) + (if less a n == 0 then 4 else 0)
    + (if nat_lt a n then 0 else 2)
    + (if nat_lt a (2 ^ 63) then 0 else (if nat_lt (less a n) (2 ^ 63) then 1 else 0))

-- the values of the outputs, from the instruction's number, its operands and the bytes that it
-- loads, the low one first
abbrev pub values_by : Form → ℕ → List ℕ → List ℕ → List ℕ
values_by AddRegisters n ins loaded = ((operand_in ins 0 + operand_in ins 1) % 2 ^ 64) ∷ []
values_by SubRegisters n ins loaded = less (operand_in ins 0) (operand_in ins 1) ∷ []
values_by EorRegisters n ins loaded = bit_xor (operand_in ins 0) (operand_in ins 1) ∷ []
values_by SubNumber n ins loaded = less (operand_in ins 0) n ∷ []
values_by SubsNumber n ins loaded = less (operand_in ins 0) n ∷ flags_of (operand_in ins 0) n ∷ []
values_by LsrNumber n ins loaded = (operand_in ins 0 / 2 ^ n) ∷ []
values_by LoadHalf n ins loaded = (slice_index loaded 0 + 256 * slice_index loaded 1) ∷ []
values_by StoreHalf n ins loaded = ((operand_in ins 1 + n) % 2 ^ 64) ∷ []

-- the bytes that are stored, the low one first
abbrev pub stored_by_form : Form → List ℕ → List ℕ
stored_by_form StoreHalf ins = (operand_in ins 0 % 256) ∷ (operand_in ins 0 / 256 % 256) ∷ []
stored_by_form _ ins = []

-- the offset of the load; the store's base is moved behind its access
abbrev pub offset_by : Form → ℕ → ℤ
offset_by LoadHalf n = pos n
offset_by _ n = pos 0

-- the access of an instruction with a number and these operands
abbrev pub access_by : Form → ℕ → List ℕ → Option Access
access_by LoadHalf n ins = Some (record { store = false; address = (operand_in ins 0 + n) % 2 ^ 64; size = 2 })
access_by StoreHalf n ins = Some (record { store = true; address = operand_in ins 1; size = 2 })
access_by _ n ins = None

-- the instruction set: eight forms, with numbers below 64
unfoldable pub few_isa : Isa
few_isa = record {
  name = Arm64;
  forms = 8;
  valid = λ o. nat_lt o.form 8 && (int_le (pos 0) (slice_index_or o.imms 0 (pos 0)) && nat_lt (number_in o.imms) 64);
  info = λ form. info_of (form_of form);
  offset = λ o. offset_by (form_of o.form) (number_in o.imms);
  values = λ o ins loaded. values_by (form_of o.form) (number_in o.imms) ins loaded;
  stored = λ o ins. stored_by_form (form_of o.form) ins;
}

-- the form and the number of a counter's step
abbrev pub step_form : CounterOp → ℕ
step_form (Sub number) = 3
step_form Subs = 4
step_form (Lsr by) = 5

-- the number that a counter's step goes down or is shifted by
abbrev pub step_number : CounterOp → ℕ
step_number (Sub number) = number
step_number Subs = 1
step_number (Lsr by) = by

-- the second output of a counter's step
abbrev pub step_flags : CounterOp → Option Reg
step_flags (Sub number) = None
step_flags Subs = Some flags_register
step_flags (Lsr by) = None

-- the instruction that makes a counter's step
unfoldable pub few_step : CounterOp → Reg → ℕ → Instr
few_step op counter line = record {
  form = step_form op;
  wide = false;
  imms = pos (step_number op) ∷ pos 0 ∷ pos 0 ∷ [];
  ins = Some counter ∷ None ∷ None ∷ None ∷ [];
  outs = Some counter ∷ step_flags op ∷ None ∷ [];
  tag = None;
  early = false;
  late = false;
  line = line;
}

-- The language of the example set, which has no words: nothing spells one of its instructions, and
-- they are printed as nothing.
unfoldable pub few : Language
few = record {
  isa = few_isa;
  pairs_in = λ words. [];
  reads = λ pairs words. Err UnknownMnemonic;
  printed = λ pairs i. [];
  step_of = few_step;
}

-- an x register
abbrev pub x_register : ℕ → Option Reg
x_register number = Some (record { bank = General; symbolic = false; number = number })

-- what the example of a form reads: x1, and x2 where it has a second operand
abbrev pub example_ins : Form → List (Option Reg)
example_ins AddRegisters = x_register 1 ∷ x_register 2 ∷ None ∷ None ∷ []
example_ins SubRegisters = x_register 1 ∷ x_register 2 ∷ None ∷ None ∷ []
example_ins EorRegisters = x_register 1 ∷ x_register 2 ∷ None ∷ None ∷ []
example_ins StoreHalf = x_register 1 ∷ x_register 2 ∷ None ∷ None ∷ []
example_ins _ = x_register 1 ∷ None ∷ None ∷ None ∷ []

-- what it writes: x3; the store moves x2 on
abbrev pub example_outs : Form → List (Option Reg)
example_outs SubsNumber = x_register 3 ∷ Some flags_register ∷ None ∷ []
example_outs StoreHalf = x_register 2 ∷ None ∷ None ∷ []
example_outs _ = x_register 3 ∷ None ∷ None ∷ []

-- an example of each form
abbrev pub example : ℕ → ℕ → Instr
example form number = record {
  form = form;
  wide = false;
  imms = pos number ∷ pos 0 ∷ pos 0 ∷ [];
  ins = example_ins (form_of form);
  outs = example_outs (form_of form);
  tag = None;
  early = false;
  late = false;
  line = 1;
}
