-- Which instructions an instruction set has, and what is asked of it. Source: DDI 0487 and DDI
-- 0403, the operands that an encoding allows, and the widths of registers and addresses.
use Rattle.std.specs.Prelude.{ℕ, Bool, true, false, pos, ◌/◌, ◌%◌, ◌^◌, ◌==◌, nat_lt, ◌<◌, ◌≤◌, ◌≡◌, ◌≤ℤ◌, ◌+ℤ◌, List, length, filter, slice_get, Option, None, Some, is_some, option_and_then, if◌then◌else◌}
use Rattle.std.specs.List.{list_all, list_any, zip}
use Rattle.sl_model.specs.declared.register.Bank.{Bank}
use Rattle.sl_model.specs.declared.register.Bank.TheVariants.{General, Vector, Flags, Stack}
use Rattle.sl_model.specs.declared.register.Reg.{Reg}
use Rattle.sl_model.specs.declared.register.RegSet.{RegSet}
use Rattle.sl_model.specs.declared.instruction.Instr.{Instr}
use Rattle.sl_model.specs.declared.instruction.FormInfo.{FormInfo}
use Rattle.sl_model.specs.Register.{same_reg}
use Rattle.sl_model.specs.RegSets.{set_has, set_count}
use Rattle.sl_model.specs.Source.{operands, outputs, padded, item_at}
use Rattle.sl_model.specs.Machine.{limit_of}
use Rattle.sl_model.specs.Isa.{Isa, Op, op_of}
use Rattle.sl_model.specs.Exec.{has_access, is_load, is_store}
use Rattle.sl_model.specs.Body.{all_differ}

-- the zero register of AArch64
abbrev pub zero_register : Reg
zero_register = record { bank = General; symbolic = false; number = 31 }

-- the bits of a set that are those of a bank
abbrev pub bank_bits : Bank → RegSet → ℕ
bank_bits General set = set.bits % 2 ^ 32
bank_bits Vector set = set.bits / 2 ^ 32 % 2 ^ 32
bank_bits Flags set = set.bits / 2 ^ 64 % 2
bank_bits Stack set = set.bits / 2 ^ 65 % 2

-- Has a set a register of a bank?
abbrev pub is_of_bank : Bank → RegSet → Bool
is_of_bank bank set = nat_lt 0 (bank_bits bank set)

-- May a register stand where a form takes those of a set? A symbolic register
-- may where one of its bank may.
abbrev pub suits_set : Reg × RegSet → Bool
suits_set (r, set) = if r.symbolic then is_of_bank r.bank set else set_has set r

-- Is there a register, and is it this one?
abbrev pub is_some_reg : Option Reg → Reg → Bool
is_some_reg None r = false
is_some_reg (Some q) r = same_reg q r

-- Does a register stand at a place of a list?
abbrev pub is_reg_at : List Reg → ℕ → Reg → Bool
is_reg_at regs k r = is_some_reg (slice_get regs k) r

-- Is an output that is tied to an operand in the register of that operand?
abbrev pub is_tied_to : List Reg → Reg × Option ℕ → Bool
is_tied_to ins (r, None) = true
is_tied_to ins (r, Some operand) = is_reg_at ins operand r

-- Is an element of a list, if there is one, like no other of them?
abbrev pub is_alone : {X : Type 0} → (X → X → Bool) → List X → Option X → Bool
is_alone same xs None = true
is_alone same xs (Some x) = length (filter (same x) xs) == 1

-- Is a base that a form writes back like no other operand, where the operands are these?
abbrev pub is_base_alone : {X : Type 0} → (X → X → Bool) → FormInfo → List X → Bool
is_base_alone same info xs =
    if is_some info.back then is_alone same xs (option_and_then (slice_get xs) info.base) else true

-- Does an access that writes its base back have its base in a register of its own? The data that
-- it loads are outputs, which differ from the new base anyway.
abbrev pub is_base_apart : FormInfo → Instr → Bool
is_base_apart info i = is_base_alone same_reg info (operands i)

-- An instruction of an instruction set: there is its form with its numbers; it has a register
-- for each operand and each output, of their classes; its outputs differ; tied outputs are
-- in the registers of their operands; and a base that is written back is in no data's.
pub record IsValid (isa : Isa) (i : Instr) : Type 0 where
  pub op : isa.valid (op_of i) ≡ true
  pub ins_shape : i.ins ≡ padded 4 (operands i)
  pub outs_shape : i.outs ≡ padded 3 (outputs i)
  pub operand_count : length (operands i) ≡ set_count (isa.info i.form).in_sets
  pub output_count : length (outputs i) ≡ set_count (isa.info i.form).out_sets
  pub operand_classes : list_all suits_set (zip (operands i) (isa.info i.form).in_sets) ≡ true
  pub output_classes : list_all suits_set (zip (outputs i) (isa.info i.form).out_sets) ≡ true
  pub distinct : all_differ (outputs i) ≡ true
  pub tied : list_all (is_tied_to (operands i)) (zip (outputs i) (isa.info i.form).tied) ≡ true
  pub base_apart : is_base_apart (isa.info i.form) i ≡ true

-- All instructions of a list are ones of the set.
abbrev pub AreValid : Isa → List Instr → Type 0
AreValid isa items = (p : ℕ) → p < length items → IsValid isa (item_at items p)

-- Do values fit the banks of registers?
abbrev pub fit : Isa → List Reg → List ℕ → Bool
fit isa regs values = list_all (λ x. nat_lt x.1 (limit_of isa.name x.0.bank)) (zip regs values)

-- Are these bytes?
abbrev pub are_bytes : List ℕ → Bool
are_bytes bytes = list_all (λ b. nat_lt b 256) bytes

-- how many bytes a form loads
abbrev pub load_size : Isa → ℕ → ℕ
load_size isa form = if is_load (isa.info form) then (isa.info form).size else 0

-- there is a number, below a limit
abbrev pub IsBelow : Option ℕ → ℕ → Type 0
IsBelow None limit = ⊥
IsBelow (Some k) limit = k < limit

-- What is asked of an instruction set.
pub record IsLawful (isa : Isa) : Type 0 where
  -- each instruction is of a form of the table
  pub known : (o : Op) → isa.valid o ≡ true → o.form < isa.forms
  -- accesses are small, and so are offsets
  pub sizes : (form : ℕ) → (isa.info form).size ≤ 32
  pub offset_low : (o : Op) → isa.valid o ≡ true → pos 0 ≤ℤ (isa.offset o +ℤ pos (2 ^ 20))
  pub offset_high : (o : Op) → isa.valid o ≡ true → isa.offset o ≤ℤ pos (2 ^ 20)
  -- no form writes the zero register
  pub writable : (form : ℕ)
      → list_any (λ set. set_has set zero_register) (isa.info form).out_sets ≡ false
  -- a form with an access has a base among its operands
  pub base : (form : ℕ) → has_access (isa.info form) ≡ true
      → IsBelow (isa.info form).base (set_count (isa.info form).in_sets)
  -- there is a value for each output, and it fits its register
  pub value_count : (i : Instr) (ins loaded : List ℕ) → IsValid isa i
      → length ins ≡ length (operands i) → length loaded ≡ load_size isa i.form
      → length (isa.values (op_of i) ins loaded) ≡ length (outputs i)
  pub values_fit : (i : Instr) (ins loaded : List ℕ) → IsValid isa i
      → length ins ≡ length (operands i) → length loaded ≡ load_size isa i.form
      → fit isa (operands i) ins ≡ true → are_bytes loaded ≡ true
      → fit isa (outputs i) (isa.values (op_of i) ins loaded) ≡ true
  -- a store stores as many bytes as its access has
  pub stored_count : (i : Instr) (ins : List ℕ) → IsValid isa i → is_store (isa.info i.form) ≡ true
      → length ins ≡ length (operands i)
      → length (isa.stored (op_of i) ins) ≡ (isa.info i.form).size
  -- and they are bytes
  pub stored_fit : (i : Instr) (ins : List ℕ) → IsValid isa i → is_store (isa.info i.form) ≡ true
      → length ins ≡ length (operands i) → are_bytes (isa.stored (op_of i) ins) ≡ true
