-- An instruction set, as far as theorems speak of one. Source: DDI 0487 and DDI
-- 0403, whose pseudocode gives of each instruction its operands, its address, what
-- it computes and what it stores.
use Rattle.std.specs.Prelude.{ℕ, ℤ, Bool, pos, ◌+ℤ◌, List, unsigned_abs}
use Rattle.std.specs.Int.{int_rem_euclid}
use Rattle.sl_model.specs.declared.instruction.ArchName.{ArchName}
use Rattle.sl_model.specs.declared.instruction.FormInfo.{FormInfo}
use Rattle.sl_model.specs.declared.instruction.Instr.{Instr}

-- what an instruction does, its registers aside: its form, whether it has `.w`, and its numbers
pub record Op : Type 0 where
  pub form : ℕ
  pub wide : Bool
  pub imms : List ℤ

-- that of an instruction
abbrev pub op_of : Instr → Op
op_of i = record { form = i.form; wide = i.wide; imms = i.imms }

-- An instruction set: its forms, which of their instructions there are, and what each of them
-- does.
pub record Isa : Type 0 where
  -- the architecture that it is of
  pub name : ArchName
  -- how many forms there are, numbered from 0
  pub forms : ℕ
  -- Is there an instruction of this form with these numbers?
  pub valid : Op → Bool
  -- what the table says of a form
  pub info : ℕ → FormInfo
  -- the offset of an access, and 0 for a post-index form
  pub offset : Op → ℤ
  -- the values of the outputs, from those of the operands and the bytes that were loaded
  pub values : Op → List ℕ → List ℕ → List ℕ
  -- the bytes that are stored
  pub stored : Op → List ℕ → List ℕ

-- a base and an offset, as an address
unfoldable pub address_at : ℕ → ℕ → ℤ → ℕ
address_at space base offset = unsigned_abs (int_rem_euclid (pos base +ℤ offset) (pos space))
