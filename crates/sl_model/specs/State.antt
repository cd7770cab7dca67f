-- Machine states. Source: DDI 0487 and DDI 0403, registers and memory.
use Rattle.std.specs.Prelude.{ℕ, Bool, ◌+◌, ◌%◌, ◌==◌, ◌&&◌, not, zero, suc, List, [], ◌∷◌, unwrap_or, if◌then◌else◌}
use Rattle.std.specs.Ordering.{nat_cmp}
use Rattle.std.specs.Cmp.Lexicographic.{slice_cmp}
use Rattle.std.specs.FinMap.{FinMap, get, insert}
use Rattle.sl_model.specs.declared.register.Reg.{Reg}
use Rattle.sl_model.specs.Register.{bank_number}

-- a register as a key: its bank, whether it is symbolic, and its number
abbrev pub reg_key : Reg → List ℕ
reg_key r = bank_number r.bank ∷ (if r.symbolic then 1 else 0) ∷ r.number ∷ []

-- A state: the registers that were set or written, with their values, and the bytes of
-- memory that were set or written.
pub record State : Type 0 where
  pub regs : FinMap (slice_cmp nat_cmp) ℕ
  pub memory : FinMap nat_cmp ℕ

-- Is this the zero register of AArch64?
abbrev pub is_zero : Reg → Bool
is_zero r = bank_number r.bank == 0 && (not r.symbolic && r.number == 31)

-- the value of a register: 0 where it was never set, and that of the zero register is 0
unfoldable pub read : State → Reg → ℕ
read s r = if is_zero r then 0 else unwrap_or (get s.regs (reg_key r)) 0

-- a state in which a register has a value
unfoldable pub write : Reg → ℕ → State → State
write r value s = record { regs = insert s.regs (reg_key r) value; memory = s.memory }

-- the byte at an address of a memory: 0 where it was never set
unfoldable pub byte : FinMap nat_cmp ℕ → ℕ → ℕ
byte memory address = unwrap_or (get memory address) 0

-- a memory with a byte at an address
unfoldable pub put : ℕ → ℕ → FinMap nat_cmp ℕ → FinMap nat_cmp ℕ
put address value memory = insert memory address value

-- Values go to registers one after the other.
unfoldable pub write_all : List Reg → List ℕ → State → State
write_all [] values s = s
write_all (r ∷ regs) [] s = s
write_all (r ∷ regs) (value ∷ values) s = write_all regs values (write r value s)

-- so many bytes from an address on; addresses are taken modulo the size of the address space
unfoldable pub load : ℕ → FinMap nat_cmp ℕ → ℕ → ℕ → List ℕ
load space memory address zero = []
load space memory address (suc size) =
    byte memory (address % space) ∷ load space memory (address + 1) size

-- Bytes go to memory from an address on.
unfoldable pub store : ℕ → ℕ → List ℕ → FinMap nat_cmp ℕ → FinMap nat_cmp ℕ
store space address [] memory = memory
store space address (b ∷ bytes) memory =
    store space (address + 1) bytes (put (address % space) b memory)
