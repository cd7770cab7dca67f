-- The machines: how many addresses there are, how wide registers are, and which of them count.
-- Source: DDI 0487 (A64) and DDI 0403 (Armv7-M).
use Rattle.std.specs.Prelude.{ℕ, Bool, ◌^◌, ◌==◌, ◌&&◌, ◌||◌, not, nat_lt}
use Rattle.sl_model.specs.declared.register.Bank.{Bank}
use Rattle.sl_model.specs.declared.register.Bank.TheVariants.{General, Vector, Flags, Stack}
use Rattle.sl_model.specs.declared.register.Reg.{Reg}
use Rattle.sl_model.specs.declared.instruction.ArchName.{ArchName}
use Rattle.sl_model.specs.declared.instruction.ArchName.TheVariants.{Arm64, M4}
use Rattle.sl_model.specs.Register.{bank_number}

-- how many addresses there are
abbrev pub space_of : ArchName → ℕ
space_of Arm64 = 2 ^ 64
space_of M4 = 2 ^ 32

-- how many values a register of a bank takes
abbrev pub limit_of : ArchName → Bank → ℕ
limit_of Arm64 General = 2 ^ 64
limit_of Arm64 Vector = 2 ^ 128
limit_of Arm64 Flags = 16
limit_of Arm64 Stack = 2 ^ 64
limit_of M4 General = 2 ^ 32
limit_of M4 Vector = 2 ^ 32
limit_of M4 Flags = 16
limit_of M4 Stack = 2 ^ 32

-- Is this the number of one of x0 to x30, or of r0 to r12 and lr?
abbrev pub counts : ArchName → ℕ → Bool
counts Arm64 number = nat_lt number 31
counts M4 number = nat_lt number 13 || number == 14

-- Can a register be the counter of a loop? It is a general register of the
-- machine, and not the zero register.
abbrev pub can_count : ArchName → Reg → Bool
can_count name r = bank_number r.bank == 0 && (not r.symbolic && counts name r.number)
