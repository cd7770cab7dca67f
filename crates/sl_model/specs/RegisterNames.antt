-- The registers of a machine, and their names. Source: the register names of DDI
-- 0487 (A64) and DDI 0403 (Armv7-M).
use Rattle.std.specs.Prelude.{ℕ, zero, suc, false, ◌+◌, ◌==◌, List, [], ◌∷◌, ◌++◌, codes, find, Option, if◌then◌else◌}
use Rattle.std.specs.Str.{bytes_eq}
use Rattle.std.specs.Fmt.{decimal}
use Rattle.sl_model.specs.declared.register.Bank.{Bank}
use Rattle.sl_model.specs.declared.register.Bank.TheVariants.{General, Vector, Flags, Stack}
use Rattle.sl_model.specs.declared.register.Reg.{Reg}
use Rattle.sl_model.specs.declared.instruction.ArchName.{ArchName}
use Rattle.sl_model.specs.declared.instruction.ArchName.TheVariants.{Arm64, M4}

-- the register of a bank with a number
abbrev pub register_in : Bank → ℕ → Reg
register_in bank number = record { bank = bank; symbolic = false; number = number }

-- so many registers of a bank, from a number on
unfoldable pub registers_from : Bank → ℕ → ℕ → List Reg
registers_from bank first zero = []
registers_from bank first (suc count) =
    register_in bank first ∷ registers_from bank (first + 1) count

-- its general registers: x0 to x30, or r0 to r12 and lr
unfoldable pub general_registers : ArchName → List Reg
general_registers Arm64 = registers_from General 0 31
general_registers M4 = registers_from General 0 13 ++ registers_from General 14 1

-- the stack pointer, the vector registers and the flags
unfoldable pub other_registers : List Reg
other_registers =
    registers_from Stack 0 1 ++ (registers_from Vector 0 32 ++ registers_from Flags 0 1)

-- all its registers, in the order in which they are printed
abbrev pub machine_registers : ArchName → List Reg
machine_registers arch = general_registers arch ++ other_registers

-- the name of the register of a bank with a number: x, sp and v, or r, lr, sp and s, and the flags
unfoldable pub name_in : ArchName → Bank → ℕ → List ℕ
name_in Arm64 General number = codes "x" ++ decimal number
name_in Arm64 Vector number = codes "v" ++ decimal number
name_in Arm64 Flags number = codes "nzcv"
name_in Arm64 Stack number = codes "sp"
name_in M4 General number = if number == 14 then codes "lr" else codes "r" ++ decimal number
name_in M4 Vector number = codes "s" ++ decimal number
name_in M4 Flags number = codes "nzcv"
name_in M4 Stack number = codes "sp"

-- the name of a register
abbrev pub name_of : ArchName → Reg → List ℕ
name_of arch r = name_in arch r.bank r.number

-- the register among some that a word names
unfoldable pub named_among : ArchName → List ℕ → List Reg → Option Reg
named_among arch word regs = find (λ r. bytes_eq (name_of arch r) word) regs

-- the register of a machine that a word names
abbrev pub register_named : ArchName → List ℕ → Option Reg
register_named arch word = named_among arch word (machine_registers arch)
