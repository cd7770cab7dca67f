-- Sets of registers of the machine: the register classes of an instruction's operands, and the
-- registers that a region leaves or may write. Source: DDI 0487 (A64) and DDI 0403 (Armv7-M), the
-- register fields of encodings.
use Rattle.std.specs.Prelude.{ℕ, Bool, false, nat_lt, ◌+◌, ◌^◌, ◌==◌, ◌&&◌, not, bit_or, map, filter, List, [], ◌∷◌, ◌++◌, if◌then◌else◌}
use Rattle.std.specs.Int.{bit_at}
use Rattle.sl_model.specs.declared.register.Bank.{Bank}
use Rattle.sl_model.specs.declared.register.Bank.TheVariants.{General, Vector, Flags, Stack}
use Rattle.sl_model.specs.declared.register.Reg.{Reg}
use Rattle.sl_model.specs.declared.register.RegSet.{RegSet}
use Rattle.sl_model.specs.Source.{numbers_below}

-- the bit of a register in a set
abbrev pub bit_of : Bank → ℕ → ℕ
bit_of General number = number
bit_of Vector number = 32 + number
bit_of Flags number = 64
bit_of Stack number = 65

-- how many registers a bank has room for
abbrev pub bank_size : Bank → ℕ
bank_size General = 32
bank_size Vector = 32
bank_size Flags = 1
bank_size Stack = 1

-- Has the bank of a register one of its number?
abbrev pub is_in_bank : Reg → Bool
is_in_bank r = nat_lt r.number (bank_size r.bank)

-- Is a register one of the machine: not symbolic, and with a number that its bank has?
abbrev pub is_of_machine : Reg → Bool
is_of_machine r = not r.symbolic && is_in_bank r

-- Is a register in a set? One that isn't of the machine is in none.
unfoldable pub set_has : RegSet → Reg → Bool
set_has set r = not r.symbolic && (bit_at set.bits (bit_of r.bank r.number) == 1 && is_in_bank r)

-- a register beside those of a set, where it is of the machine
abbrev pub with_reg : Reg → RegSet → RegSet
with_reg r set = record {
  bits = if is_of_machine r then bit_or (2 ^ bit_of r.bank r.number) set.bits else set.bits;
}

-- the set of those registers that are of the machine
unfoldable pub set_of : List Reg → RegSet
set_of [] = record { bits = 0 }
set_of (r ∷ regs) = with_reg r (set_of regs)

-- how many sets have a register
unfoldable pub set_count : List RegSet → ℕ
set_count [] = 0
set_count (set ∷ sets) = (if set.bits == 0 then 0 else 1) + set_count sets

-- the registers of either of two sets
abbrev pub set_union : RegSet → RegSet → RegSet
set_union a b = record { bits = bit_or a.bits b.bits }

-- a register of the machine
abbrev pub machine_reg : Bank → ℕ → Reg
machine_reg bank number = record { bank = bank; symbolic = false; number = number }

-- the registers of a bank, ascending
abbrev pub bank_regs : Bank → List Reg
bank_regs bank = map (machine_reg bank) (numbers_below (bank_size bank))

-- the registers of the machine, by their bits in a set
unfoldable pub machine_regs : List Reg
machine_regs = bank_regs General ++ (bank_regs Vector ++ (bank_regs Flags ++ bank_regs Stack))

-- the registers of a set, by their bits: general ones, vector ones, the flags, the stack pointer
unfoldable pub regs_in : RegSet → List Reg
regs_in set = filter (set_has set) machine_regs
