-- Registers. Source: the register files of DDI 0487 (A64) and DDI 0403 (Armv7-M).
use Rattle.std.specs.Prelude.{ℕ, Bool, true, false, ◌&&◌, ◌==◌}
use Rattle.sl_model.specs.declared.register.Bank.{Bank}
use Rattle.sl_model.specs.declared.register.Bank.TheVariants.{General, Vector, Flags, Stack}
use Rattle.sl_model.specs.declared.register.Reg.{Reg}

-- the number of a bank
abbrev pub bank_number : Bank → ℕ
bank_number General = 0
bank_number Vector = 1
bank_number Flags = 2
bank_number Stack = 3

-- Are two tests answered alike?
abbrev pub same_bool : Bool → Bool → Bool
same_bool true true = true
same_bool false false = true
same_bool true false = false
same_bool false true = false

-- Are these two names of one register?
unfoldable pub same_reg : Reg → Reg → Bool
same_reg a b =
    bank_number a.bank == bank_number b.bank
    && (same_bool a.symbolic b.symbolic && (a.number == b.number))
