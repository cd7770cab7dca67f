-- Numbers as instructions spell them.
use Rattle.std.specs.Prelude.{ℕ, ◌^◌, nat_lt, List, Option, Some, if◌then◌else◌}
use Rattle.sl_model.specs.OptionSteps.{◌>>=◌}
use Rattle.sl_model.specs.Digits.{decimal_number, spelled_number}

-- a number, where 2^32 stands for itself and all above it, which no instruction takes
abbrev pub capped : ℕ → ℕ
capped n = if nat_lt n (2 ^ 32) then n else 2 ^ 32

-- a decimal number
unfoldable pub decimal_value : List ℕ → Option ℕ
decimal_value text = do
  n ← decimal_number text
  Some (capped n)

-- a number, which may be hexadecimal
unfoldable pub number_value : List ℕ → Option ℕ
number_value text = do
  n ← spelled_number text
  Some (capped n)
