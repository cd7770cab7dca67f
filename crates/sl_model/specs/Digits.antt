-- Numbers by their digits. Source: the integers of GNU as, decimal or hexadecimal
-- behind `0x`. A zero before other decimal digits is refused here, since GNU as takes
-- such a number for an octal one.
use Rattle.std.specs.Prelude.{ℕ, ◌+◌, ◌*◌, ◌^◌, ◌==◌, ◌&&◌, ◌||◌, nat_lt, List, [], ◌∷◌, length, Option, None, Some, if◌then◌else◌}
use Rattle.std.specs.Char.{digit_value}
use Rattle.sl_model.specs.OptionSteps.{◌>>=◌}

-- the value of a digit of a radix; letters are of either case
abbrev pub digit_of : ℕ → ℕ → Option ℕ
digit_of radix c = if nat_lt (digit_value c) radix then Some (digit_value c) else None

-- the number that digits are: each counts as often as the radix to as many as stand behind it
unfoldable pub digits_number : ℕ → List ℕ → Option ℕ
digits_number radix [] = Some 0
digits_number radix (c ∷ text) = do
  digit ← digit_of radix c
  behind ← digits_number radix text
  Some (digit * radix ^ length text + behind)

-- the same of a text that has a digit
abbrev pub some_digits : ℕ → List ℕ → Option ℕ
some_digits radix [] = None
some_digits radix (c ∷ text) = digits_number radix (c ∷ text)

-- 0, where nothing stands behind its digit
abbrev pub zero_alone : List ℕ → Option ℕ
zero_alone [] = Some 0
zero_alone (c ∷ text) = None

-- a decimal number: no zero stands before other digits
unfoldable pub decimal_number : List ℕ → Option ℕ
decimal_number [] = None
decimal_number (c ∷ text) = if c == 48 then zero_alone text else digits_number 10 (c ∷ text)

-- a decimal number, or a hexadecimal one behind `0x`, where its first two characters are these
abbrev pub hex_or_decimal : ℕ → ℕ → List ℕ → Option ℕ
hex_or_decimal a b text =
    if a == 48 && (b == 120 || b == 88) then some_digits 16 text else decimal_number (a ∷ b ∷ text)

-- the number that a text spells
unfoldable pub spelled_number : List ℕ → Option ℕ
spelled_number [] = None
spelled_number (a ∷ []) = decimal_number (a ∷ [])
spelled_number (a ∷ b ∷ text) = hex_or_decimal a b text
