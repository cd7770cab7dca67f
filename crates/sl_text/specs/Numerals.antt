-- What code finds of a number, beside the most that is asked for.
use Rattle.std.specs.Prelude.{◌≡◌, ℕ, ◌<◌, ◌≤◌, nat_le, Option, None, Some, if◌then◌else◌}
use Rattle.sl_text.specs.declared.digits.Numeral.{Numeral}
use Rattle.sl_text.specs.declared.digits.Numeral.TheVariants.{Nothing, TooGreat, Number}

-- nothing where there is none, and no number where it is above the most
abbrev pub numeral_of : ℕ → Option ℕ → Numeral
numeral_of most None = Nothing
numeral_of most (Some n) = if nat_le n most then Number n else TooGreat

-- A number that is known where it isn't above the most.
abbrev pub IsUpTo : ℕ → Option ℕ → ℕ → Type 0
IsUpTo most None value = most < value
IsUpTo most (Some n) value = (n ≡ value) × (value ≤ most)
