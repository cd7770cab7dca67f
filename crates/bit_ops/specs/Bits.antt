-- Operands and numbers of instructions, and numbers of so many bits as signed ones.
use Rattle.std.specs.Prelude.{ℕ, ℤ, Bool, pos, ◌+◌, ◌-◌, ◌^◌, nat_le, List, slice_index_or, unsigned_abs, if◌then◌else◌}

-- the number of an instruction at a place, and 0 where it has fewer
abbrev pub number : List ℤ → ℕ → ℕ
number imms place = unsigned_abs (slice_index_or imms place (pos 0))

-- Is a number of so many bits negative in two's complement: is its highest bit set?
abbrev pub is_negative : ℕ → ℕ → Bool
is_negative bits x = nat_le (2 ^ (bits - 1)) x

-- a number of so many bits, in two's complement of 128 bits: copies of its sign stand above it
unfoldable pub extended : ℕ → ℕ → ℕ
extended bits x = if is_negative bits x then x + 2 ^ 128 - 2 ^ bits else x
