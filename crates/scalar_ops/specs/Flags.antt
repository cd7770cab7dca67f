-- The flags N, Z, C, V, as a number of four bits with N the highest, and conditions on them.
-- Source: DDI 0487, AddWithCarry and ConditionHolds; the same in DDI 0403.
use Rattle.std.specs.Prelude.{ℕ, ◌+◌, ◌-◌, ◌*◌, ◌/◌, ◌%◌, ◌^◌, ◌==◌, Bool, false, not, if◌then◌else◌}
use Rattle.bit_ops.specs.Bits.{is_negative}

-- 1 where something holds, else 0
abbrev pub one_if : Bool → ℕ
one_if b = if b then 1 else 0

-- Is N set?
abbrev pub flag_n : ℕ → Bool
flag_n flags = flags / 8 % 2 == 1

-- Is Z set?
abbrev pub flag_z : ℕ → Bool
flag_z flags = flags / 4 % 2 == 1

-- Is C set?
abbrev pub flag_c : ℕ → Bool
flag_c flags = flags / 2 % 2 == 1

-- Is V set?
abbrev pub flag_v : ℕ → Bool
flag_v flags = flags % 2 == 1

-- Are two tests answered alike?
abbrev pub same : Bool → Bool → Bool
same a b = if a then b else not b

-- the sum of two numbers of so many bits and a carry
abbrev pub sum : ℕ → ℕ → ℕ → ℕ → ℕ
sum bits x y carry = (x + y + carry) % 2 ^ bits

-- Have both numbers one sign, and the sum the other?
abbrev pub overflows : ℕ → ℕ → ℕ → ℕ → Bool
overflows bits x y total =
    if same (is_negative bits x) (is_negative bits y)
    then not (same (is_negative bits x) (is_negative bits total))
    else false

-- the flags of a sum, where it is known
abbrev pub flags_with : ℕ → ℕ → ℕ → ℕ → ℕ → ℕ
flags_with bits x y carry total =
    8 * one_if (is_negative bits total) + 4 * one_if (total == 0)
    + 2 * ((x + y + carry) / 2 ^ bits % 2) + one_if (overflows bits x y total)

-- the flags of the sum of two numbers of so many bits and a carry: C is the carry out, and V says
-- that the sum overflows
unfoldable pub sum_flags : ℕ → ℕ → ℕ → ℕ → ℕ
sum_flags bits x y carry = flags_with bits x y carry (sum bits x y carry)

-- a number of so many bits with each bit turned round
abbrev pub complement : ℕ → ℕ → ℕ
complement bits y = 2 ^ bits - 1 - y

-- The conditions: eq, ne, cs, cc, mi, pl, vs, vc, hi, ls, ge, lt, gt, le, numbered from 0. Each odd
-- one is the opposite of the one before it.

-- Does the even condition hold that has twice this number?
abbrev pub even_condition : ℕ → ℕ → Bool
even_condition kind flags =
    if kind == 0 then flag_z flags
    else (if kind == 1 then flag_c flags
    else (if kind == 2 then flag_n flags
    else (if kind == 3 then flag_v flags
    else (if kind == 4 then (if flag_c flags then not (flag_z flags) else false)
    else (if kind == 5 then same (flag_n flags) (flag_v flags)
    else (if same (flag_n flags) (flag_v flags) then not (flag_z flags) else false))))))

-- Does a condition hold for these flags?
unfoldable pub condition_holds : ℕ → ℕ → Bool
condition_holds condition flags =
    if condition % 2 == 1 then not (even_condition (condition / 2) flags)
    else even_condition (condition / 2) flags
