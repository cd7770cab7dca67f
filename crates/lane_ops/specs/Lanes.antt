-- Vector registers as lists of lanes, from the low end. Source: DDI 0487, A64
-- Advanced SIMD, Elem and Vpart.
use Rattle.std.specs.Prelude.{ℕ, ℤ, pos, ◌+◌, ◌-◌, ◌*◌, ◌/◌, ◌%◌, ◌^◌, ◌-ℤ◌, int_lt, zero, suc, List, [], ◌∷◌, unsigned_abs, if◌then◌else◌}
use Rattle.std.specs.Int.{int_rem_euclid}
use Rattle.sl_isa.specs.declared.meaning.Arrangement.{Arrangement}
use Rattle.sl_isa.specs.declared.meaning.Arrangement.TheVariants.{Bytes8, Bytes16, Halves4, Halves8, Words2, Words4, Doubles2}
use Rattle.sl_isa.specs.declared.meaning.Lane.{Lane}
use Rattle.sl_isa.specs.declared.meaning.Lane.TheVariants.{Byte, Half, Word, Double}
use Rattle.bit_ops.specs.Bits.{is_negative}

-- the bits of a lane of an arrangement
abbrev pub lane_bits : Arrangement → ℕ
lane_bits Bytes8 = 8
lane_bits Bytes16 = 8
lane_bits Halves4 = 16
lane_bits Halves8 = 16
lane_bits Words2 = 32
lane_bits Words4 = 32
lane_bits Doubles2 = 64

-- how many lanes an arrangement has
abbrev pub lane_count : Arrangement → ℕ
lane_count Bytes8 = 8
lane_count Bytes16 = 16
lane_count Halves4 = 4
lane_count Halves8 = 8
lane_count Words2 = 2
lane_count Words4 = 4
lane_count Doubles2 = 2

-- the bits of a lane by itself
abbrev pub bits_of : Lane → ℕ
bits_of Byte = 8
bits_of Half = 16
bits_of Word = 32
bits_of Double = 64

-- how many such lanes a whole register has
abbrev pub count_of : Lane → ℕ
count_of Byte = 16
count_of Half = 8
count_of Word = 4
count_of Double = 2

-- so many lanes of so many bits each, from the low end of a number
unfoldable pub lanes_of : ℕ → ℕ → ℕ → List ℕ
lanes_of bits zero x = []
lanes_of bits (suc count) x = x % 2 ^ bits ∷ lanes_of bits count (x / 2 ^ bits)

-- the number that lanes of so many bits make, of each its low bits
unfoldable pub joined : ℕ → List ℕ → ℕ
joined bits [] = 0
joined bits (lane ∷ lanes) = lane % 2 ^ bits + 2 ^ bits * joined bits lanes

-- one number in so many lanes
unfoldable pub repeated : ℕ → ℕ → List ℕ
repeated zero x = []
repeated (suc count) x = x ∷ repeated count x

-- a number of so many bits as a signed one
abbrev pub signed : ℕ → ℕ → ℤ
signed bits x = if is_negative bits x then pos x -ℤ pos (2 ^ bits) else pos x

-- the number nearest to a number among the signed ones of so many bits
abbrev pub saturated : ℕ → ℤ → ℤ
saturated bits z =
    if int_lt (pos (2 ^ (bits - 1)) -ℤ pos 1) z then pos (2 ^ (bits - 1)) -ℤ pos 1
    else (if int_lt z (pos 0 -ℤ pos (2 ^ (bits - 1))) then pos 0 -ℤ pos (2 ^ (bits - 1)) else z)

-- the low bits of a signed number
abbrev pub low_bits : ℕ → ℤ → ℕ
low_bits bits z = unsigned_abs (int_rem_euclid z (pos (2 ^ bits)))
