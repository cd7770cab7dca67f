-- What Armv7E-M computes with words of 32 bits and with their halves, as numbers. Source: DDI 0403,
-- the instructions of the DSP extension, and those on words that A64 has no like of. Signed
-- numbers are in two's complement.
use Rattle.std.specs.Prelude.{ℕ, ◌+◌, ◌-◌, ◌*◌, ◌/◌, ◌%◌, ◌^◌, Bool, true, false, not, List, [], ◌∷◌}
use Rattle.bit_ops.specs.Bits.{extended}
use Rattle.scalar_ops.specs.Scalar.{long_product}

-- a half of a word: the low or the high one
abbrev pub half : Bool → ℕ → ℕ
half false x = x % 2 ^ 16
half true x = x / 2 ^ 16 % 2 ^ 16

-- the word of two halves, the low one first
abbrev pub both_halves : ℕ → ℕ → ℕ
both_halves low high = low + 2 ^ 16 * high

-- the words of a number of 64 bits, the low one first
abbrev pub both_words : ℕ → List ℕ
both_words x = x % 2 ^ 32 ∷ x / 2 ^ 32 % 2 ^ 32 ∷ []

-- so many bits of a word from a place on, with copies of the highest of them above (sbfx)
abbrev pub signed_field : ℕ → ℕ → ℕ → ℕ
signed_field x place count = extended count (x / 2 ^ place % 2 ^ count) % 2 ^ 32

-- the low half of a word, with zeros above it (uxth) or with copies of its sign (sxth)
abbrev pub low_half : Bool → ℕ → ℕ
low_half false x = half false x
low_half true x = extended 16 (half false x) % 2 ^ 32

-- a word with another high half, the low half of a number (movt)
abbrev pub with_high : ℕ → ℕ → ℕ
with_high x high = both_halves (half false x) (half false high)

-- the product of two signed halves, as a word (smulbb and its kin)
abbrev pub product_of_halves : ℕ → ℕ → ℕ
product_of_halves n m = extended 16 n * extended 16 m % 2 ^ 32

-- the bits 47 to 16 of the product of a signed word and a signed half (smulwb, smulwt)
abbrev pub product_by_half : ℕ → ℕ → ℕ
product_by_half n m = extended 32 n * extended 16 m % 2 ^ 48 / 2 ^ 16

-- the product of the low halves of two words and that of their high halves, added (smuad); with the
-- halves of the second word exchanged (smuadx)
abbrev pub sum_of_products : Bool → ℕ → ℕ → ℕ
sum_of_products crossed n m =
    product_of_halves (half false n) (half crossed m)
    + product_of_halves (half true n) (half (not crossed) m)

-- the bits 63 to 32 of the product of two signed words, rounded to the nearest (smmulr)
abbrev pub rounded_product : ℕ → ℕ → ℕ
rounded_product n m = (long_product true n m + 2 ^ 31) % 2 ^ 64 / 2 ^ 32

-- the low half of the first word with the high half of the second one (pkhbt); the high half of the
-- first one with the low half of the second one (pkhtb)
abbrev pub packed : Bool → ℕ → ℕ → ℕ
packed false n m = both_halves (half false n) (half true m)
packed true n m = both_halves (half false m) (half true n)

-- the sum of two halves, or their difference, as a half
abbrev pub half_sum : Bool → ℕ → ℕ → ℕ
half_sum false n m = (n + m) % 2 ^ 16
half_sum true n m = (n + 2 ^ 16 - m) % 2 ^ 16

-- the same of both halves of two words (uadd16, sadd16, usub16, ssub16)
abbrev pub sums_of_halves : Bool → ℕ → ℕ → ℕ
sums_of_halves minus n m =
    both_halves (half_sum minus (half false n) (half false m))
    (half_sum minus (half true n) (half true m))
