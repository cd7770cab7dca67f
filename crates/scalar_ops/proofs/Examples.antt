-- Results of instructions on words and halves, worked out by hand from the manual's pseudocode; the
-- checker computes them from the definitions.
use Rattle.std.proofs.Common.{◌≡◌, ℕ, pos, ◌+◌, ◌-◌, ◌*◌, ◌^◌, List, [], ◌∷◌, true, false, refl}
use Rattle.sl_isa.specs.declared.meaning.Shift.TheVariants as shift
use Rattle.sl_isa.specs.declared.meaning.Second.TheVariants as second
use Rattle.bit_ops.specs.Bits.{extended}
use Rattle.sl_isa.specs.declared.meaning.LongAddend.TheVariants.{Nothing, Pair, Both}
use Rattle.sl_isa.specs.declared.meaning.WordOp.{WordOp}
use Rattle.sl_isa.specs.declared.meaning.WordOp.TheVariants as word
use Rattle.scalar_ops.specs.Scalar.{second_of}
use Rattle.scalar_ops.specs.Words.{word_values}

-- the word of a high and a low half
abbrev halves : ℕ → ℕ → ℕ
halves high low = high * 2 ^ 16 + low

-- a negative number as a word
abbrev minus : ℕ → ℕ
minus n = 2 ^ 32 - n

-- a negative number as a half
abbrev minus_half : ℕ → ℕ
minus_half n = 2 ^ 16 - n

-- what an instruction gives without numbers, and with one or two
abbrev gives : WordOp → List ℕ → List ℕ
gives op ins = word_values op [] ins

abbrev gives_by : WordOp → ℕ → List ℕ → List ℕ
gives_by op k ins = word_values op (pos k ∷ []) ins

abbrev field : ℕ → ℕ → ℕ → List ℕ
field x place count = word_values word.SignedField (pos place ∷ pos count ∷ []) (x ∷ [])

-- sbfx: eight bits of 0x80 and of 0x7f0, seven bits of the latter, the highest bit, and the whole
sbfx_byte : field 128 0 8 ≡ minus 128 ∷ []
unfolding word_values extended
sbfx_byte = refl

sbfx_positive : field 2032 4 8 ≡ 127 ∷ []
unfolding word_values extended
sbfx_positive = refl

sbfx_negative : field 2032 4 7 ≡ minus 1 ∷ []
unfolding word_values extended
sbfx_negative = refl

sbfx_sign : field (2 ^ 31) 31 1 ≡ minus 1 ∷ []
unfolding word_values extended
sbfx_sign = refl

sbfx_whole : field (2 ^ 31 + 5) 0 32 ≡ (2 ^ 31 + 5) ∷ []
unfolding word_values extended
sbfx_whole = refl

-- uxth and sxth of 0x18000 and of 0x17fff
uxth_high : gives (word.LowHalf false) (halves 1 32768 ∷ []) ≡ 32768 ∷ []
unfolding word_values
uxth_high = refl

sxth_negative : gives (word.LowHalf true) (halves 1 32768 ∷ []) ≡ minus 32768 ∷ []
unfolding word_values extended
sxth_negative = refl

sxth_positive : gives (word.LowHalf true) (halves 1 32767 ∷ []) ≡ 32767 ∷ []
unfolding word_values extended
sxth_positive = refl

-- movt keeps the low half
movt : gives_by word.ReplaceHigh 65535 (halves 1 2 ∷ []) ≡ halves 65535 2 ∷ []
unfolding word_values
movt = refl

-- umull and smull of 0xffffffff and 2
umull_two : gives (word.MultiplyPair false Nothing) (minus 1 ∷ 2 ∷ []) ≡ minus 2 ∷ 1 ∷ []
unfolding word_values
umull_two = refl

smull_two : gives (word.MultiplyPair true Nothing) (minus 1 ∷ 2 ∷ []) ≡ minus 2 ∷ minus 1 ∷ []
unfolding word_values extended
smull_two = refl

-- smlal: -1 times 1 and the number 2^32; it takes one from the high word
smlal_borrow : gives (word.MultiplyPair true Pair) (minus 1 ∷ 1 ∷ 0 ∷ 1 ∷ []) ≡ minus 1 ∷ 0 ∷ []
unfolding word_values extended
smlal_borrow = refl

-- umlal wraps at 64 bits
umlal_wraps : gives (word.MultiplyPair false Pair) (1 ∷ 1 ∷ minus 1 ∷ minus 1 ∷ []) ≡ 0 ∷ 0 ∷ []
unfolding word_values
umlal_wraps = refl

-- umaal of the greatest operands gives the greatest number of 64 bits
umaal_greatest : gives (word.MultiplyPair false Both) (minus 1 ∷ minus 1 ∷ minus 1 ∷ minus 1 ∷ []) ≡ minus 1 ∷ minus 1 ∷ []
unfolding word_values
umaal_greatest = refl

umaal_carry : gives (word.MultiplyPair false Both) (2 ^ 16 ∷ 2 ^ 16 ∷ minus 1 ∷ 2 ∷ []) ≡ 1 ∷ 2 ∷ []
unfolding word_values
umaal_carry = refl

-- smmulr: 3 * 2^30 is 0.75 of 2^32 and 2^31 half of it, both rounded up; -2^32 / 2 is rounded up too
smmulr_up : gives word.MultiplyHighRounded (3 ∷ 2 ^ 30 ∷ []) ≡ 1 ∷ []
unfolding word_values extended
smmulr_up = refl

smmulr_half : gives word.MultiplyHighRounded (2 ^ 30 ∷ 2 ∷ []) ≡ 1 ∷ []
unfolding word_values extended
smmulr_half = refl

smmulr_below : gives word.MultiplyHighRounded (2 ^ 30 ∷ 1 ∷ []) ≡ 0 ∷ []
unfolding word_values extended
smmulr_below = refl

smmulr_negative_half : gives word.MultiplyHighRounded (2 ^ 31 ∷ 1 ∷ []) ≡ 0 ∷ []
unfolding word_values extended
smmulr_negative_half = refl

smmulr_negative : gives word.MultiplyHighRounded (2 ^ 31 ∷ 3 ∷ []) ≡ minus 1 ∷ []
unfolding word_values extended
smmulr_negative = refl

smmulr_squared : gives word.MultiplyHighRounded (2 ^ 31 ∷ 2 ^ 31 ∷ []) ≡ 2 ^ 30 ∷ []
unfolding word_values extended
smmulr_squared = refl

-- smulbb, smulbt, smultb and smultt of the halves -3, 2 and 5, -7, the high ones first
abbrev n : ℕ
n = halves (minus_half 3) 2

abbrev m : ℕ
m = halves 5 (minus_half 7)

smulbb : gives (word.MultiplyHalves false false false) (n ∷ m ∷ []) ≡ minus 14 ∷ []
unfolding word_values extended
smulbb = refl

smulbt : gives (word.MultiplyHalves false true false) (n ∷ m ∷ []) ≡ 10 ∷ []
unfolding word_values extended
smulbt = refl

smultb : gives (word.MultiplyHalves true false false) (n ∷ m ∷ []) ≡ 21 ∷ []
unfolding word_values extended
smultb = refl

smultt : gives (word.MultiplyHalves true true false) (n ∷ m ∷ []) ≡ minus 15 ∷ []
unfolding word_values extended
smultt = refl

smultt_least : gives (word.MultiplyHalves true true false) (2 ^ 31 ∷ 2 ^ 31 ∷ []) ≡ 2 ^ 30 ∷ []
unfolding word_values extended
smultt_least = refl

-- smlatb adds, and smlabb wraps where the sum overflows
smlatb : gives (word.MultiplyHalves true false true) (n ∷ m ∷ minus 1 ∷ []) ≡ 20 ∷ []
unfolding word_values extended
smlatb = refl

smlabb_wraps : gives (word.MultiplyHalves false false true) (1 ∷ 1 ∷ (2 ^ 31 - 1) ∷ []) ≡ 2 ^ 31 ∷ []
unfolding word_values extended
smlabb_wraps = refl

-- smulwb: 2^16 times -7; -1 times 1, rounded down; and the least by the least
smulwb : gives (word.MultiplyByHalf false false) (2 ^ 16 ∷ m ∷ []) ≡ minus 7 ∷ []
unfolding word_values extended
smulwb = refl

smulwb_down : gives (word.MultiplyByHalf false false) (minus 1 ∷ 1 ∷ []) ≡ minus 1 ∷ []
unfolding word_values extended
smulwb_down = refl

smulwb_least : gives (word.MultiplyByHalf false false) (2 ^ 31 ∷ 2 ^ 15 ∷ []) ≡ 2 ^ 30 ∷ []
unfolding word_values extended
smulwb_least = refl

-- smulwt and smlawt take the high half
smulwt : gives (word.MultiplyByHalf true false) (3 * 2 ^ 16 ∷ m ∷ []) ≡ 15 ∷ []
unfolding word_values extended
smulwt = refl

smlawt : gives (word.MultiplyByHalf true true) (3 * 2 ^ 16 ∷ m ∷ minus 16 ∷ []) ≡ minus 1 ∷ []
unfolding word_values extended
smlawt = refl

-- smuad: 2 * -7 + -3 * 5; smuadx: 2 * 5 + -3 * -7; smuad of the least halves is 2^31
smuad : gives (word.MultiplyBothHalves false false) (n ∷ m ∷ []) ≡ minus 29 ∷ []
unfolding word_values extended
smuad = refl

smuadx : gives (word.MultiplyBothHalves true false) (n ∷ m ∷ []) ≡ 31 ∷ []
unfolding word_values extended
smuadx = refl

smuad_greatest : gives (word.MultiplyBothHalves false false) (halves 32768 32768 ∷ halves 32768 32768 ∷ []) ≡ 2 ^ 31 ∷ []
unfolding word_values extended
smuad_greatest = refl

smlad : gives (word.MultiplyBothHalves false true) (n ∷ m ∷ 30 ∷ []) ≡ 1 ∷ []
unfolding word_values extended
smlad = refl

smladx : gives (word.MultiplyBothHalves true true) (n ∷ m ∷ minus 31 ∷ []) ≡ 0 ∷ []
unfolding word_values extended
smladx = refl

-- pkhbt without shift and shifted by 16; pkhtb shifted by 16 and by 32, of a negative number
pkhbt : gives (word.Pack false second.Register) (halves 1 2 ∷ halves 3 4 ∷ []) ≡ halves 3 2 ∷ []
unfolding word_values second_of
pkhbt = refl

pkhbt_shifted : gives_by (word.Pack false (second.Shifted shift.Lsl)) 16 (halves 1 2 ∷ halves 3 4 ∷ []) ≡ halves 4 2 ∷ []
unfolding word_values second_of
pkhbt_shifted = refl

pkhtb_shifted : gives_by (word.Pack true (second.Shifted shift.Asr)) 16 (halves 1 2 ∷ halves 32769 4 ∷ []) ≡ halves 1 32769 ∷ []
unfolding word_values second_of extended
pkhtb_shifted = refl

pkhtb_sign : gives_by (word.Pack true (second.Shifted shift.Asr)) 32 (halves 1 2 ∷ halves 32769 4 ∷ []) ≡ halves 1 65535 ∷ []
unfolding word_values second_of extended
pkhtb_sign = refl

-- uadd16 and usub16: no carry goes from the low half to the high one
uadd16 : gives (word.AddHalves false) (halves 65535 65535 ∷ halves 2 1 ∷ []) ≡ halves 1 0 ∷ []
unfolding word_values
uadd16 = refl

usub16 : gives (word.AddHalves true) (halves 1 0 ∷ halves 1 1 ∷ []) ≡ halves 0 65535 ∷ []
unfolding word_values
usub16 = refl
