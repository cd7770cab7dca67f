-- What instructions on words of 32 bits give: as many values as they have outputs, each a word.
use Rattle.std.proofs.Common.{◌≡◌, refl, ℕ, ℤ, ◌+◌, ◌/◌, ◌%◌, ◌^◌, ◌<◌, Bool, true, false, List, length, slice_index, arith, lit<}
use Rattle.std.proofs.lemmas.Nat.{pow_pos, mod_below, shr_below}
use Rattle.sl_isa.specs.declared.meaning.WordOp.{WordOp}
use Rattle.sl_isa.specs.declared.meaning.WordOp.TheVariants as word
use Rattle.scalar_ops.specs.Scalar.{long_product}
use Rattle.scalar_ops.specs.Halves.{half, both_halves, low_half, rounded_product, packed, half_sum, sums_of_halves}
use Rattle.scalar_ops.specs.Words.{accumulated, word_values, word_count}

low-fits : (bits x : ℕ) → x % 2 ^ bits < 2 ^ bits
low-fits bits x = mod_below x (2 ^ bits) (pow_pos bits)

half-fits : (high : Bool) (x : ℕ) → half high x < 2 ^ 16
half-fits false x = low-fits 16 x
half-fits true x = low-fits 16 (x / 2 ^ 16)

short-fits : (x : ℕ) → x < 2 ^ 16 → x < 2 ^ 32
short-fits x h = omega (arith, h)

both-fit : (low high : ℕ) → low < 2 ^ 16 → high < 2 ^ 16 → both_halves low high < 2 ^ 32
both-fit low high h g = omega (arith, h, g)

low_half-fits : (signed : Bool) (x : ℕ) → low_half signed x < 2 ^ 32
low_half-fits false x = short-fits (half false x) (half-fits false x)
low_half-fits true x = low-fits 32 _

rounded-fits : (n m : ℕ) → rounded_product n m < 2 ^ 32
rounded-fits n m = shr_below _ 32 32 (low-fits 64 (long_product true n m + 2 ^ 31))

packed-fits : (keeps_high : Bool) (n m : ℕ) → packed keeps_high n m < 2 ^ 32
packed-fits false n m = both-fit _ _ (half-fits false n) (half-fits true m)
packed-fits true n m = both-fit _ _ (half-fits false m) (half-fits true n)

half_sum-fits : (minus : Bool) (n m : ℕ) → half_sum minus n m < 2 ^ 16
half_sum-fits false n m = low-fits 16 _
half_sum-fits true n m = low-fits 16 _

sums-fit : (minus : Bool) (n m : ℕ) → sums_of_halves minus n m < 2 ^ 32
sums-fit minus n m = both-fit _ _ (half_sum-fits minus (half false n) (half false m)) (half_sum-fits minus (half true n) (half true m))

accumulated-fits : (adds : Bool) (x : ℕ) (ins : List ℕ) → accumulated adds x ins < 2 ^ 32
accumulated-fits false x ins = low-fits 32 _
accumulated-fits true x ins = low-fits 32 _

-- the first value
pub word-fits : (op : WordOp) (imms : List ℤ) (ins : List ℕ) → slice_index (word_values op imms ins) 0 < 2 ^ 32
unfolding word_values
word-fits word.SignedField imms ins = low-fits 32 _
word-fits (word.LowHalf signed) imms ins = low_half-fits signed _
word-fits word.ReplaceHigh imms ins = both-fit _ _ (half-fits false _) (half-fits false _)
word-fits (word.MultiplyPair signed adds) imms ins = low-fits 32 _
word-fits word.MultiplyHighRounded imms ins = rounded-fits _ _
word-fits (word.MultiplyHalves first_high second_high adds) imms ins = accumulated-fits adds _ ins
word-fits (word.MultiplyByHalf high adds) imms ins = accumulated-fits adds _ ins
word-fits (word.MultiplyBothHalves crossed adds) imms ins = accumulated-fits adds _ ins
word-fits (word.Pack keeps_high second) imms ins = packed-fits keeps_high _ _
word-fits (word.AddHalves minus) imms ins = sums-fit minus _ _

-- the second one, and 0 where there is none
pub second_word-fits : (op : WordOp) (imms : List ℤ) (ins : List ℕ) → slice_index (word_values op imms ins) 1 < 2 ^ 32
unfolding word_values
second_word-fits (word.MultiplyPair signed adds) imms ins = low-fits 32 _
second_word-fits _ imms ins = lit< tt

-- how many there are
pub word-count : (op : WordOp) (imms : List ℤ) (ins : List ℕ) → length (word_values op imms ins) ≡ word_count op
unfolding word_values
word-count (word.MultiplyPair signed adds) imms ins = refl
word-count _ imms ins = refl
