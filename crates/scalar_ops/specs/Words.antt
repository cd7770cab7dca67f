-- What each instruction gives that works on words of 32 bits and that only Armv7E-M has. Source:
-- DDI 0403; sums that overflow wrap, and the flags Q and GE are no part of a machine here.
use Rattle.std.specs.Prelude.{ℕ, ℤ, ◌+◌, ◌*◌, ◌%◌, ◌^◌, Bool, true, false, List, [], ◌∷◌}
use Rattle.bit_ops.specs.Bits.{number}
use Rattle.sl_isa.specs.declared.meaning.LongAddend.{LongAddend}
use Rattle.sl_isa.specs.declared.meaning.LongAddend.TheVariants.{Nothing, Pair, Both}
use Rattle.sl_isa.specs.declared.meaning.WordOp.{WordOp}
use Rattle.sl_isa.specs.declared.meaning.WordOp.TheVariants as word
use Rattle.scalar_ops.specs.Scalar.{operand, second_of, long_product}
use Rattle.scalar_ops.specs.Halves.{half, both_words, signed_field, low_half, with_high, product_of_halves, product_by_half, sum_of_products, rounded_product, packed, sums_of_halves}

-- the operand at a place
abbrev pub word_at : List ℕ → ℕ → ℕ
word_at ins place = operand 32 ins place

-- what is added to a product of 64 bits
abbrev pub long_addend : LongAddend → List ℕ → ℕ
long_addend Nothing ins = 0
long_addend Pair ins = word_at ins 2 + 2 ^ 32 * word_at ins 3
long_addend Both ins = word_at ins 2 + word_at ins 3

-- a result to which the third operand is added, or not: its low word
abbrev pub accumulated : Bool → ℕ → List ℕ → ℕ
accumulated false x ins = x % 2 ^ 32
accumulated true x ins = (word_at ins 2 + x) % 2 ^ 32

-- the product of two words with what is added to it, in two registers
abbrev pub product_pair : Bool → LongAddend → List ℕ → List ℕ
product_pair signed adds ins =
    both_words (long_product signed (word_at ins 0) (word_at ins 1) + long_addend adds ins)

-- the values of the outputs, from the numbers of the instruction and the values of its operands
unfoldable pub word_values : WordOp → List ℤ → List ℕ → List ℕ
word_values word.SignedField imms ins =
    signed_field (word_at ins 0) (number imms 0) (number imms 1) ∷ []
word_values (word.LowHalf signed) imms ins = low_half signed (word_at ins 0) ∷ []
word_values word.ReplaceHigh imms ins = with_high (word_at ins 0) (number imms 0) ∷ []
word_values (word.MultiplyPair signed adds) imms ins = product_pair signed adds ins
word_values word.MultiplyHighRounded imms ins =
    rounded_product (word_at ins 0) (word_at ins 1) ∷ []
word_values (word.MultiplyHalves first_high second_high adds) imms ins =
    accumulated adds
    (product_of_halves (half first_high (word_at ins 0)) (half second_high (word_at ins 1))) ins
    ∷ []
word_values (word.MultiplyByHalf high adds) imms ins =
    accumulated adds (product_by_half (word_at ins 0) (half high (word_at ins 1))) ins ∷ []
word_values (word.MultiplyBothHalves crossed adds) imms ins =
    accumulated adds (sum_of_products crossed (word_at ins 0) (word_at ins 1)) ins ∷ []
word_values (word.Pack keeps_high second) imms ins =
    packed keeps_high (word_at ins 0) (second_of second 32 imms ins) ∷ []
word_values (word.AddHalves minus) imms ins =
    sums_of_halves minus (word_at ins 0) (word_at ins 1) ∷ []

-- how many outputs there are
abbrev pub word_count : WordOp → ℕ
word_count (word.MultiplyPair signed adds) = 2
word_count _ = 1
