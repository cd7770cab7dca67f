-- What scalar instructions compute. Source: DDI 0487, A64 base instructions; DDI 0403 for
-- those that Armv7-M has too. Numbers of a register are taken modulo 2 to its bits; a result
-- of 32 bits has zeros above it.
use Rattle.std.specs.Prelude.{ℕ, ℤ, ◌+◌, ◌-◌, ◌*◌, ◌/◌, ◌%◌, ◌^◌, Bool, true, false, bit_and, bit_or, bit_xor, List, [], ◌∷◌, slice_index, if◌then◌else◌}
use Rattle.sl_isa.specs.declared.meaning.Size.{Size}
use Rattle.sl_isa.specs.declared.meaning.Size.TheVariants.{Bits32, Bits64}
use Rattle.sl_isa.specs.declared.meaning.Shift.{Shift}
use Rattle.sl_isa.specs.declared.meaning.Shift.TheVariants as shift
use Rattle.sl_isa.specs.declared.meaning.Second.{Second}
use Rattle.sl_isa.specs.declared.meaning.Second.TheVariants as second
use Rattle.sl_isa.specs.declared.meaning.Logic.{Logic}
use Rattle.sl_isa.specs.declared.meaning.Logic.TheVariants as logic
use Rattle.sl_isa.specs.declared.meaning.Product.{Product}
use Rattle.sl_isa.specs.declared.meaning.Product.TheVariants as product
use Rattle.sl_isa.specs.declared.meaning.Scalar.{Scalar}
use Rattle.sl_isa.specs.declared.meaning.Scalar.TheVariants as scalar
use Rattle.bit_ops.specs.Bits.{number, extended}
use Rattle.scalar_ops.specs.Flags.{one_if, flag_c, sum, sum_flags, complement, condition_holds}

-- how many bits a size has
abbrev pub bits_of : Size → ℕ
bits_of Bits32 = 32
bits_of Bits64 = 64

-- the operand at a place: the low bits of its register
abbrev pub operand : ℕ → List ℕ → ℕ → ℕ
operand bits ins place = slice_index ins place % 2 ^ bits

-- a number of so many bits, shifted
abbrev pub shifted : Shift → ℕ → ℕ → ℕ → ℕ
shifted shift.Lsl bits x k = x * 2 ^ k % 2 ^ bits
shifted shift.Lsr bits x k = x / 2 ^ k
shifted shift.Asr bits x k = extended bits x / 2 ^ k % 2 ^ bits
shifted shift.Ror bits x k = (x + 2 ^ bits * x) / 2 ^ k % 2 ^ bits

-- the first number, shifted left by the second one
abbrev pub wide_number : ℕ → List ℤ → ℕ
wide_number bits imms = number imms 0 * 2 ^ number imms 1 % 2 ^ bits

-- the second operand
unfoldable pub second_of : Second → ℕ → List ℤ → List ℕ → ℕ
second_of second.Register bits imms ins = operand bits ins 1
second_of (second.Shifted by) bits imms ins = shifted by bits (operand bits ins 1) (number imms 0)
second_of second.Number bits imms ins = wide_number bits imms

-- what is added to the first operand: a difference is the sum with the complement and a carry
abbrev pub addend : Bool → ℕ → ℕ → ℕ
addend false bits y = y
addend true bits y = complement bits y

-- the carry that is added: C where it is read, else 1 for a difference and 0 for a sum
abbrev pub carry_of : Bool → Bool → List ℕ → ℕ
carry_of minus true ins = one_if (flag_c (slice_index ins 2))
carry_of minus false ins = one_if minus

-- a result with the flags of a sum, or without
abbrev pub with_flags : Bool → ℕ → ℕ → ℕ → ℕ → List ℕ
with_flags false bits x y carry = sum bits x y carry ∷ []
with_flags true bits x y carry = sum bits x y carry ∷ sum_flags bits x y carry ∷ []

-- two numbers bit by bit, of so many bits
abbrev pub bitwise : Logic → ℕ → ℕ → ℕ → ℕ
bitwise logic.And bits x y = bit_and x y
bitwise logic.Orr bits x y = bit_or x y
bitwise logic.Eor bits x y = bit_xor x y
bitwise logic.Bic bits x y = bit_and x (complement bits y)

-- a product of numbers of so many bits: alone, added to a number or taken from it
abbrev pub product_of : Product → ℕ → ℕ → ℕ → ℕ → ℕ
product_of product.Alone bits n m a = n * m % 2 ^ bits
product_of product.Added bits n m a = (a + n * m) % 2 ^ bits
product_of product.Subtracted bits n m a = (a + 2 ^ bits - n * m % 2 ^ bits) % 2 ^ bits

-- the bits 127 to 64 of a product of numbers of 64 bits
abbrev pub high_product : Bool → ℕ → ℕ → ℕ
high_product false n m = n * m / 2 ^ 64
high_product true n m = extended 64 n * extended 64 m % 2 ^ 128 / 2 ^ 64

-- the product of numbers of 32 bits, in 64 bits
abbrev pub long_product : Bool → ℕ → ℕ → ℕ
long_product false n m = n * m
long_product true n m = extended 32 n * extended 32 m % 2 ^ 64

-- a number with 16 of its bits replaced, from a place on
abbrev pub with_part : ℕ → ℕ → ℕ → ℕ → ℕ
with_part bits d part place = (d - d / 2 ^ place % 2 ^ 16 * 2 ^ place + part * 2 ^ place) % 2 ^ bits

-- the second operand behind the first one, from the first number on
abbrev pub extracted : ℕ → List ℤ → List ℕ → ℕ
extracted bits imms ins =
    (operand bits ins 1 + 2 ^ bits * operand bits ins 0) / 2 ^ number imms 0 % 2 ^ bits

-- as many bits as the second number says, from the first number on
abbrev pub field : ℕ → List ℤ → List ℕ → ℕ
field bits imms ins = operand bits ins 0 / 2 ^ number imms 0 % 2 ^ number imms 1

-- the first operand where the condition with the first number holds, else the second one
abbrev pub selected : ℕ → List ℤ → List ℕ → ℕ
selected bits imms ins =
    if condition_holds (number imms 0) (slice_index ins 2) then operand bits ins 0
    else operand bits ins 1

-- the values of the outputs, from the numbers of the instruction and the values of its operands
unfoldable pub scalar_values : Scalar → ℕ → List ℤ → List ℕ → List ℕ
scalar_values (scalar.Sum minus second carries flags) bits imms ins =
    with_flags flags bits (operand bits ins 0) (addend minus bits (second_of second bits imms ins))
    (carry_of minus carries ins)
scalar_values (scalar.Logic op second) bits imms ins =
    bitwise op bits (operand bits ins 0) (second_of second bits imms ins) ∷ []
scalar_values scalar.Copy bits imms ins = operand bits ins 0 ∷ []
scalar_values scalar.Wide bits imms ins = wide_number bits imms ∷ []
scalar_values scalar.Part bits imms ins =
    with_part bits (operand bits ins 0) (number imms 0) (number imms 1) ∷ []
scalar_values (scalar.Multiply product) bits imms ins =
    product_of product bits (operand bits ins 0) (operand bits ins 1) (operand bits ins 2) ∷ []
scalar_values (scalar.MultiplyHigh signed) bits imms ins =
    high_product signed (operand 64 ins 0) (operand 64 ins 1) ∷ []
scalar_values (scalar.MultiplyLong signed) bits imms ins =
    long_product signed (operand 32 ins 0) (operand 32 ins 1) ∷ []
scalar_values scalar.Extract bits imms ins = extracted bits imms ins ∷ []
scalar_values (scalar.Shift by) bits imms ins =
    shifted by bits (operand bits ins 0) (number imms 0) ∷ []
scalar_values scalar.Field bits imms ins = field bits imms ins ∷ []
scalar_values scalar.Select bits imms ins = selected bits imms ins ∷ []

-- how many outputs there are: the result, and the flags where a sum gives them
abbrev pub output_count : Scalar → ℕ
output_count (scalar.Sum minus second carries true) = 2
output_count (scalar.Sum minus second carries false) = 1
output_count (scalar.Logic op second) = 1
output_count scalar.Copy = 1
output_count scalar.Wide = 1
output_count scalar.Part = 1
output_count (scalar.Multiply product) = 1
output_count (scalar.MultiplyHigh signed) = 1
output_count (scalar.MultiplyLong signed) = 1
output_count scalar.Extract = 1
output_count (scalar.Shift by) = 1
output_count scalar.Field = 1
output_count scalar.Select = 1

-- Is the result of 64 bits, whatever the size?
abbrev pub is_long : Scalar → Bool
is_long (scalar.Sum minus second carries flags) = false
is_long (scalar.Logic op second) = false
is_long scalar.Copy = false
is_long scalar.Wide = false
is_long scalar.Part = false
is_long (scalar.Multiply product) = false
is_long (scalar.MultiplyHigh signed) = true
is_long (scalar.MultiplyLong signed) = true
is_long scalar.Extract = false
is_long (scalar.Shift by) = false
is_long scalar.Field = false
is_long scalar.Select = false

-- how many bits the result has on registers of a size
abbrev pub result_bits : Scalar → Size → ℕ
result_bits op size = if is_long op then 64 else bits_of size
