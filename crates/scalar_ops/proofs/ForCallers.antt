-- The values of scalar instructions fit.
pub use Rattle.scalar_ops.proofs.WordValues.{word-fits, second_word-fits, word-count}
use Rattle.std.proofs.Common.{◌≡◌, refl, ⊎_elim, sym, subst, ℕ, ℤ, ◌+◌, ◌-◌, ◌*◌, ◌/◌, ◌%◌, ◌^◌, ◌<◌, ◌≤◌, Bool, true, false, List, length, slice_index, if◌then◌else◌, bit_and, arith, lit<}
use Rattle.std.proofs.Math.Nat.{mod-le}
use Rattle.std.proofs.lemmas.Nat.{pow_pos, mod_below, shr_le, shr_below, div_below, mul-lt, and_le_l, or_lt, xor_lt}
use Rattle.std.proofs.lemmas.Bool.{true≢false, cases_Bool}
use Rattle.sl_isa.specs.declared.meaning.Size.{Size}
use Rattle.sl_isa.specs.declared.meaning.Shift.{Shift}
use Rattle.sl_isa.specs.declared.meaning.Shift.TheVariants as shift
use Rattle.sl_isa.specs.declared.meaning.Second.{Second}
use Rattle.sl_isa.specs.declared.meaning.Second.TheVariants as second
use Rattle.sl_isa.specs.declared.meaning.Logic.{Logic}
use Rattle.sl_isa.specs.declared.meaning.Logic.TheVariants as logic
use Rattle.sl_isa.specs.declared.meaning.Product.{Product}
use Rattle.sl_isa.specs.declared.meaning.Product.TheVariants as product
use Rattle.sl_isa.specs.declared.meaning.Scalar.{Scalar}
use Rattle.sl_isa.specs.declared.meaning.Scalar.TheVariants as scalar
use Rattle.bit_ops.specs.Bits.{number, extended}
use Rattle.scalar_ops.specs.Flags.{one_if, sum_flags, complement, condition_holds}
use Rattle.scalar_ops.specs.Scalar.{bits_of, operand, shifted, second_of, with_flags, bitwise, product_of, high_product, long_product, field, scalar_values, output_count, is_long, result_bits}

-- low bits, and what is no more than a number that fits
low-fits : (bits x : ℕ) → x % 2 ^ bits < 2 ^ bits
low-fits bits x = mod_below x (2 ^ bits) (pow_pos bits)

below : (x y n : ℕ) → x ≤ y → y < n → x < n
below x y n h fits = omega (arith, h, fits)

operand-fits : (bits : ℕ) (ins : List ℕ) (place : ℕ) → operand bits ins place < 2 ^ bits
operand-fits bits ins place = low-fits bits (slice_index ins place)

shifted-fits : (by : Shift) (bits x k : ℕ) → x < 2 ^ bits → shifted by bits x k < 2 ^ bits
shifted-fits shift.Lsl bits x k h = low-fits bits (x * 2 ^ k)
shifted-fits shift.Lsr bits x k h = below (x / 2 ^ k) x (2 ^ bits) (shr_le x k) h
shifted-fits shift.Asr bits x k h = low-fits bits (extended bits x / 2 ^ k)
shifted-fits shift.Ror bits x k h = low-fits bits ((x + 2 ^ bits * x) / 2 ^ k)

second-fits : (which : Second) (bits : ℕ) (imms : List ℤ) (ins : List ℕ) → second_of which bits imms ins < 2 ^ bits
unfolding second_of
second-fits second.Register bits imms ins = operand-fits bits ins 1
second-fits (second.Shifted by) bits imms ins = shifted-fits by bits (operand bits ins 1) (number imms 0) (operand-fits bits ins 1)
second-fits second.Number bits imms ins = low-fits bits (number imms 0 * 2 ^ number imms 1)

bitwise-fits : (op : Logic) (bits x y : ℕ) → x < 2 ^ bits → y < 2 ^ bits → bitwise op bits x y < 2 ^ bits
bitwise-fits logic.And bits x y h g = below (bit_and x y) x (2 ^ bits) (and_le_l x y) h
bitwise-fits logic.Orr bits x y h g = or_lt bits x y h g
bitwise-fits logic.Eor bits x y h g = xor_lt bits x y h g
bitwise-fits logic.Bic bits x y h g = below (bit_and x (complement bits y)) x (2 ^ bits) (and_le_l x (complement bits y)) h

product-fits : (what : Product) (bits n m a : ℕ) → product_of what bits n m a < 2 ^ bits
product-fits product.Alone bits n m a = low-fits bits (n * m)
product-fits product.Added bits n m a = low-fits bits (a + n * m)
product-fits product.Subtracted bits n m a = low-fits bits (a + 2 ^ bits - n * m % 2 ^ bits)

high-fits : (signed : Bool) (n m : ℕ) → n < 2 ^ 64 → m < 2 ^ 64 → high_product signed n m < 2 ^ 64
high-fits false n m h g = div_below (n * m) (2 ^ 64) (2 ^ 64) (pow_pos 64) (mul-lt n m (2 ^ 64) (2 ^ 64) h g)
high-fits true n m h g = shr_below _ 64 64 (low-fits 128 (extended 64 n * extended 64 m))

long-fits : (signed : Bool) (n m : ℕ) → n < 2 ^ 32 → m < 2 ^ 32 → long_product signed n m < 2 ^ 64
long-fits false n m h g = mul-lt n m (2 ^ 32) (2 ^ 32) h g
long-fits true n m h g = low-fits 64 (extended 32 n * extended 32 m)

field-fits : (bits : ℕ) (imms : List ℤ) (ins : List ℕ) → field bits imms ins < 2 ^ bits
field-fits bits imms ins =
    let cut : field bits imms ins ≤ operand bits ins 0 / 2 ^ number imms 0 = mod-le _ _ in
    let moved : operand bits ins 0 / 2 ^ number imms 0 ≤ operand bits ins 0 = shr_le _ _ in
    let fits : operand bits ins 0 < 2 ^ bits = operand-fits bits ins 0 in
    omega (arith, cut, moved, fits)

chosen-below : (b : Bool) (x y n : ℕ) → x < n → y < n → (if b then x else y) < n
chosen-below true x y n h g = h
chosen-below false x y n h g = g

-- the first value, whether the flags are behind it or not
sum-fits : (flags : Bool) (bits x y carry : ℕ) → slice_index (with_flags flags bits x y carry) 0 < 2 ^ bits
sum-fits false bits x y carry = low-fits bits (x + y + carry)
sum-fits true bits x y carry = low-fits bits (x + y + carry)

pub result-fits : (op : Scalar) (bits : ℕ) (imms : List ℤ) (ins : List ℕ) → is_long op ≡ false
    → slice_index (scalar_values op bits imms ins) 0 < 2 ^ bits
unfolding scalar_values
result-fits (scalar.Sum minus which carries flags) bits imms ins e = sum-fits flags bits _ _ _
result-fits (scalar.Logic op which) bits imms ins e =
    bitwise-fits op bits _ _ (operand-fits bits ins 0) (second-fits which bits imms ins)
result-fits scalar.Copy bits imms ins e = operand-fits bits ins 0
result-fits scalar.Wide bits imms ins e = low-fits bits _
result-fits scalar.Part bits imms ins e = low-fits bits _
result-fits (scalar.Multiply what) bits imms ins e = product-fits what bits _ _ _
result-fits (scalar.MultiplyHigh signed) bits imms ins e = absurd (true≢false e)
result-fits (scalar.MultiplyLong signed) bits imms ins e = absurd (true≢false e)
result-fits scalar.Extract bits imms ins e = low-fits bits _
result-fits (scalar.Shift by) bits imms ins e = shifted-fits by bits (operand bits ins 0) (number imms 0) (operand-fits bits ins 0)
result-fits scalar.Field bits imms ins e = field-fits bits imms ins
result-fits scalar.Select bits imms ins e =
    chosen-below (condition_holds (number imms 0) (slice_index ins 2)) _ _ _ (operand-fits bits ins 0) (operand-fits bits ins 1)

long_result-fits : (op : Scalar) (bits : ℕ) (imms : List ℤ) (ins : List ℕ) → is_long op ≡ true
    → slice_index (scalar_values op bits imms ins) 0 < 2 ^ 64
unfolding scalar_values
long_result-fits (scalar.MultiplyHigh signed) bits imms ins e = high-fits signed _ _ (operand-fits 64 ins 0) (operand-fits 64 ins 1)
long_result-fits (scalar.MultiplyLong signed) bits imms ins e = long-fits signed _ _ (operand-fits 32 ins 0) (operand-fits 32 ins 1)
long_result-fits _ bits imms ins e = absurd (true≢false (sym e))

pub result-fits_bits : (op : Scalar) (size : Size) (imms : List ℤ) (ins : List ℕ)
    → slice_index (scalar_values op (bits_of size) imms ins) 0 < 2 ^ result_bits op size
result-fits_bits op size imms ins = ⊎_elim long short (cases_Bool (is_long op))
  where
    value : ℕ
    value = slice_index (scalar_values op (bits_of size) imms ins) 0

    long : is_long op ≡ true → value < 2 ^ result_bits op size
    long e =
        subst (λ b. value < 2 ^ (if b then 64 else bits_of size)) (sym e)
        (long_result-fits op (bits_of size) imms ins e)

    short : is_long op ≡ false → value < 2 ^ result_bits op size
    short e =
        subst (λ b. value < 2 ^ (if b then 64 else bits_of size)) (sym e)
        (result-fits op (bits_of size) imms ins e)

one_if-le : (b : Bool) → one_if b ≤ 1
one_if-le true = omega arith
one_if-le false = omega arith

four-flags : (n z c v : ℕ) → n ≤ 1 → z ≤ 1 → v ≤ 1 → 8 * n + 4 * z + 2 * (c % 2) + v < 16
four-flags n z c v hn hz hv = omega (arith, hn, hz, hv)

flags-fit : (bits x y carry : ℕ) → sum_flags bits x y carry < 16
unfolding sum_flags
flags-fit bits x y carry = four-flags _ _ _ _ (one_if-le _) (one_if-le _) (one_if-le _)

behind_sum-fits : (flags : Bool) (bits x y carry : ℕ) → slice_index (with_flags flags bits x y carry) 1 < 16
behind_sum-fits false bits x y carry = lit< tt
behind_sum-fits true bits x y carry = flags-fit bits x y carry

pub second_value-fits : (op : Scalar) (bits : ℕ) (imms : List ℤ) (ins : List ℕ)
    → slice_index (scalar_values op bits imms ins) 1 < 16
unfolding scalar_values
second_value-fits (scalar.Sum minus which carries flags) bits imms ins = behind_sum-fits flags bits _ _ _
second_value-fits _ bits imms ins = lit< tt

pub value-count : (op : Scalar) (bits : ℕ) (imms : List ℤ) (ins : List ℕ)
    → length (scalar_values op bits imms ins) ≡ output_count op
unfolding scalar_values
value-count (scalar.Sum minus which carries false) bits imms ins = refl
value-count (scalar.Sum minus which carries true) bits imms ins = refl
value-count _ bits imms ins = refl
