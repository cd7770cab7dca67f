-- The forms of Armv7E-M that are read, family by family: their spellings, the numbers and registers
-- that they take, their cost classes and their meanings. Source: DDI 0403, Thumb instructions with
-- the DSP extension; which forms and ranges are taken is a profile. All registers have 32 bits.
use Rattle.std.specs.Prelude.{ℕ, pos, ◌+◌, ◌-◌, ◌*◌, ◌^◌, ◌-ℤ◌, Bool, true, false, List, [], ◌∷◌, ◌++◌, codes, slice_index_or}
use Rattle.sl_model.specs.declared.register.Bank.TheVariants as bank
use Rattle.sl_model.specs.declared.register.RegSet.{RegSet}
use Rattle.sl_isa.specs.Arch.{padded_values}
use Rattle.sl_isa.specs.declared.meaning.Size.TheVariants.{Bits32}
use Rattle.sl_isa.specs.declared.meaning.Shift.{Shift}
use Rattle.sl_isa.specs.declared.meaning.Shift.TheVariants as shift
use Rattle.sl_isa.specs.declared.meaning.Second.{Second}
use Rattle.sl_isa.specs.declared.meaning.Second.TheVariants as second
use Rattle.sl_isa.specs.declared.meaning.Logic.{Logic}
use Rattle.sl_isa.specs.declared.meaning.Logic.TheVariants as logic
use Rattle.sl_isa.specs.declared.meaning.Product.TheVariants as product
use Rattle.sl_isa.specs.declared.meaning.Scalar.{Scalar}
use Rattle.sl_isa.specs.declared.meaning.Scalar.TheVariants as scalar
use Rattle.sl_isa.specs.declared.meaning.Width.{Width}
use Rattle.sl_isa.specs.declared.meaning.Width.TheVariants as width
use Rattle.sl_isa.specs.declared.meaning.Addressing.{Addressing}
use Rattle.sl_isa.specs.declared.meaning.Addressing.TheVariants as addressing
use Rattle.sl_isa.specs.declared.meaning.Meaning.{Meaning}
use Rattle.sl_isa.specs.declared.meaning.Meaning.TheVariants as meaning
use Rattle.sl_isa.specs.declared.meaning.LongAddend.{LongAddend}
use Rattle.sl_isa.specs.declared.meaning.LongAddend.TheVariants.{Nothing, Pair, Both}
use Rattle.sl_isa.specs.declared.meaning.WordOp.{WordOp}
use Rattle.sl_isa.specs.declared.meaning.WordOp.TheVariants as word
use Rattle.form_table.specs.declared.rows.Letter.TheVariants as letter
use Rattle.form_table.specs.declared.rows.Name.{Name}
use Rattle.form_table.specs.declared.rows.Name.TheVariants as name
use Rattle.form_table.specs.declared.rows.Shape.{Shape}
use Rattle.form_table.specs.declared.rows.Shape.TheVariants as shape
use Rattle.form_table.specs.declared.rows.Role.{Role}
use Rattle.form_table.specs.declared.rows.Role.TheVariants.{In, Out, Tied, Base, Back}
use Rattle.form_table.specs.declared.rows.Range.{Range}
use Rattle.form_table.specs.declared.rows.Operand.{Operand}
use Rattle.form_table.specs.declared.rows.Sum.TheVariants as total
use Rattle.form_table.specs.declared.rows.Alias.TheVariants as alias
use Rattle.form_table.specs.declared.rows.Row.{Row}

-- no register
abbrev pub no_register : RegSet
no_register = record { bits = 0 }

-- r0 to r12 and lr, which is number 14
abbrev pub general : RegSet
general = record { bits = 2 ^ 13 - 1 + 2 ^ 14 }

-- these and sp
abbrev pub bases : RegSet
bases = record { bits = 2 ^ 13 - 1 + 2 ^ 14 + 2 ^ 65 }

-- s0 to s31
abbrev pub singles : RegSet
singles = record { bits = (2 ^ 32 - 1) * 2 ^ 32 }

-- the numbers from one to another
abbrev pub range : ℕ → ℕ → Range
range least most = record { least = pos least; most = pos most; step = 1 }

-- the numbers from a negative one on, by a step
abbrev pub range_below : ℕ → ℕ → ℕ → Range
range_below least most step =
    record { least = pos 0 -ℤ pos least; most = pos most; step = step }

-- no operand
abbrev pub none : Operand
none = record { shape = shape.Nothing; role = In; class = no_register; range = range 0 0 }

-- an operand that is a register
abbrev pub register : Shape → Role → RegSet → Operand
register shape role class = record { shape = shape; role = role; class = class; range = range 0 0 }

-- an operand that is a number
abbrev pub numeral : Shape → Range → Operand
numeral shape range = record { shape = shape; role = In; class = no_register; range = range }

-- Rd, which is written
abbrev pub to : Operand
to = register (shape.Register letter.R) Out general

-- Rd, Rl or Rh, which is read and written
abbrev pub tied : Operand
tied = register (shape.Register letter.R) Tied general

-- Rn, Rm or Ra
abbrev pub from : Operand
from = register (shape.Register letter.R) In general

-- Sd, which is written
abbrev pub to_single : Operand
to_single = register (shape.Register letter.S) Out singles

-- Sn
abbrev pub from_single : Operand
from_single = register (shape.Register letter.S) In singles

-- a number of a range
abbrev pub number : Range → Operand
number range = numeral shape.Number range

-- a shift by a number of a range, such as `lsl #k`
abbrev pub shifted : Name → Range → Operand
shifted name range = numeral (shape.Shift name) range

-- the operand at a place, and none behind the last one
abbrev pub at : List Operand → ℕ → Operand
at operands k = slice_index_or operands k none

-- a row: its mnemonic, its operands, whether it reads and sets the flags, its class and its meaning
abbrev pub row : List ℕ → List Operand → Bool → Bool → ℕ → Meaning → Row
row mnemonic operands reads sets class meaning = record {
  mnemonic = padded_values 8 mnemonic;
  first = at operands 0;
  second = at operands 1;
  third = at operands 2;
  fourth = at operands 3;
  fifth = at operands 4;
  reads_flags = reads;
  sets_flags = sets;
  sum = total.Free;
  class = class;
  meaning = meaning;
  alias = alias.Own;
}

-- the same, kept as another form with the same operands
abbrev pub kept_as : Row → ℕ → Row
kept_as r form = record r { alias = alias.As form }

-- the same, kept as another form in which the first register stands twice
abbrev pub kept_twice : Row → ℕ → Row
kept_twice r form = record r { alias = alias.Repeat form }

-- the same, kept as another form without the number at a place where that number is 0
abbrev pub without_zero : Row → ℕ → ℕ → Row
without_zero r form place = record r { alias = alias.ZeroAs form place }

-- The cost classes. This one is that of sums, bitwise operations and moves.
abbrev pub alu : ℕ
alu = 0

-- sums and bitwise operations with a shift, shifts and parts of registers
abbrev pub alus : ℕ
alus = 1

-- products
abbrev pub mul : ℕ
mul = 2

-- halves of registers, put together and added
abbrev pub simd : ℕ
simd = 3

-- copies between general registers and those of floating point
abbrev pub fmove : ℕ
fmove = 6

-- a row with a scalar meaning
abbrev pub scalar_row : List ℕ → List Operand → Bool → Bool → ℕ → Scalar → Row
scalar_row mnemonic operands reads sets class op =
    row mnemonic operands reads sets class (meaning.Scalar op Bits32)

-- a scalar row that has nothing to do with the flags
abbrev pub plain : List ℕ → List Operand → ℕ → Scalar → Row
plain mnemonic operands class op = scalar_row mnemonic operands false false class op

-- Sums and bitwise operations: their mnemonic, whether they read and set the flags, and what they
-- compute with a second operand.
pub record Sums : Type 0 where
  pub mnemonic : List ℕ
  pub reads : Bool
  pub sets : Bool
  pub compute : Second → Scalar

-- a row of such an operation
abbrev pub sum_row : Sums → List Operand → ℕ → Second → Row
sum_row s operands class second =
    scalar_row s.mnemonic operands s.reads s.sets class (s.compute second)

-- op Rd, Rn, Rm, sh
abbrev pub shifted_row : Sums → Name → Shift → Range → Row
shifted_row s name by range =
    sum_row s (to ∷ from ∷ from ∷ shifted name range ∷ []) alus (second.Shifted by)

-- op Rd, Rn, Rm {, sh}, where the first row has this number: without shift, then with each of four
-- shifts, and lsl by 0 is kept as the form without; op Rd, Rm is kept as the form with Rd twice
abbrev pub register_rows : Sums → ℕ → List Row
register_rows s form =
    sum_row s (to ∷ from ∷ from ∷ []) alu second.Register
    ∷ without_zero (shifted_row s name.Lsl shift.Lsl (range 0 31)) form 3
    ∷ shifted_row s name.Lsr shift.Lsr (range 1 32)
    ∷ shifted_row s name.Asr shift.Asr (range 1 32)
    ∷ shifted_row s name.Ror shift.Ror (range 1 31)
    ∷ kept_twice (sum_row s (to ∷ from ∷ []) alu second.Register) form
    ∷ []

-- op Rd, Rn, #i up to a greatest number; op Rd, #i is kept as this form, which has this number
abbrev pub number_rows : Sums → ℕ → ℕ → List Row
number_rows s most form =
    sum_row s (to ∷ from ∷ number (range 0 most) ∷ []) alu second.Number
    ∷ kept_twice (sum_row s (to ∷ number (range 0 most) ∷ []) alu second.Number) form
    ∷ []

-- both, where the first row has this number
abbrev pub all_rows : Sums → ℕ → ℕ → List Row
all_rows s most form = register_rows s form ++ number_rows s most (form + 6)

-- add, sub, adds, subs
abbrev pub sums : List ℕ → Bool → Bool → Sums
sums mnemonic minus flags = record {
  mnemonic = mnemonic;
  reads = false;
  sets = flags;
  compute = λ second. scalar.Sum minus second false flags;
}

-- adc, sbc, adcs, sbcs
abbrev pub carried : List ℕ → Bool → Bool → Sums
carried mnemonic minus flags = record {
  mnemonic = mnemonic;
  reads = true;
  sets = flags;
  compute = λ second. scalar.Sum minus second true flags;
}

-- and, orr, eor, bic
abbrev pub logics : List ℕ → Logic → Sums
logics mnemonic op = record {
  mnemonic = mnemonic;
  reads = false;
  sets = false;
  compute = λ second. scalar.Logic op second;
}

-- lsl, lsr, asr, ror Rd, Rn, #k; op Rd, #k is kept as this form, which has this number
abbrev pub shifts : List ℕ → Shift → Range → ℕ → List Row
shifts mnemonic by range form =
    plain mnemonic (to ∷ from ∷ number range ∷ []) alus (scalar.Shift by)
    ∷ kept_twice (plain mnemonic (to ∷ number range ∷ []) alus (scalar.Shift by)) form
    ∷ []

-- the forms that AArch64 has the like of, in their order: sums, bitwise operations, moves, shifts,
-- fields and products
abbrev pub sum_rows : List Row
sum_rows =
    all_rows (sums (codes "add") false false) 4095 0
    ++ (all_rows (sums (codes "sub") true false) 4095 8
    ++ (all_rows (sums (codes "adds") false true) 255 16
    ++ (all_rows (sums (codes "subs") true true) 255 24
    ++ (register_rows (carried (codes "adc") false false) 32
    ++ (register_rows (carried (codes "sbc") true false) 38
    ++ (register_rows (carried (codes "adcs") false true) 44
    ++ (register_rows (carried (codes "sbcs") true true) 50
    ++ (all_rows (logics (codes "and") logic.And) 255 56
    ++ (all_rows (logics (codes "orr") logic.Orr) 255 64
    ++ (all_rows (logics (codes "eor") logic.Eor) 255 72
    ++ all_rows (logics (codes "bic") logic.Bic) 255 80))))))))))

-- mov Rd, Rm; movw Rd, #i; mov Rd, #i is kept as movw, which has number 89
abbrev pub move_rows : List Row
move_rows =
    plain (codes "mov") (to ∷ from ∷ []) alu scalar.Copy
    ∷ plain (codes "movw") (to ∷ number (range 0 65535) ∷ []) alu scalar.Wide
    ∷ kept_as (plain (codes "mov") (to ∷ number (range 0 65535) ∷ []) alu scalar.Wide) 89
    ∷ []

-- lsl, lsr, asr, ror with a number
abbrev pub shift_rows : List Row
shift_rows =
    shifts (codes "lsl") shift.Lsl (range 1 31) 92
    ++ (shifts (codes "lsr") shift.Lsr (range 1 32) 94
    ++ (shifts (codes "asr") shift.Asr (range 1 32) 96
    ++ shifts (codes "ror") shift.Ror (range 1 31) 98))

-- Rd, Rn, #p, #w
abbrev pub field_operands : List Operand
field_operands = to ∷ from ∷ number (range 0 31) ∷ number (range 1 32) ∷ []

-- a row whose first two numbers are at most 32 together
abbrev pub at_most_32 : Row → Row
at_most_32 r = record r { sum = total.AtMost 32 }

-- ubfx Rd, Rn, #p, #w
abbrev pub field_row : Row
field_row = at_most_32 (plain (codes "ubfx") field_operands alus scalar.Field)

-- mul Rd, Rn, Rm; mla, mls Rd, Rn, Rm, Ra
abbrev pub product_rows : List Row
product_rows =
    plain (codes "mul") (to ∷ from ∷ from ∷ []) mul (scalar.Multiply product.Alone)
    ∷ plain (codes "mla") (to ∷ from ∷ from ∷ from ∷ []) mul (scalar.Multiply product.Added)
    ∷ plain (codes "mls") (to ∷ from ∷ from ∷ from ∷ []) mul (scalar.Multiply product.Subtracted)
    ∷ []

-- a row with a meaning on words
abbrev pub word_row : List ℕ → List Operand → ℕ → WordOp → Row
word_row mnemonic operands class op = row mnemonic operands false false class (meaning.Word op)

-- movt Rd, #i
abbrev pub high_move : Row
high_move = word_row (codes "movt") (tied ∷ number (range 0 65535) ∷ []) alu word.ReplaceHigh

-- ubfx and sbfx Rd, Rn, #p, #w; uxth, sxth Rd, Rm
abbrev pub part_rows : List Row
part_rows =
    field_row
    ∷ at_most_32 (word_row (codes "sbfx") field_operands alus word.SignedField)
    ∷ word_row (codes "uxth") (to ∷ from ∷ []) alu (word.LowHalf false)
    ∷ word_row (codes "sxth") (to ∷ from ∷ []) alu (word.LowHalf true)
    ∷ []

-- op Rl, Rh, Rn, Rm, where Rl and Rh are also read if something is added
abbrev pub long_row : List ℕ → Operand → Bool → LongAddend → Row
long_row mnemonic target signed adds =
    word_row mnemonic (target ∷ target ∷ from ∷ from ∷ []) mul (word.MultiplyPair signed adds)

-- op Rd, Rn, Rm
abbrev pub two_row : List ℕ → ℕ → WordOp → Row
two_row mnemonic class op = word_row mnemonic (to ∷ from ∷ from ∷ []) class op

-- op Rd, Rn, Rm, Ra
abbrev pub three_row : List ℕ → WordOp → Row
three_row mnemonic op = word_row mnemonic (to ∷ from ∷ from ∷ from ∷ []) mul op

-- the products of 64 bits
abbrev pub long_rows : List Row
long_rows =
    long_row (codes "smull") to true Nothing
    ∷ long_row (codes "umull") to false Nothing
    ∷ long_row (codes "smlal") tied true Pair
    ∷ long_row (codes "umlal") tied false Pair
    ∷ long_row (codes "umaal") tied false Both
    ∷ []

-- the products of halves: the first letter is for n, the second for m
abbrev pub half_product_rows : List Row
half_product_rows =
    two_row (codes "smulbb") mul (word.MultiplyHalves false false false)
    ∷ two_row (codes "smulbt") mul (word.MultiplyHalves false true false)
    ∷ two_row (codes "smultb") mul (word.MultiplyHalves true false false)
    ∷ two_row (codes "smultt") mul (word.MultiplyHalves true true false)
    ∷ three_row (codes "smlabb") (word.MultiplyHalves false false true)
    ∷ three_row (codes "smlabt") (word.MultiplyHalves false true true)
    ∷ three_row (codes "smlatb") (word.MultiplyHalves true false true)
    ∷ three_row (codes "smlatt") (word.MultiplyHalves true true true)
    ∷ two_row (codes "smulwb") mul (word.MultiplyByHalf false false)
    ∷ two_row (codes "smulwt") mul (word.MultiplyByHalf true false)
    ∷ three_row (codes "smlawb") (word.MultiplyByHalf false true)
    ∷ three_row (codes "smlawt") (word.MultiplyByHalf true true)
    ∷ two_row (codes "smuad") mul (word.MultiplyBothHalves false false)
    ∷ two_row (codes "smuadx") mul (word.MultiplyBothHalves true false)
    ∷ three_row (codes "smlad") (word.MultiplyBothHalves false true)
    ∷ three_row (codes "smladx") (word.MultiplyBothHalves true true)
    ∷ two_row (codes "smmulr") mul word.MultiplyHighRounded
    ∷ []

-- op Rd, Rn, Rm, sh
abbrev pub packed_row : List ℕ → Bool → Name → Shift → Range → Row
packed_row mnemonic keeps_high name by range =
    word_row mnemonic (to ∷ from ∷ from ∷ shifted name range ∷ []) simd
    (word.Pack keeps_high (second.Shifted by))

-- pkhbt Rd, Rn, Rm {, lsl #k}; pkhtb Rd, Rn, Rm, asr #k; sums of halves
abbrev pub half_rows : List Row
half_rows =
    two_row (codes "pkhbt") simd (word.Pack false second.Register)
    ∷ packed_row (codes "pkhbt") false name.Lsl shift.Lsl (range 1 31)
    ∷ packed_row (codes "pkhtb") true name.Asr shift.Asr (range 1 32)
    ∷ two_row (codes "uadd16") simd (word.AddHalves false)
    ∷ two_row (codes "sadd16") simd (word.AddHalves false)
    ∷ two_row (codes "usub16") simd (word.AddHalves true)
    ∷ two_row (codes "ssub16") simd (word.AddHalves true)
    ∷ []

-- vmov Sd, Rn; vmov Rd, Sn
abbrev pub copy_rows : List Row
copy_rows =
    row (codes "vmov") (to_single ∷ from ∷ []) false false fmove (meaning.Copy bank.Vector)
    ∷ row (codes "vmov") (to ∷ from_single ∷ []) false false fmove (meaning.Copy bank.General)
    ∷ []

-- [Rn]
abbrev pub at_base : Operand
at_base = register (shape.Base letter.R) Base bases

-- [Rn, #i]
abbrev pub at_offset : Range → Operand
at_offset range =
    record { shape = shape.Offset letter.R; role = Base; class = bases; range = range }

-- [Rn], which is written back
abbrev pub back : Operand
back = register (shape.Base letter.R) Back general

-- [Rn, #i]!, which is written back
abbrev pub before : Range → Operand
before range = record { shape = shape.Before letter.R; role = Back; class = general; range = range }

-- t, which is loaded or stored, or t and t2
abbrev pub moved : Bool → Bool → List Operand
moved false false = to ∷ []
moved true false = from ∷ []
moved false true = to ∷ to ∷ []
moved true true = from ∷ from ∷ []

-- the cost class of loads or stores
abbrev pub access_class : Bool → ℕ
access_class false = 4
access_class true = 5

-- the place of the base
abbrev pub behind : Bool → ℕ
behind false = 1
behind true = 2

-- An access: its mnemonic, whether it stores, whether it moves a pair, which offsets it takes without
-- and with writeback, and what it does.
pub record Moves : Type 0 where
  pub mnemonic : List ℕ
  pub store : Bool
  pub pair : Bool
  pub offsets : Range
  pub back_offsets : Range
  pub does : Addressing → Meaning

-- a row of it
abbrev pub access_row : Moves → List Operand → Addressing → Row
access_row a base addressing =
    row a.mnemonic (moved a.store a.pair ++ base) false false (access_class a.store)
    (a.does addressing)

-- op t, [Rn {, #i}], [Rn], #i and [Rn, #i]!, where the first row has this number: without number,
-- then with it, and 0 is kept as the form without
abbrev pub access_rows : Moves → ℕ → List Row
access_rows a form =
    access_row a (at_base ∷ []) addressing.Kept
    ∷ without_zero (access_row a (at_offset a.offsets ∷ []) addressing.Kept) form (behind a.pair)
    ∷ access_row a (back ∷ number a.back_offsets ∷ []) addressing.After
    ∷ access_row a (before a.back_offsets ∷ []) addressing.Before
    ∷ []

-- an access of one register
abbrev pub single : List ℕ → Bool → (Addressing → Meaning) → Moves
single mnemonic store does = record {
  mnemonic = mnemonic;
  store = store;
  pair = false;
  offsets = range_below 255 4095 1;
  back_offsets = range_below 255 255 1;
  does = does;
}

-- an access of two
abbrev pub double : List ℕ → Bool → (Addressing → Meaning) → Moves
double mnemonic store does = record {
  mnemonic = mnemonic;
  store = store;
  pair = true;
  offsets = range_below 1020 1020 4;
  back_offsets = range_below 1020 1020 4;
  does = does;
}

-- so many low bytes of each register; where they are loaded, zeros above them, or copies of the sign
abbrev pub transfer : Bool → Bool → Width → Bool → Addressing → Meaning
transfer store pair width signed addressing = meaning.Memory (record {
  store = store;
  pair = pair;
  bank = bank.General;
  width = width;
  signed = signed;
  addressing = addressing;
})

-- ldr, ldrh, ldrsh, ldrb; str, strh, strb, where the first row has this number
abbrev pub single_rows : ℕ → List Row
single_rows form =
    access_rows (single (codes "ldr") false (transfer false false width.Word false)) form
    ++ (access_rows (single (codes "ldrh") false (transfer false false width.Half false)) (form + 4)
    ++ (access_rows (single (codes "ldrsh") false (transfer false false width.Half true)) (form + 8)
    ++ (access_rows (single (codes "ldrb") false (transfer false false width.Byte false)) (form + 12)
    ++ (access_rows (single (codes "str") true (transfer true false width.Word false)) (form + 16)
    ++ (access_rows (single (codes "strh") true (transfer true false width.Half false)) (form + 20)
    ++ access_rows (single (codes "strb") true (transfer true false width.Byte false)) (form + 24))))))

-- ldrd, strd, where the first row has this number
abbrev pub pair_rows : ℕ → List Row
pair_rows form =
    access_rows (double (codes "ldrd") false (transfer false true width.Word false)) form
    ++ access_rows (double (codes "strd") true (transfer true true width.Word false)) (form + 4)

-- all forms that are neither sums nor accesses
abbrev pub other_rows : List Row
other_rows =
    move_rows
    ++ (high_move ∷ []
    ++ (shift_rows
    ++ (part_rows ++ (product_rows ++ (long_rows ++ (half_product_rows ++ (half_rows ++ copy_rows)))))))

-- the forms, numbered in this order from 0
unfoldable pub document : List Row
document = sum_rows ++ (other_rows ++ (single_rows 138 ++ pair_rows 166))
