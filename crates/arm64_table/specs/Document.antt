-- The forms of AArch64 that are read, family by family: their spellings, the numbers and registers
-- that they take, their cost classes and their meanings. Source: DDI 0487, A64 base and Advanced
-- SIMD instructions; which forms, ranges and places of the zero register are taken is a profile.
use Rattle.std.specs.Prelude.{ℕ, pos, ◌+◌, ◌-◌, ◌*◌, ◌^◌, ◌-ℤ◌, Bool, true, false, List, [], ◌∷◌, ◌++◌, codes, slice_index_or}
use Rattle.sl_model.specs.declared.register.Bank.{Bank}
use Rattle.sl_model.specs.declared.register.Bank.TheVariants as bank
use Rattle.sl_model.specs.declared.register.RegSet.{RegSet}
use Rattle.sl_isa.specs.Arch.{padded_values}
use Rattle.sl_isa.specs.declared.meaning.Size.{Size}
use Rattle.sl_isa.specs.declared.meaning.Size.TheVariants.{Bits32, Bits64}
use Rattle.sl_isa.specs.declared.meaning.Shift.{Shift}
use Rattle.sl_isa.specs.declared.meaning.Shift.TheVariants as shift
use Rattle.sl_isa.specs.declared.meaning.Second.{Second}
use Rattle.sl_isa.specs.declared.meaning.Second.TheVariants as second
use Rattle.sl_isa.specs.declared.meaning.Logic.{Logic}
use Rattle.sl_isa.specs.declared.meaning.Logic.TheVariants as logic
use Rattle.sl_isa.specs.declared.meaning.Product.{Product}
use Rattle.sl_isa.specs.declared.meaning.Product.TheVariants as product
use Rattle.sl_isa.specs.declared.meaning.Scalar.{Scalar}
use Rattle.sl_isa.specs.declared.meaning.Scalar.TheVariants as scalar
use Rattle.sl_isa.specs.declared.meaning.Arrangement.{Arrangement}
use Rattle.sl_isa.specs.declared.meaning.Arrangement.TheVariants.{Bytes8, Bytes16, Halves4, Halves8, Words2, Words4, Doubles2}
use Rattle.sl_isa.specs.declared.meaning.Lane.{Lane}
use Rattle.sl_isa.specs.declared.meaning.Lane.TheVariants.{Byte, Half, Word, Double}
use Rattle.sl_isa.specs.declared.meaning.LaneOp.{LaneOp}
use Rattle.sl_isa.specs.declared.meaning.LaneOp.TheVariants as op
use Rattle.sl_isa.specs.declared.meaning.LaneShift.{LaneShift}
use Rattle.sl_isa.specs.declared.meaning.LaneShift.TheVariants as lane_shift
use Rattle.sl_isa.specs.declared.meaning.Permutation.{Permutation}
use Rattle.sl_isa.specs.declared.meaning.Permutation.TheVariants as permutation
use Rattle.sl_isa.specs.declared.meaning.Vector.{Vector}
use Rattle.sl_isa.specs.declared.meaning.Vector.TheVariants as vector
use Rattle.sl_isa.specs.declared.meaning.Width.{Width}
use Rattle.sl_isa.specs.declared.meaning.Width.TheVariants as width
use Rattle.sl_isa.specs.declared.meaning.Addressing.{Addressing}
use Rattle.sl_isa.specs.declared.meaning.Addressing.TheVariants as addressing
use Rattle.sl_isa.specs.declared.meaning.Meaning.{Meaning}
use Rattle.sl_isa.specs.declared.meaning.Meaning.TheVariants as meaning
use Rattle.form_table.specs.declared.rows.Letter.{Letter}
use Rattle.form_table.specs.declared.rows.Letter.TheVariants as letter
use Rattle.form_table.specs.declared.rows.Name.{Name}
use Rattle.form_table.specs.declared.rows.Name.TheVariants as name
use Rattle.form_table.specs.declared.rows.Shape.{Shape}
use Rattle.form_table.specs.declared.rows.Shape.TheVariants as shape
use Rattle.form_table.specs.declared.rows.Role.{Role}
use Rattle.form_table.specs.declared.rows.Role.TheVariants.{In, Out, Tied, Base, Back}
use Rattle.form_table.specs.declared.rows.Range.{Range}
use Rattle.form_table.specs.declared.rows.Operand.{Operand}
use Rattle.form_table.specs.declared.rows.Sum.TheVariants as total
use Rattle.form_table.specs.declared.rows.Alias.TheVariants as alias
use Rattle.form_table.specs.declared.rows.Row.{Row}

-- no register
abbrev pub no_register : RegSet
no_register = record { bits = 0 }

-- x0 to x30
abbrev pub general : RegSet
general = record { bits = 2 ^ 31 - 1 }

-- x0 to x30 and the zero register
abbrev pub general_or_zero : RegSet
general_or_zero = record { bits = 2 ^ 32 - 1 }

-- v0 to v31
abbrev pub vectors : RegSet
vectors = record { bits = (2 ^ 32 - 1) * 2 ^ 32 }

-- v0 to v15
abbrev pub low_vectors : RegSet
low_vectors = record { bits = (2 ^ 16 - 1) * 2 ^ 32 }

-- the numbers from one to another, by a step
abbrev pub range : ℕ → ℕ → ℕ → Range
range least most step = record { least = pos least; most = pos most; step = step }

-- no operand
abbrev pub none : Operand
none = record { shape = shape.Nothing; role = In; class = no_register; range = range 0 0 1 }

-- an operand that is a register
abbrev pub register : Shape → Role → RegSet → Operand
register shape role class = record { shape = shape; role = role; class = class; range = range 0 0 1 }

-- an operand that is a number
abbrev pub numeral : Shape → Range → Operand
numeral shape range = record { shape = shape; role = In; class = no_register; range = range }

-- an operand that is a lane of a register, with indices from 0 to a last one
abbrev pub lane_of : Name → Role → RegSet → ℕ → Operand
lane_of name role class most = record { shape = shape.Lane name; role = role; class = class; range = range 0 most 1 }

-- the operand at a place, and none behind the last one
abbrev pub at : List Operand → ℕ → Operand
at operands k = slice_index_or operands k none

-- a row: its mnemonic, its operands, whether it reads and sets the flags, its class and its meaning
abbrev pub row : List ℕ → List Operand → Bool → Bool → ℕ → Meaning → Row
row mnemonic operands reads sets class meaning = record {
  mnemonic = padded_values 8 mnemonic;
  first = at operands 0;
  second = at operands 1;
  third = at operands 2;
  fourth = at operands 3;
  fifth = at operands 4;
  reads_flags = reads;
  sets_flags = sets;
  sum = total.Free;
  class = class;
  meaning = meaning;
  alias = alias.Own;
}

-- the same, kept as another form with the same operands
abbrev pub kept_as : Row → ℕ → Row
kept_as r form = record r { alias = alias.As form }

-- the same, kept as another form without the number at a place where that number is 0
abbrev pub without_zero : Row → ℕ → ℕ → Row
without_zero r form place = record r { alias = alias.ZeroAs form place }

-- The cost classes. This one is that of sums, bitwise operations, moves and choices.
abbrev pub alu : ℕ
alu = 0

-- sums and bitwise operations with a shift, shifts and parts of registers
abbrev pub alus : ℕ
alus = 1

-- products
abbrev pub mul : ℕ
mul = 2

-- sums, bitwise operations and copies of lanes
abbrev pub valu : ℕ
valu = 5

-- shifts of lanes, and their low halves
abbrev pub vshift : ℕ
vshift = 6

-- products of lanes
abbrev pub vmul : ℕ
vmul = 7

-- lanes in another order, or in the place of others
abbrev pub vperm : ℕ
vperm = 8

-- lanes from general registers and to them
abbrev pub vxfer : ℕ
vxfer = 9

-- Scalar operands: R is X or W. The zero register is no output, and an
-- input only where `any` stands.

-- the letter of a size
abbrev pub letter_of : Size → Letter
letter_of Bits64 = letter.X
letter_of Bits32 = letter.W

-- the place of the highest bit
abbrev pub last_bit : Size → ℕ
last_bit Bits64 = 63
last_bit Bits32 = 31

-- Rd, which is written
abbrev pub to : Size → Operand
to size = register (shape.Register (letter_of size)) Out general

-- Rd, which is read and written
abbrev pub tied : Size → Operand
tied size = register (shape.Register (letter_of size)) Tied general

-- Rn, which isn't the zero register
abbrev pub from : Size → Operand
from size = register (shape.Register (letter_of size)) In general

-- Rn or Rm, which may be the zero register
abbrev pub any : Size → Operand
any size = register (shape.Register (letter_of size)) In general_or_zero

-- a number of a range
abbrev pub number : Range → Operand
number range = numeral shape.Number range

-- a shift by a number of a range, such as `lsl #k`
abbrev pub shifted : Name → Range → Operand
shifted name range = numeral (shape.Shift name) range

-- a shift amount of so many bits: from 0
abbrev pub amount : Size → Range
amount size = range 0 (last_bit size) 1

-- the rows for X, then those for W
abbrev pub both : (Size → List Row) → List Row
both rows = rows Bits64 ++ rows Bits32

-- a row with a scalar meaning
abbrev pub scalar_row : List ℕ → List Operand → Bool → Bool → ℕ → Scalar → Size → Row
scalar_row mnemonic operands reads sets class op size =
    row mnemonic operands reads sets class (meaning.Scalar op size)

-- a scalar row that has nothing to do with the flags
abbrev pub plain : List ℕ → List Operand → ℕ → Scalar → Size → Row
plain mnemonic operands class op size = scalar_row mnemonic operands false false class op size

-- add, sub, adds, subs Rd, Rn, Rm {, lsl/lsr/asr #k}, the first of these with a number
abbrev pub sum_row : List ℕ → List Operand → Bool → Bool → ℕ → Second → Size → Row
sum_row mnemonic operands minus flags class second size =
    scalar_row mnemonic operands false flags class (scalar.Sum minus second false flags) size

-- one of these with a shift
abbrev pub shifted_sum : List ℕ → Bool → Bool → Name → Shift → Size → Row
shifted_sum mnemonic minus flags name by size = sum_row mnemonic (to size ∷ any size ∷ any size ∷ shifted name (amount size) ∷ []) minus flags alus (second.Shifted by) size

-- for one size: without shift, then with each of three shifts; lsl by 0 is kept as the form with
-- this number
abbrev pub sums_of : List ℕ → Bool → Bool → ℕ → Size → List Row
sums_of mnemonic minus flags form size =
    sum_row mnemonic (to size ∷ any size ∷ any size ∷ []) minus flags alu second.Register size
    ∷ without_zero (shifted_sum mnemonic minus flags name.Lsl shift.Lsl size) form 3
    ∷ shifted_sum mnemonic minus flags name.Lsr shift.Lsr size
    ∷ shifted_sum mnemonic minus flags name.Asr shift.Asr size
    ∷ []

-- for both sizes, where the first row has this number
abbrev pub sums : List ℕ → Bool → Bool → ℕ → List Row
sums mnemonic minus flags form =
    sums_of mnemonic minus flags form Bits64 ++ sums_of mnemonic minus flags (form + 4) Bits32

-- add, sub, adds, subs Rd, Rn, #i {, lsl #12}
abbrev pub number_sums : List ℕ → Bool → Bool → List Row
number_sums mnemonic minus flags = both (λ size.
    sum_row mnemonic (to size ∷ from size ∷ number (range 0 4095 1) ∷ []) minus flags alu second.Number size
    ∷ sum_row mnemonic (to size ∷ from size ∷ number (range 0 4095 1) ∷ shifted name.Lsl (range 12 12 1) ∷ []) minus flags alu second.Number size
    ∷ [])

-- adc, sbc, adcs, sbcs Rd, Rn, Rm
abbrev pub carried : List ℕ → Bool → Bool → List Row
carried mnemonic minus flags = both (λ size.
    scalar_row mnemonic (to size ∷ any size ∷ any size ∷ []) true flags alu (scalar.Sum minus second.Register true flags) size ∷ [])

-- and, orr, eor, bic Rd, Rn, Rm, lsl/lsr/asr/ror #k
abbrev pub shifted_logic : List ℕ → Logic → Name → Shift → Size → Row
shifted_logic mnemonic op name by size = plain mnemonic (to size ∷ any size ∷ any size ∷ shifted name (amount size) ∷ []) alus (scalar.Logic op (second.Shifted by)) size

-- for one size: without shift, then with each of four shifts; lsl by 0 is kept as the form with
-- this number
abbrev pub logic_of : List ℕ → Logic → ℕ → Size → List Row
logic_of mnemonic op form size =
    plain mnemonic (to size ∷ any size ∷ any size ∷ []) alu (scalar.Logic op second.Register) size
    ∷ without_zero (shifted_logic mnemonic op name.Lsl shift.Lsl size) form 3
    ∷ shifted_logic mnemonic op name.Lsr shift.Lsr size
    ∷ shifted_logic mnemonic op name.Asr shift.Asr size
    ∷ shifted_logic mnemonic op name.Ror shift.Ror size
    ∷ []

-- for both sizes, where the first row has this number
abbrev pub logics : List ℕ → Logic → ℕ → List Row
logics mnemonic op form = logic_of mnemonic op form Bits64 ++ logic_of mnemonic op (form + 5) Bits32

-- movz, movk Rd, #i {, lsl #s}: s is a multiple of 16
abbrev pub wide_shift : Size → Operand
wide_shift size = shifted name.Lsl (range 0 (last_bit size - 15) 16)

-- for one size: without lsl, then with it; lsl by 0 is kept as the form with this number
abbrev pub wide : List ℕ → (Size → Operand) → Scalar → ℕ → Size → List Row
wide mnemonic target op form size =
    plain mnemonic (target size ∷ number (range 0 65535 1) ∷ []) alu op size
    ∷ without_zero (plain mnemonic (target size ∷ number (range 0 65535 1) ∷ wide_shift size ∷ []) alu op size) form 2
    ∷ []

-- mov Rd, #i is kept as movz
abbrev pub moved_number : ℕ → Size → Row
moved_number form size = kept_as (plain (codes "mov") (to size ∷ number (range 0 65535 1) ∷ []) alu scalar.Wide size) form

-- mul Rd, Rn, Rm; madd, msub Rd, Rn, Rm, Ra
abbrev pub products : List ℕ → Product → List Operand → Size → Row
products mnemonic product more size =
    plain mnemonic (to size ∷ any size ∷ any size ∷ more) mul (scalar.Multiply product) size

-- umulh, smulh Xd, Xn, Xm
abbrev pub high_product : List ℕ → Bool → Row
high_product mnemonic signed = plain mnemonic (to Bits64 ∷ any Bits64 ∷ any Bits64 ∷ []) mul (scalar.MultiplyHigh signed) Bits64

-- umull, smull Xd, Wn, Wm
abbrev pub long_product : List ℕ → Bool → Row
long_product mnemonic signed = plain mnemonic (to Bits64 ∷ any Bits32 ∷ any Bits32 ∷ []) mul (scalar.MultiplyLong signed) Bits64

-- lsl, lsr, asr, ror Rd, Rn, #k
abbrev pub shifts : List ℕ → Shift → List Row
shifts mnemonic by = both (λ size. plain mnemonic (to size ∷ any size ∷ number (amount size) ∷ []) alus (scalar.Shift by) size ∷ [])

-- ubfx Rd, Rn, #p, #w with p + w at most the bits
abbrev pub field : Size → Row
field size = record (plain (codes "ubfx") (to size ∷ from size ∷ number (amount size) ∷ number (range 1 (last_bit size + 1) 1) ∷ []) alus scalar.Field size) { sum = total.AtMost (last_bit size + 1) }

-- csel Rd, Rn, Rm, cond
abbrev pub select : Size → Row
select size = scalar_row (codes "csel") (to size ∷ any size ∷ any size ∷ numeral shape.Condition (range 0 13 1) ∷ []) true false alu scalar.Select size

-- the scalar forms, in their order
abbrev pub scalar_rows : List Row
scalar_rows =
    sums (codes "add") false false 0 ++ (sums (codes "sub") true false 8
    ++ (number_sums (codes "add") false false ++ (number_sums (codes "sub") true false
    ++ (sums (codes "adds") false true 24 ++ (sums (codes "subs") true true 32
    ++ (number_sums (codes "adds") false true ++ (number_sums (codes "subs") true true
    ++ (carried (codes "adc") false false ++ (carried (codes "sbc") true false ++ (carried (codes "adcs") false true ++ (carried (codes "sbcs") true true
    ++ (logics (codes "and") logic.And 56 ++ (logics (codes "orr") logic.Orr 66 ++ (logics (codes "eor") logic.Eor 76 ++ (logics (codes "bic") logic.Bic 86
    ++ (both (λ size. plain (codes "mov") (to size ∷ any size ∷ []) alu scalar.Copy size ∷ [])
    ++ (wide (codes "movz") to scalar.Wide 98 Bits64 ++ (wide (codes "movz") to scalar.Wide 100 Bits32
    ++ (moved_number 98 Bits64 ∷ moved_number 100 Bits32 ∷ []
    ++ (wide (codes "movk") tied scalar.Part 104 Bits64 ++ (wide (codes "movk") tied scalar.Part 106 Bits32
    ++ (both (λ size. products (codes "mul") product.Alone [] size ∷ [])
    ++ (both (λ size. products (codes "madd") product.Added (any size ∷ []) size ∷ [])
    ++ (both (λ size. products (codes "msub") product.Subtracted (any size ∷ []) size ∷ [])
    ++ (high_product (codes "umulh") false ∷ high_product (codes "smulh") true ∷ []
    ++ (long_product (codes "umull") false ∷ long_product (codes "smull") true ∷ []
    ++ (both (λ size. plain (codes "extr") (to size ∷ any size ∷ any size ∷ number (amount size) ∷ []) alus scalar.Extract size ∷ [])
    ++ (shifts (codes "lsl") shift.Lsl ++ (shifts (codes "lsr") shift.Lsr ++ (shifts (codes "asr") shift.Asr ++ (shifts (codes "ror") shift.Ror
    ++ (both (λ size. field size ∷ []) ++ both (λ size. select size ∷ [])))))))))))))))))))))))))))))))))

-- Vector operands, by their arrangements and by their lanes.

-- the name of an arrangement
abbrev pub arrangement_name : Arrangement → Name
arrangement_name Bytes8 = name.Lanes8b
arrangement_name Bytes16 = name.Lanes16b
arrangement_name Halves4 = name.Lanes4h
arrangement_name Halves8 = name.Lanes8h
arrangement_name Words2 = name.Lanes2s
arrangement_name Words4 = name.Lanes4s
arrangement_name Doubles2 = name.Lanes2d

-- the bits of a lane of an arrangement
abbrev pub lane_bits : Arrangement → ℕ
lane_bits Bytes8 = 8
lane_bits Bytes16 = 8
lane_bits Halves4 = 16
lane_bits Halves8 = 16
lane_bits Words2 = 32
lane_bits Words4 = 32
lane_bits Doubles2 = 64

-- the letter of a lane
abbrev pub lane_name : Lane → Name
lane_name Byte = name.LaneB
lane_name Half = name.LaneH
lane_name Word = name.LaneS
lane_name Double = name.LaneD

-- the last index of a lane of a whole register
abbrev pub last_lane : Lane → ℕ
last_lane Byte = 15
last_lane Half = 7
last_lane Word = 3
last_lane Double = 1

-- the lane of an arrangement
abbrev pub lane_in : Arrangement → Lane
lane_in Bytes8 = Byte
lane_in Bytes16 = Byte
lane_in Halves4 = Half
lane_in Halves8 = Half
lane_in Words2 = Word
lane_in Words4 = Word
lane_in Doubles2 = Double

-- Vd.T, Vn.T or Vm.T, by its role
abbrev pub lanes : Role → Arrangement → Operand
lanes role t = register (shape.Lanes (arrangement_name t)) role vectors

-- Vd.e[i] or Vn.e[i], by its role
abbrev pub lane : Role → Lane → Operand
lane role e = lane_of (lane_name e) role vectors (last_lane e)

-- the one element of a product: a halfword is of v0 to v15
abbrev pub element : Lane → Operand
element Half = lane_of name.LaneH In low_vectors 7
element e = lane In e

-- the register that a lane goes to or comes from
abbrev pub general_size : Lane → Size
general_size Double = Bits64
general_size e = Bits32

-- a row with a vector meaning
abbrev pub vector_row : List ℕ → List Operand → ℕ → Vector → Row
vector_row mnemonic operands class op = row mnemonic operands false false class (meaning.Vector op)

-- the arrangements of bytes
abbrev pub bytes : List Arrangement
bytes = Bytes8 ∷ Bytes16 ∷ []

-- those of halfwords and of words
abbrev pub halves_and_words : List Arrangement
halves_and_words = Halves4 ∷ Halves8 ∷ Words2 ∷ Words4 ∷ []

-- all but 2d
abbrev pub but_doubles : List Arrangement
but_doubles = bytes ++ halves_and_words

-- all of them
abbrev pub all : List Arrangement
all = but_doubles ++ Doubles2 ∷ []

-- the lanes, from the smallest on
abbrev pub all_lanes : List Lane
all_lanes = Byte ∷ Half ∷ Word ∷ Double ∷ []

-- a row for each of some arrangements
unfoldable pub each : {A : Type 0} → (A → Row) → List A → List Row
each row [] = []
each row (t ∷ ts) = row t ∷ each row ts

-- op Vd.T, Vn.T, Vm.T, where Vd is written, or is also read
abbrev pub lanewise : List ℕ → LaneOp → Role → ℕ → List Arrangement → List Row
lanewise mnemonic op role class ts = each (λ t. vector_row mnemonic (lanes role t ∷ lanes In t ∷ lanes In t ∷ []) class (vector.Lanewise op t)) ts

-- op Vd.T, Vn.T, Vm.e[i]
abbrev pub by_element : List ℕ → LaneOp → Role → List Row
by_element mnemonic op role = each (λ t. vector_row mnemonic (lanes role t ∷ lanes In t ∷ element (lane_in t) ∷ []) vmul (vector.ByElement op t)) halves_and_words

-- op Vd.Ta, Vn.Tb, Vm.Tb, where lanes of Ta have twice the bits of those of
-- Tb: this is Tb for the low half
abbrev pub narrow_low : Arrangement → Arrangement
narrow_low Halves8 = Bytes8
narrow_low Words4 = Halves4
narrow_low _ = Words2

-- the same of the high half, which is named by the whole register
abbrev pub narrow_high : Arrangement → Arrangement
narrow_high Halves8 = Bytes16
narrow_high Words4 = Halves8
narrow_high _ = Words4

-- Tb, for the high half or for the low one
abbrev pub narrow_of : Bool → Arrangement → Arrangement
narrow_of false t = narrow_low t
narrow_of true t = narrow_high t

-- Vd is also read where the product is added to it
abbrev pub target : Bool → Role
target false = Out
target true = Tied

-- the rows of a long product, for each Ta
abbrev pub long : List ℕ → Bool → Bool → Bool → List Row
long mnemonic signed adds high =
    each (λ t. vector_row mnemonic (lanes (target adds) t ∷ lanes In (narrow_of high t) ∷ lanes In (narrow_of high t) ∷ []) vmul (vector.Long signed adds high t))
    (Halves8 ∷ Words4 ∷ Doubles2 ∷ [])

-- op Vd.T, Vn.T, #k: to the left, by less than the bits of a lane
abbrev pub left_shifts : List ℕ → LaneShift → Role → List Row
left_shifts mnemonic op role = each (λ t. vector_row mnemonic (lanes role t ∷ lanes In t ∷ number (range 0 (lane_bits t - 1) 1) ∷ []) vshift (vector.Shift op t)) all

-- to the right, by 1 to all the bits of a lane
abbrev pub right_shifts : List ℕ → LaneShift → Role → List Row
right_shifts mnemonic op role = each (λ t. vector_row mnemonic (lanes role t ∷ lanes In t ∷ number (range 1 (lane_bits t) 1) ∷ []) vshift (vector.Shift op t)) all

-- xtn Vd.Ta, Vn.Tb, where lanes of Tb have twice the bits of those of Ta: this is Tb
abbrev pub wide_of : Arrangement → Arrangement
wide_of Bytes8 = Halves8
wide_of Halves4 = Words4
wide_of _ = Doubles2

-- xtn, for each Ta
abbrev pub narrowed : List Row
narrowed = each (λ t. vector_row (codes "xtn") (lanes Out t ∷ lanes In (wide_of t) ∷ []) vshift (vector.Narrow t)) (Bytes8 ∷ Halves4 ∷ Words2 ∷ [])

-- op Vd.T, Vn.T, Vm.T: lanes of both in another order
abbrev pub permuted : List ℕ → Permutation → List Row
permuted mnemonic op = each (λ t. vector_row mnemonic (lanes Out t ∷ lanes In t ∷ lanes In t ∷ []) vperm (vector.Permute op t)) all

-- ext Vd.T, Vn.T, Vm.T, #k
abbrev pub extracted : Arrangement → ℕ → Row
extracted t most = vector_row (codes "ext") (lanes Out t ∷ lanes In t ∷ lanes In t ∷ number (range 0 most 1) ∷ []) vperm (vector.Extract t)

-- dup Vd.T, Rn
abbrev pub dup_general : Arrangement → Row
dup_general t = vector_row (codes "dup") (lanes Out t ∷ from (general_size (lane_in t)) ∷ []) vxfer (vector.DupGeneral t)

-- ins Vd.e[i], Rn
abbrev pub insert_general : Lane → Row
insert_general e = vector_row (codes "ins") (lane Tied e ∷ from (general_size e) ∷ []) vxfer (vector.InsertGeneral e)

-- ins Vd.e[i], Vn.e[j]
abbrev pub insert_lane : Lane → Row
insert_lane e = vector_row (codes "ins") (lane Tied e ∷ lane In e ∷ []) vperm (vector.InsertLane e)

-- umov Rd, Vn.e[i]
abbrev pub move_out : Lane → Row
move_out e =
    vector_row (codes "umov") (to (general_size e) ∷ lane In e ∷ []) vxfer (vector.MoveOut e)

-- sums, bitwise operations and products of lanes
abbrev pub lane_sum_rows : List Row
lane_sum_rows =
    lanewise (codes "add") op.Add Out valu all ++ (lanewise (codes "sub") op.Sub Out valu all
    ++ (lanewise (codes "and") op.And Out valu bytes ++ (lanewise (codes "orr") op.Orr Out valu bytes
    ++ (lanewise (codes "eor") op.Eor Out valu bytes ++ (lanewise (codes "bic") op.Bic Out valu bytes
    ++ (each (λ t. vector_row (codes "mov") (lanes Out t ∷ lanes In t ∷ []) valu (vector.Copy t)) bytes
    ++ (lanewise (codes "mul") op.Mul Out vmul but_doubles ++ (lanewise (codes "mla") op.Mla Tied vmul but_doubles ++ (lanewise (codes "mls") op.Mls Tied vmul but_doubles
    ++ (lanewise (codes "sqdmulh") op.Sqdmulh Out vmul halves_and_words ++ (lanewise (codes "sqrdmulh") op.Sqrdmulh Out vmul halves_and_words
    ++ (by_element (codes "mul") op.Mul Out ++ (by_element (codes "sqdmulh") op.Sqdmulh Out ++ (by_element (codes "sqrdmulh") op.Sqrdmulh Out
    ++ (by_element (codes "mla") op.Mla Tied ++ (by_element (codes "mls") op.Mls Tied
    ++ (long (codes "smull") true false false ++ (long (codes "umull") false false false ++ (long (codes "smlal") true true false ++ (long (codes "umlal") false true false
    ++ (long (codes "smull2") true false true ++ (long (codes "umull2") false false true ++ (long (codes "smlal2") true true true ++ long (codes "umlal2") false true true)))))))))))))))))))))))

-- shifts of lanes, and lanes in another order or from elsewhere
abbrev pub lane_order_rows : List Row
lane_order_rows =
    left_shifts (codes "shl") lane_shift.Shl Out ++ (left_shifts (codes "sli") lane_shift.Sli Tied
    ++ (right_shifts (codes "sshr") lane_shift.Sshr Out ++ (right_shifts (codes "ushr") lane_shift.Ushr Out
    ++ (right_shifts (codes "srshr") lane_shift.Srshr Out ++ (right_shifts (codes "sri") lane_shift.Sri Tied
    ++ (narrowed
    ++ (permuted (codes "trn1") permutation.Trn1 ++ (permuted (codes "trn2") permutation.Trn2 ++ (permuted (codes "zip1") permutation.Zip1
    ++ (permuted (codes "zip2") permutation.Zip2 ++ (permuted (codes "uzp1") permutation.Uzp1 ++ (permuted (codes "uzp2") permutation.Uzp2
    ++ (extracted Bytes8 7 ∷ extracted Bytes16 15 ∷ []
    ++ (each (λ t. vector_row (codes "dup") (lanes Out t ∷ lane In (lane_in t) ∷ []) vperm (vector.DupLane t)) all
    ++ (each dup_general all ++ (each insert_general all_lanes ++ (each insert_lane all_lanes
    ++ each move_out all_lanes)))))))))))))))))

-- A register that is loaded or stored: how it is spelled, its bank, its bytes, and which registers
-- may be loaded and stored.
pub record Data : Type 0 where
  pub letter : Letter
  pub bank : Bank
  pub width : Width
  pub size : ℕ
  pub loaded : RegSet
  pub stored : RegSet

-- X, of which the zero register may be stored
abbrev pub x_data : Data
x_data = record {
  letter = letter.X;
  bank = bank.General;
  width = width.Double;
  size = 8;
  loaded = general;
  stored = general_or_zero;
}

-- W, the same
abbrev pub w_data : Data
w_data = record x_data { letter = letter.W; width = width.Word; size = 4 }

-- Q
abbrev pub q_data : Data
q_data = record {
  letter = letter.Q;
  bank = bank.Vector;
  width = width.Quad;
  size = 16;
  loaded = vectors;
  stored = vectors;
}

-- D
abbrev pub d_data : Data
d_data = record q_data { letter = letter.D; width = width.Double; size = 8 }

-- S
abbrev pub s_data : Data
s_data = record q_data { letter = letter.S; width = width.Word; size = 4 }

-- t, which is loaded or stored
abbrev pub moved : Bool → Data → Operand
moved false t = register (shape.Register t.letter) Out t.loaded
moved true t = register (shape.Register t.letter) In t.stored

-- t, or t twice for a pair
abbrev pub all_moved : Bool → Bool → Data → List Operand
all_moved store false t = moved store t ∷ []
all_moved store true t = moved store t ∷ moved store t ∷ []

-- x0 to x30 and sp
abbrev pub bases : RegSet
bases = record { bits = 2 ^ 31 - 1 + 2 ^ 65 }

-- [Xn]
abbrev pub at_base : Operand
at_base = register (shape.Base letter.X) Base bases

-- [Xn, #i]
abbrev pub at_offset : Range → Operand
at_offset range =
    record { shape = shape.Offset letter.X; role = Base; class = bases; range = range }

-- [Xn], which is written back
abbrev pub back : Operand
back = register (shape.Base letter.X) Back general

-- [Xn, #i]!, which is written back
abbrev pub before : Range → Operand
before range = record { shape = shape.Before letter.X; role = Back; class = general; range = range }

-- the offsets of so many bytes from 0 on
abbrev pub forward : ℕ → Range
forward size = range 0 (4095 * size) size

-- those of single bytes both ways
abbrev pub around : Range
around = record { least = pos 0 -ℤ pos 256; most = pos 255; step = 1 }

-- those of so many bytes both ways
abbrev pub around_pair : ℕ → Range
around_pair size =
    record { least = pos 0 -ℤ pos (64 * size); most = pos (63 * size); step = size }

-- the cost class of loads or stores
abbrev pub access_class : Bool → ℕ
access_class false = 3
access_class true = 4

-- a row that loads or stores t, or a pair
abbrev pub access_row : List ℕ → Bool → Bool → Data → List Operand → Addressing → Row
access_row mnemonic store pair t base addressing =
    row mnemonic (all_moved store pair t ++ base) false false (access_class store)
    (meaning.Memory (record {
      store = store;
      pair = pair;
      bank = t.bank;
      width = t.width;
      signed = false;
      addressing = addressing;
    }))

-- the place of the base
abbrev pub behind : Bool → ℕ
behind false = 1
behind true = 2

-- op t, [Xn {, #i}]: without number, then with it; 0 is kept as the form with this number
abbrev pub plain_access : List ℕ → Bool → Bool → Range → ℕ → Data → List Row
plain_access mnemonic store pair offsets form t =
    access_row mnemonic store pair t (at_base ∷ []) addressing.Kept
    ∷ without_zero (access_row mnemonic store pair t (at_offset offsets ∷ []) addressing.Kept) form
    (behind pair)
    ∷ []

-- op t, [Xn], #i; op t, [Xn, #i]!
abbrev pub moving_access : List ℕ → Bool → Bool → Range → Data → List Row
moving_access mnemonic store pair offsets t =
    access_row mnemonic store pair t (back ∷ number offsets ∷ []) addressing.After
    ∷ access_row mnemonic store pair t (before offsets ∷ []) addressing.Before
    ∷ []

-- ldr, str for one t, where the first row has this number
abbrev pub single_access : List ℕ → Bool → ℕ → Data → List Row
single_access mnemonic store form t =
    plain_access mnemonic store false (forward t.size) form t
    ++ moving_access mnemonic store false around t

-- for each
abbrev pub single_accesses : List ℕ → Bool → ℕ → List Row
single_accesses mnemonic store form =
    single_access mnemonic store form x_data
    ++ (single_access mnemonic store (form + 4) w_data
    ++ (single_access mnemonic store (form + 8) q_data
    ++ (single_access mnemonic store (form + 12) d_data
    ++ single_access mnemonic store (form + 16) s_data)))

-- ldur, stur, where the first row has this number
abbrev pub unscaled_accesses : List ℕ → Bool → ℕ → List Row
unscaled_accesses mnemonic store form =
    plain_access mnemonic store false around form x_data
    ++ (plain_access mnemonic store false around (form + 2) w_data
    ++ (plain_access mnemonic store false around (form + 4) q_data
    ++ (plain_access mnemonic store false around (form + 6) d_data
    ++ plain_access mnemonic store false around (form + 8) s_data)))

-- ldp, stp for one t, where the first row has this number
abbrev pub pair_access : List ℕ → Bool → ℕ → Data → List Row
pair_access mnemonic store form t =
    plain_access mnemonic store true (around_pair t.size) form t
    ++ moving_access mnemonic store true (around_pair t.size) t

-- for each, which is X, D or Q
abbrev pub pair_accesses : List ℕ → Bool → ℕ → List Row
pair_accesses mnemonic store form =
    pair_access mnemonic store form x_data
    ++ (pair_access mnemonic store (form + 4) d_data
    ++ pair_access mnemonic store (form + 8) q_data)

-- accesses to memory
abbrev pub memory_rows : List Row
memory_rows =
    single_accesses (codes "ldr") false 341
    ++ (single_accesses (codes "str") true 361
    ++ (unscaled_accesses (codes "ldur") false 381
    ++ (unscaled_accesses (codes "stur") true 391
    ++ (pair_accesses (codes "ldp") false 401 ++ pair_accesses (codes "stp") true 413))))

-- the forms, numbered in this order from 0
unfoldable pub document : List Row
document = scalar_rows ++ (lane_sum_rows ++ (lane_order_rows ++ memory_rows))
