-- What an access to memory does: where it is made, what is loaded and stored, and what becomes of
-- the base. Source: DDI 0487, A64 loads and stores; DDI 0403 for those that Armv7-M has too; both
-- in little-endian order: the bytes of a register are its lanes of 8 bits, the lowest at the lowest
-- address. An operand that an instruction doesn't have reads 0.
use Rattle.std.specs.Prelude.{ℕ, ℤ, pos, Bool, true, false, List, [], ◌∷◌, ◌++◌, ◌*◌, ◌%◌, ◌^◌, nat_lt, take, drop, slice_index, slice_index_or, if◌then◌else◌}
use Rattle.sl_model.specs.Isa.{address_at}
use Rattle.sl_isa.specs.declared.meaning.Width.{Width}
use Rattle.sl_isa.specs.declared.meaning.Width.TheVariants.{Byte, Half, Word, Double, Quad}
use Rattle.sl_isa.specs.declared.meaning.Addressing.{Addressing}
use Rattle.sl_isa.specs.declared.meaning.Addressing.TheVariants.{Kept, Before, After}
use Rattle.sl_isa.specs.declared.meaning.Transfer.{Transfer}
use Rattle.bit_ops.specs.Bits.{extended}
use Rattle.lane_ops.specs.Lanes.{lanes_of, joined}

-- the bytes of a register
abbrev pub width_bytes : Width → ℕ
width_bytes Byte = 1
width_bytes Half = 2
width_bytes Word = 4
width_bytes Double = 8
width_bytes Quad = 16

-- the registers that are loaded or stored
abbrev pub register_count : Bool → ℕ
register_count false = 1
register_count true = 2

-- the bytes of an access
abbrev pub transfer_size : Transfer → ℕ
transfer_size t = register_count t.pair * width_bytes t.width

-- the place of the base among the operands: what is stored stands before it
abbrev pub base_place : Transfer → ℕ
base_place t = if t.store then register_count t.pair else 0

-- the first number of an instruction
abbrev pub first_number : List ℤ → ℤ
first_number imms = slice_index_or imms 0 (pos 0)

-- where an access is made, counted from its base
abbrev pub offset_by : Addressing → List ℤ → ℤ
offset_by Kept imms = first_number imms
offset_by Before imms = first_number imms
offset_by After imms = pos 0

-- Is the base written back?
abbrev pub writes_back : Addressing → Bool
writes_back Kept = false
writes_back Before = true
writes_back After = true

-- the base that is written back, where there are so many addresses
abbrev pub new_base : ℕ → Addressing → List ℤ → ℕ → List ℕ
new_base space addressing imms base =
    if writes_back addressing then address_at space base (first_number imms) ∷ [] else []

-- a number of so many bytes with copies of its sign above it, up to 32 bits
abbrev pub filled : ℕ → ℕ → ℕ
filled bytes x = if nat_lt bytes 4 then extended (8 * bytes) x % 2 ^ 32 else x

-- what a register gets of its bytes, so many: copies of the sign above them, or zeros
abbrev pub loaded_value : Bool → ℕ → List ℕ → ℕ
loaded_value false bytes loaded = joined 8 (take bytes loaded)
loaded_value true bytes loaded = filled bytes (joined 8 (take bytes loaded))

-- what registers of so many bytes get of bytes: one register, or a pair
unfoldable pub loaded_values : Bool → Bool → ℕ → List ℕ → List ℕ
loaded_values signed false bytes loaded = loaded_value signed bytes loaded ∷ []
loaded_values signed true bytes loaded =
    loaded_value signed bytes loaded ∷ loaded_value signed bytes (drop bytes loaded) ∷ []

-- so many low bytes of the first operand, or of the first two
unfoldable pub stored_bytes : Bool → ℕ → List ℕ → List ℕ
stored_bytes false bytes ins = lanes_of 8 bytes (slice_index ins 0)
stored_bytes true bytes ins =
    lanes_of 8 bytes (slice_index ins 0) ++ lanes_of 8 bytes (slice_index ins 1)

-- the values of the outputs
unfoldable pub transfer_values : ℕ → Transfer → List ℤ → List ℕ → List ℕ → List ℕ
transfer_values space t imms ins loaded =
    (if t.store then [] else loaded_values t.signed t.pair (width_bytes t.width) loaded)
    ++ new_base space t.addressing imms (slice_index ins (base_place t))

-- the bytes that are stored
unfoldable pub transfer_bytes : Transfer → List ℕ → List ℕ
transfer_bytes t ins = if t.store then stored_bytes t.pair (width_bytes t.width) ins else []
