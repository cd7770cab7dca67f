-- What vector instructions compute. Source: DDI 0487, A64 Advanced SIMD instructions. An operand
-- that an instruction doesn't have reads 0. A destination that is also read is the last operand.
use Rattle.std.specs.Prelude.{ℕ, ℤ, pos, ◌+◌, ◌-◌, ◌*◌, ◌/◌, ◌%◌, ◌^◌, ◌+ℤ◌, ◌*ℤ◌, ◌==◌, Bool, true, false, zero, suc, List, [], ◌∷◌, ◌++◌, take, drop, bit_and, bit_or, bit_xor, slice_index, slice_set, if◌then◌else◌}
use Rattle.std.specs.Int.{int_div_euclid}
use Rattle.sl_isa.specs.declared.meaning.LaneOp.{LaneOp}
use Rattle.sl_isa.specs.declared.meaning.LaneOp.TheVariants as op
use Rattle.sl_isa.specs.declared.meaning.LaneShift.{LaneShift}
use Rattle.sl_isa.specs.declared.meaning.LaneShift.TheVariants as shift
use Rattle.sl_isa.specs.declared.meaning.Permutation.{Permutation}
use Rattle.sl_isa.specs.declared.meaning.Permutation.TheVariants as permutation
use Rattle.sl_isa.specs.declared.meaning.Vector.{Vector}
use Rattle.sl_isa.specs.declared.meaning.Vector.TheVariants as vector
use Rattle.bit_ops.specs.Bits.{number, extended}
use Rattle.lane_ops.specs.Lanes.{lane_bits, lane_count, bits_of, count_of, lanes_of, joined, repeated, signed, saturated, low_bits}

-- half of twice a signed product, of so many bits, with something added before it is halved
unfoldable pub doubled_high : ℕ → ℕ → ℕ → ℕ → ℕ
doubled_high bits n m round =
    low_bits bits (saturated bits
    (int_div_euclid (pos 2 *ℤ signed bits n *ℤ signed bits m +ℤ pos round) (pos (2 ^ bits))))

-- an operation on a lane of the destination and of two operands; only the low bits of it count
unfoldable pub lane_value : LaneOp → ℕ → ℕ → ℕ → ℕ → ℕ
lane_value op.Add bits d n m = n + m
lane_value op.Sub bits d n m = n + (2 ^ bits - m)
lane_value op.And bits d n m = bit_and n m
lane_value op.Orr bits d n m = bit_or n m
lane_value op.Eor bits d n m = bit_xor n m
lane_value op.Bic bits d n m = bit_and n (2 ^ bits - 1 - m)
lane_value op.Mul bits d n m = n * m
lane_value op.Mla bits d n m = d + n * m
lane_value op.Mls bits d n m = d + n * (2 ^ bits - m)
lane_value op.Sqdmulh bits d n m = doubled_high bits n m 0
lane_value op.Sqrdmulh bits d n m = doubled_high bits n m (2 ^ (bits - 1))

-- the same on lanes, one by one
unfoldable pub lane_values : LaneOp → ℕ → List ℕ → List ℕ → List ℕ → List ℕ
lane_values op bits [] ns ms = []
lane_values op bits (d ∷ ds) [] ms = []
lane_values op bits (d ∷ ds) (n ∷ ns) [] = []
lane_values op bits (d ∷ ds) (n ∷ ns) (m ∷ ms) =
    lane_value op bits d n m ∷ lane_values op bits ds ns ms

-- a product of lanes of half as many bits, added to a lane of the destination
unfoldable pub long_value : Bool → ℕ → ℕ → ℕ → ℕ → ℕ
long_value false half d n m = d + n * m
long_value true half d n m = d + extended half n * extended half m

-- the same of each lane
unfoldable pub long_values : Bool → ℕ → List ℕ → List ℕ → List ℕ → List ℕ
long_values signed half [] ns ms = []
long_values signed half (d ∷ ds) [] ms = []
long_values signed half (d ∷ ds) (n ∷ ns) [] = []
long_values signed half (d ∷ ds) (n ∷ ns) (m ∷ ms) =
    long_value signed half d n m ∷ long_values signed half ds ns ms

-- the low or the high half of a register
abbrev pub half_of : Bool → ℕ → ℕ
half_of false x = x
half_of true x = x / 2 ^ 64

-- the destination where its lanes are added to, else 0
abbrev pub added_to : Bool → ℕ → ℕ
added_to false d = 0
added_to true d = d

-- a shift of a lane by a number, with a lane of the destination
unfoldable pub shift_value : LaneShift → ℕ → ℕ → ℕ → ℕ → ℕ
shift_value shift.Shl bits k d n = n * 2 ^ k
shift_value shift.Sli bits k d n = n * 2 ^ k + d % 2 ^ k
shift_value shift.Sshr bits k d n = extended bits n / 2 ^ k
shift_value shift.Ushr bits k d n = n / 2 ^ k
shift_value shift.Srshr bits k d n = (extended bits n + 2 ^ k / 2) / 2 ^ k
shift_value shift.Sri bits k d n = n / 2 ^ k + (d - d % 2 ^ (bits - k))

-- the same of each lane
unfoldable pub shift_values : LaneShift → ℕ → ℕ → List ℕ → List ℕ → List ℕ
shift_values op bits k [] ns = []
shift_values op bits k (d ∷ ds) [] = []
shift_values op bits k (d ∷ ds) (n ∷ ns) = shift_value op bits k d n ∷ shift_values op bits k ds ns

-- Where the lane at a place comes from, among those of both operands, one operand behind the
-- other: even places take from the first one and odd places from the second one, but where
-- every other lane is taken of both.
unfoldable pub taken_from : Permutation → ℕ → ℕ → ℕ
taken_from permutation.Trn1 count j = if j % 2 == 0 then j else count + (j - 1)
taken_from permutation.Trn2 count j = if j % 2 == 0 then j + 1 else count + j
taken_from permutation.Zip1 count j = if j % 2 == 0 then j / 2 else count + j / 2
taken_from permutation.Zip2 count j =
    if j % 2 == 0 then count / 2 + j / 2 else count + (count / 2 + j / 2)
taken_from permutation.Uzp1 count j = 2 * j
taken_from permutation.Uzp2 count j = 2 * j + 1

-- so many lanes in their new places, from a place on
unfoldable pub permuted : Permutation → ℕ → List ℕ → ℕ → ℕ → List ℕ
permuted op count both place zero = []
permuted op count both place (suc left) =
    slice_index both (taken_from op count place) ∷ permuted op count both (place + 1) left

-- the value of the output, from the numbers of the instruction and the values of its operands
unfoldable pub vector_value : Vector → List ℤ → List ℕ → ℕ
vector_value (vector.Lanewise op lanes) imms ins =
    joined (lane_bits lanes) (lane_values op (lane_bits lanes)
    (lanes_of (lane_bits lanes) (lane_count lanes) (slice_index ins 2))
    (lanes_of (lane_bits lanes) (lane_count lanes) (slice_index ins 0))
    (lanes_of (lane_bits lanes) (lane_count lanes) (slice_index ins 1)))
vector_value (vector.ByElement op lanes) imms ins =
    joined (lane_bits lanes) (lane_values op (lane_bits lanes)
    (lanes_of (lane_bits lanes) (lane_count lanes) (slice_index ins 2))
    (lanes_of (lane_bits lanes) (lane_count lanes) (slice_index ins 0))
    (repeated (lane_count lanes)
    (slice_index (lanes_of (lane_bits lanes) (128 / lane_bits lanes) (slice_index ins 1))
    (number imms 0))))
vector_value (vector.Copy lanes) imms ins =
    joined (lane_bits lanes) (lanes_of (lane_bits lanes) (lane_count lanes) (slice_index ins 0))
vector_value (vector.Long signed adds high lanes) imms ins =
    joined (lane_bits lanes) (long_values signed (lane_bits lanes / 2)
    (lanes_of (lane_bits lanes) (lane_count lanes) (added_to adds (slice_index ins 2)))
    (lanes_of (lane_bits lanes / 2) (lane_count lanes) (half_of high (slice_index ins 0)))
    (lanes_of (lane_bits lanes / 2) (lane_count lanes) (half_of high (slice_index ins 1))))
vector_value (vector.Shift op lanes) imms ins =
    joined (lane_bits lanes) (shift_values op (lane_bits lanes) (number imms 0)
    (lanes_of (lane_bits lanes) (lane_count lanes) (slice_index ins 1))
    (lanes_of (lane_bits lanes) (lane_count lanes) (slice_index ins 0)))
vector_value (vector.Narrow lanes) imms ins =
    joined (lane_bits lanes) (lanes_of (2 * lane_bits lanes) (lane_count lanes) (slice_index ins 0))
vector_value (vector.Permute op lanes) imms ins =
    joined (lane_bits lanes) (permuted op (lane_count lanes)
    (lanes_of (lane_bits lanes) (lane_count lanes) (slice_index ins 0)
    ++ lanes_of (lane_bits lanes) (lane_count lanes) (slice_index ins 1))
    0 (lane_count lanes))
vector_value (vector.Extract lanes) imms ins =
    joined (lane_bits lanes) (take (lane_count lanes) (drop (number imms 0)
    (lanes_of (lane_bits lanes) (lane_count lanes) (slice_index ins 0)
    ++ lanes_of (lane_bits lanes) (lane_count lanes) (slice_index ins 1))))
vector_value (vector.DupLane lanes) imms ins =
    joined (lane_bits lanes)
    (repeated (lane_count lanes)
    (slice_index (lanes_of (lane_bits lanes) (128 / lane_bits lanes) (slice_index ins 0))
    (number imms 0)))
vector_value (vector.DupGeneral lanes) imms ins =
    joined (lane_bits lanes) (repeated (lane_count lanes) (slice_index ins 0))
vector_value (vector.InsertGeneral lane) imms ins =
    joined (bits_of lane) (slice_set
    (lanes_of (bits_of lane) (count_of lane) (slice_index ins 1)) (number imms 0)
    (slice_index ins 0))
vector_value (vector.InsertLane lane) imms ins =
    joined (bits_of lane) (slice_set
    (lanes_of (bits_of lane) (count_of lane) (slice_index ins 1)) (number imms 0)
    (slice_index (lanes_of (bits_of lane) (count_of lane) (slice_index ins 0)) (number imms 1)))
vector_value (vector.MoveOut lane) imms ins =
    slice_index (lanes_of (bits_of lane) (count_of lane) (slice_index ins 0)) (number imms 0)
