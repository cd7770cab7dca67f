-- What a vector instruction gives fits a register; and what other crates cite on lanes.
use Rattle.std.proofs.Common.{ℕ, ℤ, ◌*◌, ◌/◌, ◌^◌, ◌<◌, ◌≤◌, List, ◌++◌, length, arith}
use Rattle.std.specs.Prelude.{slice_index}
use Rattle.std.proofs.Math.Nat.{pow-le-pow_right}
use Rattle.sl_isa.specs.declared.meaning.Arrangement.{Arrangement}
use Rattle.sl_isa.specs.declared.meaning.Arrangement.TheVariants as arrangement
use Rattle.sl_isa.specs.declared.meaning.Lane.{Lane}
use Rattle.sl_isa.specs.declared.meaning.Lane.TheVariants as kind
use Rattle.sl_isa.specs.declared.meaning.Vector.{Vector}
use Rattle.sl_isa.specs.declared.meaning.Vector.TheVariants as vector
use Rattle.bit_ops.specs.Bits.{number}
use Rattle.lane_ops.specs.Lanes.{lane_bits, lane_count, bits_of, count_of, lanes_of, joined, repeated}
use Rattle.lane_ops.specs.Vector.{vector_value, half_of, added_to}
use Rattle.lane_ops.proofs.Lanes.{joined_below}
use Rattle.lane_ops.proofs.LaneByLane.{length-by_element, length-lanewise, length-products, length-shifts}
use Rattle.lane_ops.proofs.Moves.{lane_below, length-repeated, length-narrowed, length-inserted, length-extracted, length-permuted}
pub use Rattle.lane_ops.proofs.Lanes.{joined_below, length-lanes_of}

joined_fits : (bits count : ℕ) (lanes : List ℕ) → bits * count ≤ 128 → length lanes ≤ count → joined bits lanes < 2 ^ 128
joined_fits bits count lanes fits few =
    let below = joined_below bits lanes count few in
    let wide : 2 ^ (bits * count) ≤ 2 ^ 128 = pow-le-pow_right (omega arith) fits in
    omega (arith, below, wide)

arranged_fits : (lanes : Arrangement) → lane_bits lanes * lane_count lanes ≤ 128
arranged_fits arrangement.Bytes8 = omega arith
arranged_fits arrangement.Bytes16 = omega arith
arranged_fits arrangement.Halves4 = omega arith
arranged_fits arrangement.Halves8 = omega arith
arranged_fits arrangement.Words2 = omega arith
arranged_fits arrangement.Words4 = omega arith
arranged_fits arrangement.Doubles2 = omega arith

whole_fits : (lane : Lane) → bits_of lane * count_of lane ≤ 128
whole_fits kind.Byte = omega arith
whole_fits kind.Half = omega arith
whole_fits kind.Word = omega arith
whole_fits kind.Double = omega arith

narrow : (lane : Lane) → bits_of lane ≤ 64
narrow kind.Byte = omega arith
narrow kind.Half = omega arith
narrow kind.Word = omega arith
narrow kind.Double = omega arith

arranged : (lanes : Arrangement) (list : List ℕ) → length list ≤ lane_count lanes → joined (lane_bits lanes) list < 2 ^ 128
arranged lanes list few = joined_fits (lane_bits lanes) (lane_count lanes) list (arranged_fits lanes) few

pub moved_out_fits : (lane : Lane) (imms : List ℤ) (ins : List ℕ) → vector_value (vector.MoveOut lane) imms ins < 2 ^ 64
unfolding vector_value
moved_out_fits lane imms ins =
    let below = lane_below (bits_of lane) (count_of lane) (slice_index ins 0) (number imms 0) in
    let wide : 2 ^ bits_of lane ≤ 2 ^ 64 = pow-le-pow_right (omega arith) (narrow lane) in
    omega (arith, below, wide)

pub value_fits : (op : Vector) (imms : List ℤ) (ins : List ℕ) → vector_value op imms ins < 2 ^ 128
unfolding vector_value
value_fits (vector.Lanewise op lanes) imms ins =
    arranged lanes _ (length-lanewise op (lane_bits lanes) (lane_count lanes)
    (slice_index ins 2) (slice_index ins 0) (slice_index ins 1))
value_fits (vector.ByElement op lanes) imms ins =
    arranged lanes _ (length-by_element op (lane_bits lanes) (lane_count lanes) (slice_index ins 2)
    (lanes_of (lane_bits lanes) (lane_count lanes) (slice_index ins 0))
    (repeated (lane_count lanes)
    (slice_index (lanes_of (lane_bits lanes) (128 / lane_bits lanes) (slice_index ins 1)) (number imms 0))))
value_fits (vector.Copy lanes) imms ins =
    arranged lanes _ (length-narrowed (lane_bits lanes) (lane_count lanes) (slice_index ins 0))
value_fits (vector.Long signed adds high lanes) imms ins =
    arranged lanes _ (length-products signed (lane_bits lanes) (lane_bits lanes / 2) (lane_count lanes)
    (added_to adds (slice_index ins 2)) (half_of high (slice_index ins 0)) (half_of high (slice_index ins 1)))
value_fits (vector.Shift op lanes) imms ins =
    arranged lanes _ (length-shifts op (lane_bits lanes) (number imms 0) (lane_count lanes) (slice_index ins 1) (slice_index ins 0))
value_fits (vector.Narrow lanes) imms ins =
    arranged lanes _ (length-narrowed (2 * lane_bits lanes) (lane_count lanes) (slice_index ins 0))
value_fits (vector.Permute op lanes) imms ins =
    arranged lanes _ (length-permuted op (lane_count lanes) 0 (lane_count lanes)
    (lanes_of (lane_bits lanes) (lane_count lanes) (slice_index ins 0) ++ lanes_of (lane_bits lanes) (lane_count lanes) (slice_index ins 1)))
value_fits (vector.Extract lanes) imms ins =
    arranged lanes _ (length-extracted (lane_count lanes) (number imms 0)
    (lanes_of (lane_bits lanes) (lane_count lanes) (slice_index ins 0) ++ lanes_of (lane_bits lanes) (lane_count lanes) (slice_index ins 1)))
value_fits (vector.DupLane lanes) imms ins =
    arranged lanes _ (length-repeated (lane_count lanes)
    (slice_index (lanes_of (lane_bits lanes) (128 / lane_bits lanes) (slice_index ins 0)) (number imms 0)))
value_fits (vector.DupGeneral lanes) imms ins = arranged lanes _ (length-repeated (lane_count lanes) (slice_index ins 0))
value_fits (vector.InsertGeneral lane) imms ins =
    joined_fits (bits_of lane) (count_of lane) _ (whole_fits lane)
    (length-inserted (bits_of lane) (count_of lane) (slice_index ins 1) (number imms 0) (slice_index ins 0))
value_fits (vector.InsertLane lane) imms ins =
    joined_fits (bits_of lane) (count_of lane) _ (whole_fits lane)
    (length-inserted (bits_of lane) (count_of lane) (slice_index ins 1) (number imms 0)
    (slice_index (lanes_of (bits_of lane) (count_of lane) (slice_index ins 0)) (number imms 1)))
value_fits (vector.MoveOut lane) imms ins =
    let small = moved_out_fits lane imms ins in
    let wide : 2 ^ 64 ≤ 2 ^ 128 = omega arith in
    omega (arith, small, wide)
