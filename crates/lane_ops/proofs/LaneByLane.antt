-- Operations lane by lane: with one lane more, with none, and how many lanes there are.
use Rattle.std.proofs.Common.{◌≡◌, refl, Bool, ℕ, suc, ◌*◌, ◌/◌, ◌%◌, ◌+◌, ◌^◌, ◌≤◌, List, [], ◌∷◌, length, arith}
use Rattle.sl_isa.specs.declared.meaning.LaneOp.{LaneOp}
use Rattle.sl_isa.specs.declared.meaning.LaneShift.{LaneShift}
use Rattle.lane_ops.specs.Lanes.{lanes_of, joined}
use Rattle.lane_ops.specs.Vector.{lane_value, lane_values, long_value, long_values, shift_value, shift_values}
use Rattle.lane_ops.proofs.Lanes.{length-lanes_of}

length-lane_values : (op : LaneOp) (bits : ℕ) (ds ns ms : List ℕ) → length (lane_values op bits ds ns ms) ≤ length ds
unfolding lane_values
length-lane_values op bits [] ns ms = omega arith
length-lane_values op bits (d ∷ ds) [] ms = omega arith
length-lane_values op bits (d ∷ ds) (n ∷ ns) [] = omega arith
length-lane_values op bits (d ∷ ds) (n ∷ ns) (m ∷ ms) = let h = length-lane_values op bits ds ns ms in omega arith

-- the operation on the lanes of three registers
abbrev pub lanewise : LaneOp → ℕ → ℕ → ℕ → ℕ → ℕ → List ℕ
lanewise op bits count d n m = lane_values op bits (lanes_of bits count d) (lanes_of bits count n) (lanes_of bits count m)

pub lanewise_none : (op : LaneOp) (bits d n m : ℕ) → joined bits (lanewise op bits 0 d n m) ≡ 0
unfolding joined lane_values lanes_of
lanewise_none op bits d n m = refl

pub lanewise_more : (op : LaneOp) (bits count d n m : ℕ) → joined bits (lanewise op bits (suc count) d n m)
    ≡ lane_value op bits (d % 2 ^ bits) (n % 2 ^ bits) (m % 2 ^ bits) % 2 ^ bits
    + 2 ^ bits * joined bits (lanewise op bits count (d / 2 ^ bits) (n / 2 ^ bits) (m / 2 ^ bits))
unfolding joined lane_values lanes_of
lanewise_more op bits count d n m = refl

pub length-by_element : (op : LaneOp) (bits count d : ℕ) (ns ms : List ℕ) → length (lane_values op bits (lanes_of bits count d) ns ms) ≤ count
length-by_element op bits count d ns ms =
    let h = length-lane_values op bits (lanes_of bits count d) ns ms in
    let l = length-lanes_of bits count d in
    omega arith

pub length-lanewise : (op : LaneOp) (bits count d n m : ℕ) → length (lanewise op bits count d n m) ≤ count
length-lanewise op bits count d n m = length-by_element op bits count d (lanes_of bits count n) (lanes_of bits count m)

length-long_values : (signed : Bool) (half : ℕ) (ds ns ms : List ℕ) → length (long_values signed half ds ns ms) ≤ length ds
unfolding long_values
length-long_values signed half [] ns ms = omega arith
length-long_values signed half (d ∷ ds) [] ms = omega arith
length-long_values signed half (d ∷ ds) (n ∷ ns) [] = omega arith
length-long_values signed half (d ∷ ds) (n ∷ ns) (m ∷ ms) = let h = length-long_values signed half ds ns ms in omega arith

-- products of lanes of half as many bits
abbrev pub products : Bool → ℕ → ℕ → ℕ → ℕ → ℕ → ℕ → List ℕ
products signed bits half count d n m = long_values signed half (lanes_of bits count d) (lanes_of half count n) (lanes_of half count m)

pub products_none : (signed : Bool) (bits half d n m : ℕ) → joined bits (products signed bits half 0 d n m) ≡ 0
unfolding joined long_values lanes_of
products_none signed bits half d n m = refl

pub products_more : (signed : Bool) (bits half count d n m : ℕ) → joined bits (products signed bits half (suc count) d n m)
    ≡ long_value signed half (d % 2 ^ bits) (n % 2 ^ half) (m % 2 ^ half) % 2 ^ bits
    + 2 ^ bits * joined bits (products signed bits half count (d / 2 ^ bits) (n / 2 ^ half) (m / 2 ^ half))
unfolding joined long_values lanes_of
products_more signed bits half count d n m = refl

pub length-products : (signed : Bool) (bits half count d n m : ℕ) → length (products signed bits half count d n m) ≤ count
length-products signed bits half count d n m =
    let h = length-long_values signed half (lanes_of bits count d) (lanes_of half count n) (lanes_of half count m) in
    let l = length-lanes_of bits count d in
    omega arith

length-shift_values : (op : LaneShift) (bits by : ℕ) (ds ns : List ℕ) → length (shift_values op bits by ds ns) ≤ length ds
unfolding shift_values
length-shift_values op bits by [] ns = omega arith
length-shift_values op bits by (d ∷ ds) [] = omega arith
length-shift_values op bits by (d ∷ ds) (n ∷ ns) = let h = length-shift_values op bits by ds ns in omega arith

-- shifts of lanes
abbrev pub shifts : LaneShift → ℕ → ℕ → ℕ → ℕ → ℕ → List ℕ
shifts op bits by count d n = shift_values op bits by (lanes_of bits count d) (lanes_of bits count n)

pub shifts_none : (op : LaneShift) (bits by d n : ℕ) → joined bits (shifts op bits by 0 d n) ≡ 0
unfolding joined shift_values lanes_of
shifts_none op bits by d n = refl

pub shifts_more : (op : LaneShift) (bits by count d n : ℕ) → joined bits (shifts op bits by (suc count) d n)
    ≡ shift_value op bits by (d % 2 ^ bits) (n % 2 ^ bits) % 2 ^ bits
    + 2 ^ bits * joined bits (shifts op bits by count (d / 2 ^ bits) (n / 2 ^ bits))
unfolding joined shift_values lanes_of
shifts_more op bits by count d n = refl

pub length-shifts : (op : LaneShift) (bits by count d n : ℕ) → length (shifts op bits by count d n) ≤ count
length-shifts op bits by count d n =
    let h = length-shift_values op bits by (lanes_of bits count d) (lanes_of bits count n) in
    let l = length-lanes_of bits count d in
    omega arith
