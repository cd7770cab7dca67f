use Rattle.std.proofs.Common.{◌≡◌, pos, ◌+ℤ◌, ◌*ℤ◌, ◌^◌, ◌-◌, FitsSigned}
use Rattle.std.proofs.lemmas.Int.{to_z-of_z}
use Rattle.std.specs.Int.{w128, int_div_euclid}
use Rattle.lane_ops.specs.Lanes.{signed}
use Rattle.lane_ops.proofs.Halving.{doubled_is}
use Rattle.lane_ops.proofs.signed.doubled_high.Goals as goal

pub returns : goal.returns
returns c =
    let f : FitsSigned w128 c.signed.result = record { sfits = c.signed.type_inv } in
    let g : FitsSigned w128 c.signed-2.result = record { sfits = c.signed-2.type_inv } in
    let p : FitsSigned w128 c.product.result = record { sfits = c.product.type_inv } in
    let h : FitsSigned w128 c.high_part-high.result = record { sfits = c.high_part-high.type_inv } in
    let s : FitsSigned w128 c.saturated.result = record { sfits = c.saturated.type_inv } in
    let product = simp to_z-of_z at c.product.ensures.value in
    let high = simp to_z-of_z at c.high_part-high.ensures in
    let saturated = simp to_z-of_z at c.saturated.ensures in
    let low = simp to_z-of_z at c.low_bits.ensures in
    let first = c.signed.ensures.value in
    let second = c.signed-2.ensures.value in
    let is : c.high_part-high.result ≡ int_div_euclid (signed c.args.bits c.args.n *ℤ signed c.args.bits c.args.m +ℤ pos c.args.added) (pos (2 ^ (c.args.bits - 1))) = cc in
    let end = doubled_is c.args.bits c.args.n c.args.m c.args.added c.high_part-high.result c.requires.some is in
    cc
