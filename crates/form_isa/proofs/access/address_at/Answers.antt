use Rattle.std.proofs.Common.{FitsSigned}
use Rattle.std.proofs.lemmas.Int.{to_z-of_z}
use Rattle.std.specs.Int.{w64, w128}
use Rattle.form_isa.proofs.Addresses.{address_is}
use Rattle.form_isa.proofs.access.address_at.Goals as goal

pub returns : goal.returns
returns c =
    let f : FitsSigned w128 c.low_part.result = record { sfits = c.low_part.type_inv } in
    let g : FitsSigned w128 c.moved.result = record { sfits = c.moved.type_inv } in
    let h : FitsSigned w64 c.args.offset = record { sfits = c.ranges.offset.sfits } in
    let moved = simp to_z-of_z at c.moved.ensures in
    let wrapped = simp to_z-of_z at c.wrapped.ensures in
    let end =
    address_is c.args.arch c.args.base c.low_part.result c.moved.result c.args.offset c.low_part.ensures.value moved in
    cc
