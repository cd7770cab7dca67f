-- Machines: their spaces of addresses.
use Rattle.std.proofs.Common.{◌^◌, ◌<◌, ◌≤◌, lit≤, arith}
use Rattle.sl_model.specs.declared.instruction.ArchName.{ArchName}
use Rattle.sl_model.specs.declared.instruction.ArchName.TheVariants.{Arm64, M4}
use Rattle.sl_model.specs.Machine.{space_of}

-- an access is far smaller than the space of addresses
pub space-large : (name : ArchName) → 2 ^ 32 ≤ space_of name
space-large Arm64 = lit≤ tt
space-large M4 = lit≤ tt

-- there is an address
pub space-some : (name : ArchName) → 0 < space_of name
space-some name = let large : 2 ^ 32 ≤ space_of name = space-large name in omega (arith, large)
