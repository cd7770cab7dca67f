use Rattle.std.proofs.Common.{refl}
use Rattle.sl_isa.specs.Arch.{padded_values}
use Rattle.arm64_table.specs.Document.{each}
use Rattle.arm64_table.proofs.rows.accesses.Goals as goal

pub returns : goal.returns
unfolding padded_values each
returns c = refl
