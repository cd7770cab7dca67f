use Rattle.std.proofs.Common.{refl}
use Rattle.sl_isa.specs.Arch.{padded_values}
use Rattle.m4_table.proofs.rows.others.Goals as goal

pub returns : goal.returns
unfolding padded_values
returns c = refl
