use Rattle.std.proofs.Common.{◌≡◌, ◌∙◌, ap, length, refl}
use Rattle.sl_isa.specs.Arch.{padded_values}
use Rattle.m4_table.specs.Document.{document}
use Rattle.m4_table.proofs.rows.table.Goals as goal

counted : length document ≡ 174
unfolding padded_values document
counted = refl

pub returns-clause-rows : goal.returns-clause-rows
unfolding document
returns-clause-rows c = cc

pub returns-clause-count : goal.returns-clause-count
unfolding document
returns-clause-count c = ap length (returns-clause-rows c) ∙ counted
