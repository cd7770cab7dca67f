-- The test is computed once, for the laws too.
use Rattle.arm64_table.specs.Laws.{readable}
use Rattle.arm64_table.proofs.rows.is_readable.Goals as goal

pub returns : goal.returns
returns c = readable
