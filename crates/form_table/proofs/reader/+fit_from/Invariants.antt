use Rattle.std.proofs.Common.{length}
use Rattle.form_table.proofs.reader.+fit_from.Given as goal

abbrev pub decreases-fit_from : goal.decreases-fit_from
decreases-fit_from l = length l.rows.now
