use Rattle.std.proofs.Common.{length}
use Rattle.form_table.proofs.reader.+place.Given as goal

abbrev pub decreases-place : goal.decreases-place
decreases-place l = length l.places.now
