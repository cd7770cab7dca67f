use Rattle.std.proofs.Common.{length}
use Rattle.form_table.proofs.spells.+name_place.Given as goal

abbrev pub decreases-name_place : goal.decreases-name_place
decreases-name_place l = length l.names.now
