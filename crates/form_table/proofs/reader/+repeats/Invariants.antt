use Rattle.std.proofs.Common.{length}
use Rattle.form_table.proofs.reader.+repeats.Given as goal

abbrev pub decreases-repeats : goal.decreases-repeats
decreases-repeats l = length l.places.now
