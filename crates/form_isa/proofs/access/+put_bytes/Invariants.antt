use Rattle.std.proofs.Common.{length}
use Rattle.form_isa.proofs.access.+put_bytes.Given as goal

abbrev pub decreases-put_bytes : goal.decreases-put_bytes
decreases-put_bytes l = length l.places.now
