use Rattle.std.proofs.Common.{length}
use Rattle.machine_sem.proofs.run.+load_bytes.Given as goal

abbrev pub decreases-load_bytes : goal.decreases-load_bytes
decreases-load_bytes l = length l.bytes.now
