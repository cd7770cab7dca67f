use Rattle.std.proofs.Common.{length}
use Rattle.machine_sem.proofs.run.+store_bytes.Given as goal

abbrev pub decreases-store_bytes : goal.decreases-store_bytes
decreases-store_bytes l = length l.bytes.now
