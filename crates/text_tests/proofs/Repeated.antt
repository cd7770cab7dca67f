-- What holds of an element holds of a list of it alone.
use Rattle.std.proofs.Common.{ℕ, zero, suc, replicate}
use Rattle.std.specs.List.{AllByRecursion}

pub all_replicate : {X : Type 0} (P : X → Type 0) (x : X) → P x → (n : ℕ) → AllByRecursion P (replicate n x)
all_replicate P x h zero = tt
all_replicate P x h (suc n) = (h, all_replicate P x h n)
