-- Instructions of a set.
use Rattle.std.proofs.Common.{◌≤◌, suc, List, [], ◌∷◌, arith}
use Rattle.std.specs.List.{AllByRecursion}
use Rattle.sl_model.specs.declared.instruction.Instr.{Instr}
use Rattle.sl_model.specs.Isa.{Isa}
use Rattle.sl_model.specs.Lawful.{IsValid, AreValid}

-- all instructions of a list are of the set, one after the other
pub all-valid : (isa : Isa) (items : List Instr) → AreValid isa items → AllByRecursion (IsValid isa) items
all-valid isa [] v = tt
all-valid isa (i ∷ items) v = (v 0 (omega arith), all-valid isa items (λ p h. v (suc p) (omega (arith, h))))
