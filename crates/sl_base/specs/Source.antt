-- What the readers of the system have left.
use Rattle.std.specs.Prelude.{ℕ, List}
use Rattle.std.specs.declared.option.Option.{Option}
use Rattle.sl_base.specs.declared.system.Source.{Source}
use Rattle.sl_base.specs.declared.system.Source.TheVariants.{File, Input}

-- the bytes that are left of what is read
abbrev pub source_left : {F I : Type 0} → (F → Option (List ℕ)) → (I → Option (List ℕ)) → Source F I
    → Option (List ℕ)
source_left files inputs (File file) = files file
source_left files inputs (Input input) = inputs input
