-- Symbolic registers that are read before they are set. Source: this project's own; a symbolic
-- register stands for one that is still to be chosen, so nothing is in it before it is written.
use Rattle.std.specs.Prelude.{ℕ, Bool, false, not, is_some, List, [], ◌∷◌, ◌++◌, Option, None, Some, if◌then◌else◌}
use Rattle.std.specs.List.{list_any}
use Rattle.sl_model.specs.declared.register.Reg.{Reg}
use Rattle.sl_model.specs.declared.instruction.Instr.{Instr}
use Rattle.sl_model.specs.Source.{operands, outputs, place_from}

-- Does one of some items write a register?
abbrev pub is_written : List Instr → Reg → Bool
is_written items r = list_any (λ i. is_some (place_from 0 r (outputs i))) items

-- Is a register symbolic, and does none of some items write it?
abbrev pub is_unset : List Instr → Reg → Bool
is_unset items r = if r.symbolic then not (is_written items r) else false

-- Does an item read a symbolic register that none of those above writes?
abbrev pub reads_unset : List Instr → Instr → Bool
reads_unset above i = list_any (is_unset above) (operands i)

-- the line of the first such item of some that stand below others
unfoldable pub first_unset : List Instr → List Instr → Option ℕ
first_unset above [] = None
first_unset above (i ∷ items) =
    if reads_unset above i then Some i.line else first_unset (above ++ i ∷ []) items
