-- Instructions that are items in other registers. Source: SLOTHY (TCHES 2024), register renaming.
use Rattle.std.specs.Prelude.{List, [], ◌∷◌}
use Rattle.sl_model.specs.declared.instruction.Instr.{Instr}
use Rattle.sl_model.specs.declared.schedule.Choice.{Choice}
use Rattle.sl_model.specs.Source.{item_at}
use Rattle.sl_model.specs.Isa.{Isa}
use Rattle.sl_isa.specs.Language.{IsRenaming}

-- Instructions are the items of choices, one each in their order, in other registers.
abbrev pub AreRenamings : Isa → List Instr → List Choice → List Instr → Type 0
AreRenamings isa items [] [] = Unit {0}
AreRenamings isa items [] (j ∷ list) = ⊥
AreRenamings isa items (c ∷ schedule) [] = ⊥
AreRenamings isa items (c ∷ schedule) (j ∷ list) =
    IsRenaming isa (item_at items c.item) j × AreRenamings isa items schedule list
