-- Which registers choices write.
use Rattle.std.specs.Prelude.{Bool, List}
use Rattle.std.specs.List.{list_any}
use Rattle.sl_model.specs.declared.register.Reg.{Reg}
use Rattle.sl_model.specs.declared.schedule.Choice.{Choice}
use Rattle.sl_model.specs.Body.{chosen}
use Rattle.sl_model.specs.Program.{is_one_of}

-- Did one of these choices take a register for an output?
abbrev pub is_chosen : Reg → List Choice → Bool
is_chosen r choices = list_any (λ c. is_one_of r (chosen c)) choices
