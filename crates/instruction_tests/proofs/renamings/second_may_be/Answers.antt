use Rattle.std.proofs.Common.{◌∙◌, sym, ap, get_or}
use Rattle.sl_model.specs.declared.register.RegSet.{RegSet}
use Rattle.sl_model.specs.declared.instruction.FormInfo.{FormInfo}
use Rattle.sl_model.specs.RegSets.{set_has}
use Rattle.instruction_tests.proofs.NeverThere.{known-form, never-there}
use Rattle.instruction_tests.proofs.renamings.second_may_be.Goals as goal

pub info-requires : goal.info-requires
info-requires c = known-form c.args.instr.now c.requires

pub returns : goal.returns
returns c none j renaming there =
    let nothing : RegSet = record { bits = 0 } in
    never-there c.args.instr.now j c.args.reg nothing renaming
    (ap (λ (info : FormInfo). set_has (get_or info.in_sets 1 nothing) c.args.reg) (sym c.info.ensures) ∙ (sym c.set_has.ensures ∙ none)) there
