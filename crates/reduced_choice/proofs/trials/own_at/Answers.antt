use Rattle.std.proofs.Common.{get_or, ap, ◌∙◌}
use Rattle.std.specs.Option.{unwrap_or}
use Rattle.std.proofs.lemmas.Option.{unwrap_or-slice_get}
use Rattle.sl_model.specs.declared.register.Bank.TheVariants.{General}
use Rattle.sl_model.specs.Source.{outputs}
use Rattle.search_space.specs.Next.{machine_reg}
use Rattle.reduced_choice.proofs.trials.own_at.Goals as goal

pub returns-in-None : goal.returns-in-None
returns-in-None c =
    c.reg_of_bit.ensures ∙ ap (λ o. unwrap_or o (machine_reg General 0)) c.in-None.ensures
    ∙ unwrap_or-slice_get (outputs c.item-own.result.now) c.args.place (machine_reg General 0) ∙ ap (λ i. get_or (outputs i) c.args.place (machine_reg General 0)) c.item-own.ensures
