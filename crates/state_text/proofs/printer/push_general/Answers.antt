use Rattle.std.proofs.Common.{ap, ◌∙◌}
use Rattle.sl_model.specs.RegisterNames.{registers_from, general_registers}
use Rattle.state_text.specs.StateText.{registers_text}
use Rattle.sl_model.specs.declared.register.Bank.TheVariants.{General}
use Rattle.state_text.proofs.Printing.{registers_in_two, in_two}
use Rattle.state_text.proofs.printer.push_general.Goals as goal

pub returns-in_ok-push_registers_from-in-M4 : goal.returns-in_ok-push_registers_from-in-M4
unfolding general_registers
returns-in_ok-push_registers_from-in-M4 c =
    in_two c.push_registers_from-in-M4-2.result c.args.out.now.items c.push_registers_from-in-M4.new.out.items c.push_registers_from-in-M4-2.new.out.items
    (registers_text c.args.arch (registers_from General 0 13) c.args.state.now)
    (registers_text c.args.arch (registers_from General 14 1) c.args.state.now)
    (registers_text c.args.arch (general_registers c.args.arch) c.args.state.now)
    c.in_ok-push_registers_from-in-M4.ensures
    (ap (λ arch. registers_text c.args.arch (general_registers arch) c.args.state.now) c.in-M4.is
    ∙ registers_in_two c.args.arch (registers_from General 0 13) (registers_from General 14 1) c.args.state.now)
    c.push_registers_from-in-M4-2.ensures
