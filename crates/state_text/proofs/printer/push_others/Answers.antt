use Rattle.sl_model.specs.declared.register.Bank.TheVariants.{Vector, Flags, Stack}
use Rattle.sl_model.specs.RegisterNames.{registers_from, other_registers}
use Rattle.state_text.specs.StateText.{registers_text}
use Rattle.state_text.proofs.Printing.{others_are, in_three}
use Rattle.state_text.proofs.printer.push_others.Goals as goal

pub returns : goal.returns
returns c =
    in_three c.push_registers_from-3.result c.args.out.now.items c.push_registers_from.new.out.items c.push_registers_from-2.new.out.items c.push_registers_from-3.new.out.items
    (registers_text c.args.arch (registers_from Stack 0 1) c.args.state.now)
    (registers_text c.args.arch (registers_from Vector 0 32) c.args.state.now)
    (registers_text c.args.arch (registers_from Flags 0 1) c.args.state.now)
    (registers_text c.args.arch other_registers c.args.state.now)
    c.in_ok-push_registers_from.ensures c.in_ok-push_registers_from-2.ensures (others_are c.args.arch c.args.state.now) c.push_registers_from-3.ensures
