use Rattle.std.specs.FinMap.{entries}
use Rattle.sl_model.specs.RegisterNames.{general_registers, other_registers}
use Rattle.state_text.specs.StateText.{registers_text, bytes_text, state_text}
use Rattle.state_text.proofs.Printing.{state_is, in_three}
use Rattle.state_text.proofs.printer.push_state.Goals as goal

pub returns : goal.returns
returns c =
    in_three c.push_bytes.result c.args.out.now.items c.push_general.new.out.items c.push_others.new.out.items c.push_bytes.new.out.items
    (registers_text c.args.arch (general_registers c.args.arch) c.args.state.now)
    (registers_text c.args.arch other_registers c.args.state.now)
    (bytes_text c.args.arch (entries c.args.state.now.memory))
    (state_text c.args.arch c.args.state.now)
    c.in_ok-push_general.ensures c.in_ok-push_others.ensures (state_is c.args.arch c.args.state.now) c.push_bytes.ensures
