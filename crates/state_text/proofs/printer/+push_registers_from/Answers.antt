use Rattle.std.proofs.Common.{◌<◌, ◌+◌, ◌-◌, ◌++◌, ap, ◌∙◌, sym, arith, rules}
use Rattle.sl_model.specs.RegisterNames.{registers_from}
use Rattle.state_text.specs.StateText.{register_text, registers_text}
use Rattle.state_text.proofs.Printing.{registers_none, registers_more, in_two}
use Rattle.state_text.proofs.printer.+push_registers_from.Goals as goal

pub returns-then-count-eq0 : goal.returns-then-count-eq0
returns-then-count-eq0 t c = rw (registers_none c.args.arch c.args.bank c.args.first c.args.count c.args.state.now c.if-count-eq0.true) (search rules)

pub returns : goal.returns
returns t c =
    let some : 0 < c.args.count = omega arith in
    in_two c.push_registers_from.result c.args.out.now.items c.push_register.new.out.items c.push_registers_from.new.out.items (register_text c.args.arch c.register_in.result c.args.state.now)
    (registers_text c.args.arch (registers_from c.args.bank (c.args.first + 1) (c.args.count - 1)) c.args.state.now)
    (registers_text c.args.arch (registers_from c.args.bank c.args.first c.args.count) c.args.state.now)
    c.in_ok-push_register.ensures
    (registers_more c.args.arch c.args.bank c.args.first c.args.count c.args.state.now some
    ∙ ap (λ r. register_text c.args.arch r c.args.state.now ++ registers_text c.args.arch (registers_from c.args.bank (c.args.first + 1) (c.args.count - 1)) c.args.state.now) (sym c.register_in.ensures))
    c.push_registers_from.ensures
