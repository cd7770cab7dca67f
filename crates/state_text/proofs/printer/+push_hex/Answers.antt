use Rattle.std.proofs.Common.{◌<◌, ◌-◌, ◌∷◌, [], ap, ◌∙◌, sym, arith, rules}
use Rattle.state_text.specs.StateText.{hex_digits}
use Rattle.state_text.proofs.Printing.{digits_none, digits_more, in_two}
use Rattle.state_text.proofs.printer.+push_hex.Goals as goal

pub returns-then-count-eq0 : goal.returns-then-count-eq0
returns-then-count-eq0 t c = rw (digits_none c.args.count c.args.number c.if-count-eq0.true) (search rules)

pub returns : goal.returns
returns t c =
    let some : 0 < c.args.count = omega arith in
    in_two c.push_hex.result c.args.out.now.items c.append.new.out.items c.push_hex.new.out.items (c.hex_digit.result ∷ []) (hex_digits (c.args.count - 1) c.args.number) (hex_digits c.args.count c.args.number)
    c.in_ok-append.ensures.ok
    (digits_more c.args.count c.args.number some ∙ ap (λ d. d ∷ hex_digits (c.args.count - 1) c.args.number) (sym c.hex_digit.ensures))
    c.push_hex.ensures
