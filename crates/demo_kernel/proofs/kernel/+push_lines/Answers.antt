use Rattle.std.proofs.Common.{◌≡◌, ◌∙◌, ◌++◌, ◌+◌, ◌-◌, ap, arith}
use Rattle.demo_kernel.specs.Kernel as spec
use Rattle.demo_kernel.proofs.Steps.{line-drawn, lines-pushed}
use Rattle.demo_kernel.proofs.kernel.+push_lines.Goals as goal

pub returns : goal.returns
returns t c =
    lines-pushed c.push_lines.result c.args.out.now.items _ _ c.args.more (c.args.more - 1) c.args.item (c.args.item + 1) c.args.number c.next-second.result
    (omega (arith, c.if-more-eq0.false)) (omega arith) (cc)
    (c.in_ok-push_line.ensures ∙ ap (λ l. c.args.out.now.items ++ l) (line-drawn c.args.item c.args.number c.next-what.result c.next-first.result c.next-second.result c.drawn.result c.drawn-2.result c.drawn-3.result c.next-what.ensures c.next-first.ensures c.next-second.ensures c.drawn.ensures.value c.drawn-2.ensures.value c.drawn-3.ensures.value))
    c.push_lines.ensures
