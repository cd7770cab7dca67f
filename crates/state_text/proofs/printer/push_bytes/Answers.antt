use Rattle.std.proofs.Common.{◌+◌, ◌++◌, sym, ap, ◌∙◌}
use Rattle.std.specs.FinMap.{entries}
use Rattle.state_text.specs.StateText.{bytes_behind, bytes_text}
use Rattle.state_text.proofs.Printing.{bytes_none, bytes_begin, bytes_more, bytes_end}
use Rattle.state_text.proofs.printer.push_bytes.Goals as goal

pub returns-in_default : goal.returns-in_default
returns-in_default c = bytes_none c.args.arch c.args.out.now.items (entries c.args.state.now.memory) (sym c.bytes-bytes.ensures ∙ c.in_default.ensures.steps.0)

pub loop-address-init : goal.loop-address-init
loop-address-init c =
    ap (λ rest. c.push_start.new.out.items ++ bytes_behind c.args.arch 15 (c.from.result + 1) rest) c.into_iter-address-iterator.ensures.into_iter_gives
    ∙ bytes_begin c.args.arch c.args.out.now.items c.push_start.new.out.items (entries c.args.state.now.memory) c.next.new.self c.in-Some.address.now c.in-Some.byte.now (c.from.result + 1)
    (sym c.bytes-bytes.ensures ∙ c.in-Some.ensures.steps) c.in_ok-push_start.ensures (ap (λ n. n + 1) c.from.ensures)

pub loop-address-preserved : goal.loop-address-preserved
loop-address-preserved c =
    bytes_more c.args.arch c.loop-address.out.items c.push_byte.new.out.items c.loop-address.address-iterator c.next-in-loop-address.new.self
    c.loop-address.row.room c.loop-address.row.next c.row_behind-row.result.room c.row_behind-row.result.next c.in-Some-2.address.now c.in-Some-2.byte.now
    c.in-Some-2.ensures.steps c.in_ok-push_byte.ensures c.row_behind-row.ensures.room c.row_behind-row.ensures.next
    ∙ c.loop-address.invariant

pub returns : goal.returns
returns c =
    bytes_end c.append.result c.args.arch c.loop-address.out.items c.append.new.out.items (c.args.out.now.items ++ bytes_text c.args.arch (entries c.args.state.now.memory))
    c.loop-address.address-iterator c.loop-address.row.room c.loop-address.row.next c.in-None.ensures.steps.0 c.loop-address.invariant c.append.ensures.ok
