use Rattle.std.proofs.Common.{sym, ◌∙◌, arith}
use Rattle.dataflow.proofs.Sets.{member-within, member-past}
use Rattle.dataflow.proofs.item_set.is_member.Goals as goal

pub returns-then-from-ge-SET_ITEMS : goal.returns-then-from-ge-SET_ITEMS
returns-then-from-ge-SET_ITEMS c = sym (member-past c.args.low c.args.middle c.args.high c.args.item (omega arith))

pub returns : goal.returns
returns c = c.has_bit.ensures ∙ sym (member-within c.args.low c.args.middle c.args.high c.args.item (omega arith))
