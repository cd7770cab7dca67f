use Rattle.std.proofs.Common.{ap, ◌∙◌, arith}
use Rattle.dataflow.specs.ItemSets.{with_item}
use Rattle.dataflow.proofs.Sets.{insert-low, insert-middle, insert-high}
use Rattle.dataflow.proofs.item_set.ItemSet.insert.Goals as goal

pub returns-then-item-lt64 : goal.returns-then-item-lt64
returns-then-item-lt64 c =
    insert-low c.self.inside.low c.self.inside.middle c.self.inside.high c.with_bit-self-inside.result c.args.item c.if-item-lt64.true c.with_bit-self-inside.ensures
    ∙ ap (with_item c.args.item) c.self.view_is

pub returns-then-item-lt128 : goal.returns-then-item-lt128
returns-then-item-lt128 c =
    insert-middle c.self.inside.low c.self.inside.middle c.self.inside.high c.with_bit-self-inside-then-item-lt128.result c.args.item (omega arith) c.if-item-lt128.true c.with_bit-self-inside-then-item-lt128.ensures
    ∙ ap (with_item c.args.item) c.self.view_is

pub returns-else-item-lt128 : goal.returns-else-item-lt128
returns-else-item-lt128 c =
    insert-high c.self.inside.low c.self.inside.middle c.self.inside.high c.with_bit-self-inside-else-item-lt128.result c.args.item (omega arith) c.with_bit-self-inside-else-item-lt128.ensures
    ∙ ap (with_item c.args.item) c.self.view_is
