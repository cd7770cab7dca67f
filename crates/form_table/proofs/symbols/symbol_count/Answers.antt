use Rattle.std.proofs.Common.{arith}
use Rattle.form_table.proofs.Numbering.{pairs_at_count}
use Rattle.form_table.proofs.symbols.symbol_count.Goals as goal

pub loop-place-preserved : goal.loop-place-preserved
loop-place-preserved c =
    let all = c.loop-place.invariant.0 in
    let most = c.loop-place.invariant.1 in
    let count = c.first_count-count.ensures.count in
    let few = c.first_count-count.ensures.few in
    let sum = pairs_at_count c.args.tokens.now c.loop-place.place c.loop-place-test.true in
    (omega (arith, all, count, sum), omega (arith, most, few))
