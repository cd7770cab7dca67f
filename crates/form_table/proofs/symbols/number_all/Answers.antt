use Rattle.std.proofs.Common.{◌∙◌, sym, ap, ◌+◌, drop, arith}
use Rattle.sl_isa.specs.Symbols.{with_pairs}
use Rattle.sl_isa.specs.SymbolViews.{pairs}
use Rattle.form_table.specs.ItemViews.{lexemes}
use Rattle.form_table.specs.Symbols.{first_pairs, pairs_from}
use Rattle.form_table.proofs.Numbering.{tokens_at, pairs_at, pairs_at_count, pairs_end, with_pairs_append, take_front}
use Rattle.form_table.proofs.symbols.number_all.Goals as goal

pub loop-place-preserved : goal.loop-place-preserved
loop-place-preserved c =
    let tokens = c.args.tokens.now in
    let place = c.loop-place.place in
    let old = pairs c.args.symbols.now in
    let now = pairs c.loop-place.symbols in
    let next = pairs c.number_first.new.symbols in
    let first = first_pairs (lexemes (tokens_at tokens place)) in
    let rest = pairs_from (lexemes (drop (place + 1) tokens)) in
    let within = c.loop-place-test.true in
    let all = c.loop-place.invariant in
    let most = all.1 in
    let count = c.in_ok-number_first.ensures.count in
    let sum = pairs_at_count tokens place within in (
      ap (λ ps. with_pairs ps rest) c.in_ok-number_first.ensures.ok
          ∙ (sym (with_pairs_append now first rest) ∙ (ap (with_pairs now) (sym (pairs_at tokens place within)) ∙ all.0)),
      omega (arith, most, count, sum),
      take_front old now next all.2 c.in_ok-number_first.ensures.front,
    )

pub returns-clause-ok : goal.returns-clause-ok
unfolding with_pairs
returns-clause-ok c =
    let now = pairs c.loop-place.symbols in
    ap (with_pairs now) (sym (pairs_end c.args.tokens.now c.loop-place.place c.loop-place-test.false)) ∙ c.loop-place.invariant.0
