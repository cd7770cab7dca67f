use Rattle.std.proofs.Common.{rules}
use Rattle.macro_expand.specs.Spelled.{spelled, alias_names}
use Rattle.macro_expand.proofs.AliasLemmas.{replaced-more, replaced-done}
use Rattle.macro_expand.proofs.filled.push_replaced.Goals as goal

pub directly_before-before-requires-text-text : goal.directly_before-before-requires-text-text
directly_before-before-requires-text-text c κs = c.loop-token.invariant.1

pub loop-token-preserved : goal.loop-token-preserved
loop-token-preserved c = (
  replaced-more (alias_names c.args.aliases.now) (spelled c.args.parts.now) c.loop-token.first c.is_first_behind-first.result c.loop-token.last.now c.loop-token.place c.end_of-place.result c.args.words.now c.loop-token.token-index _
      (spelled c.loop-token.out.items) (spelled c.push_cut.new.out.items) (spelled c.push_word.new.out.items) _ c.directly_before-before.result.now
      c.loop-token-test.true c.in_ok-cursor.ensures.cut c.directly_before-before.ensures c.in_ok-cursor-2.ensures.word c.is_first_behind-first.ensures c.end_of-place.ensures c.loop-token.invariant.0,
  search rules,
  c.in_ok-cursor-2.ensures.stands,
  λ texts parts aliases out. c.in_ok-cursor-2.ensures.slices texts parts aliases (c.in_ok-cursor.ensures.slices texts parts (c.loop-token.invariant.3 texts parts aliases out)),
)

pub returns-clause-text : goal.returns-clause-text
returns-clause-text c = replaced-done (alias_names c.args.aliases.now) (spelled c.args.parts.now) c.loop-token.first c.loop-token.last.now c.loop-token.place c.args.words.now c.loop-token.token-index (spelled c.loop-token.out.items) _ c.loop-token-test.false c.loop-token.invariant.0

pub returns-clause-slices : goal.returns-clause-slices
returns-clause-slices c = c.loop-token.invariant.3
