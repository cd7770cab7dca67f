use Rattle.std.proofs.Common.{◌≡◌, ◌+◌, ap, length, arith}
use Rattle.macro_expand.specs.Spelled.{lexemes, spelled, spelled_lists}
use Rattle.macro_expand.proofs.WordLemmas.{fields_of, left_of, first_of, fewer_left, field-more}
use Rattle.macro_expand.proofs.words.arguments.Goals as goal

pub loop-rest-preserved : goal.loop-rest-preserved
loop-rest-preserved c = (
  field-more (spelled c.args.parts.now) (spelled_lists c.loop-rest.values.items) (spelled_lists c.push_span.new.out.items) _ (lexemes c.in-Some.left.now) (lexemes c.first_field.result.0.now) (fields_of 44 c.first_field.result.1) (fields_of 44 c.loop-rest.rest)
      (ap (fields_of 44) c.in-Some.is) (first_of 44 (lexemes c.in-Some.left.now) (lexemes c.first_field.result.0.now) c.first_field.result.1 c.first_field.ensures.first) c.in_ok-cursor.ensures.span c.loop-rest.invariant.0,
  c.in_ok-cursor.ensures.stands,
  λ texts parts. c.in_ok-cursor.ensures.slices texts parts (c.loop-rest.invariant.2 texts parts),
)

pub loop-rest-smaller : goal.loop-rest-smaller
loop-rest-smaller c =
    let left : left_of c.loop-rest.rest ≡ length c.in-Some.left.now + 1 = ap left_of c.in-Some.is in
    let fewer = fewer_left c.in-Some.left.now c.first_field.result.1 c.first_field.ensures.behind in
    omega arith

pub returns-clause-slices : goal.returns-clause-slices
returns-clause-slices c = c.loop-rest.invariant.2
