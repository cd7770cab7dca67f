use Rattle.std.proofs.Common.{◌≡◌, ◌+◌, ap, sym, ◌∙◌, length, arith, map, subst, refl}
use Rattle.macro_expand.proofs.SliceLemmas.{between-cut, first-cut, others-cut}
use Rattle.macro_expand.specs.Slices.{AreSlices}
use Rattle.macro_expand.specs.Spelled.{lexemes, spelled, spelled_lists}
use Rattle.macro_expand.specs.Views.{piece_of}
use Rattle.macro_expand.proofs.WordLemmas.{fields_of, left_of, fewer_left, first_of}
use Rattle.macro_expand.proofs.RowLemmas.{statement-more, statements-done}
use Rattle.macro_expand.proofs.source.push_statements.Goals as goal

pub loop-rest-preserved : goal.loop-rest-preserved
loop-rest-preserved c = (
  statement-more c.args.number c.args.line.now (spelled c.deref.result.now) (map piece_of c.loop-rest.out.items) (map piece_of c.push_lists.new.out.items) _
      (lexemes c.in-Some.left.now) (lexemes c.first_field.result.0.now) (fields_of 59 c.first_field.result.1) (fields_of 59 c.loop-rest.rest) (spelled_lists c.in_ok-parted.field-0.items)
      (ap (fields_of 59) c.in-Some.is) (first_of 59 (lexemes c.in-Some.left.now) (lexemes c.first_field.result.0.now) c.first_field.result.1 c.first_field.ensures.first)
      (ap spelled c.deref.ensures.value ∙ c.in_ok-parts.ensures.text) c.in_ok-parted.ensures.text c.in_ok-push_lists.ensures.pieces c.loop-rest.invariant.0,
  λ texts line cut out.
      let first = first-cut c.args.line.now (fields_of 59 c.loop-rest.rest) (lexemes c.first_field.result.0.now) (fields_of 59 c.first_field.result.1)
      (ap (fields_of 59) c.in-Some.is ∙ first_of 59 (lexemes c.in-Some.left.now) (lexemes c.first_field.result.0.now) c.first_field.result.1 c.first_field.ensures.first) (c.loop-rest.invariant.2 cut) in
      c.in_ok-push_lists.ensures.slices texts
      (c.in_ok-parted.ensures.slices texts (subst (AreSlices texts) (sym c.deref.ensures.value) (c.in_ok-parts.ensures.slices texts line first)))
      (c.loop-rest.invariant.1 texts line cut out),
  λ cut.
      others-cut c.args.line.now (fields_of 59 c.loop-rest.rest) (lexemes c.first_field.result.0.now) (fields_of 59 c.first_field.result.1)
      (ap (fields_of 59) c.in-Some.is ∙ first_of 59 (lexemes c.in-Some.left.now) (lexemes c.first_field.result.0.now) c.first_field.result.1 c.first_field.ensures.first) (c.loop-rest.invariant.2 cut),
)

pub loop-rest-smaller : goal.loop-rest-smaller
loop-rest-smaller c =
    let left : left_of c.loop-rest.rest ≡ length c.in-Some.left.now + 1 = ap left_of c.in-Some.is in
    let fewer = fewer_left c.in-Some.left.now c.first_field.result.1 c.first_field.ensures.behind in
    omega arith

pub returns-clause-pieces : goal.returns-clause-pieces
returns-clause-pieces c = statements-done c.args.number c.args.line.now (map piece_of c.loop-rest.out.items) _ (fields_of 59 c.loop-rest.rest) (ap (fields_of 59) c.in_default.is) c.loop-rest.invariant.0

pub loop-rest-init : goal.loop-rest-init
loop-rest-init c = (refl, λ texts line cut out. out, λ cut. between-cut c.args.line.now 59 (lexemes c.args.tokens.now) cut)

pub returns-clause-slices : goal.returns-clause-slices
returns-clause-slices c = c.loop-rest.invariant.1
