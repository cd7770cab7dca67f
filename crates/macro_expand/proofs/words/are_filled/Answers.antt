use Rattle.std.proofs.Common.{◌≡◌, ◌+◌, not, ap, sym, ◌∙◌, length, arith}
use Rattle.std.specs.List.{list_all}
use Rattle.macro_expand.specs.Words.{is_empty}
use Rattle.macro_expand.specs.Spelled.{lexemes}
use Rattle.macro_expand.proofs.WordLemmas.{fields_of, left_of, first_of, fewer_left, filled-field, empty-field}
use Rattle.macro_expand.proofs.words.are_filled.Goals as goal

pub returns-then-is_empty : goal.returns-then-is_empty
returns-then-is_empty c =
    empty-field c.first_field.result.0.now (fields_of 44 c.first_field.result.1) _ (sym c.is_empty.ensures ∙ c.if-is_empty.true)
    (ap (list_all (λ list. not (is_empty list))) (sym (ap (fields_of 44) c.in-Some.is ∙ first_of 44 (lexemes c.in-Some.left.now) (lexemes c.first_field.result.0.now) c.first_field.result.1 c.first_field.ensures.first)) ∙ c.loop-rest.invariant)

pub loop-rest-preserved : goal.loop-rest-preserved
loop-rest-preserved c =
    filled-field c.first_field.result.0.now (fields_of 44 c.first_field.result.1) _ (sym c.is_empty.ensures ∙ c.if-is_empty.false)
    (ap (list_all (λ list. not (is_empty list))) (sym (ap (fields_of 44) c.in-Some.is ∙ first_of 44 (lexemes c.in-Some.left.now) (lexemes c.first_field.result.0.now) c.first_field.result.1 c.first_field.ensures.first)) ∙ c.loop-rest.invariant)

pub loop-rest-smaller : goal.loop-rest-smaller
loop-rest-smaller c =
    let left : left_of c.loop-rest.rest ≡ length c.in-Some.left.now + 1 = ap left_of c.in-Some.is in
    let fewer = fewer_left c.in-Some.left.now c.first_field.result.1 c.first_field.ensures.behind in
    omega arith

pub returns : goal.returns
returns c = sym (ap (λ rest. list_all (λ list. not (is_empty list)) (fields_of 44 rest)) c.in_default.is) ∙ c.loop-rest.invariant
