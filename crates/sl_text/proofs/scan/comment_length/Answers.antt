use Rattle.std.proofs.Common.{◌≡◌, ◌+◌, ◌≤◌, drop, length, false, true, nat_eq, codes, ap, ◌∙◌, sym, arith, rules, drop_of_length-le}
use Rattle.std.specs.List.{starts_with}
use Rattle.std.proofs.lemmas.List.{take_rest}
use Rattle.sl_model.specs.Token.{comment_length}
use Rattle.sl_text.proofs.TokenLemmas.{comment_length_here, comment_length_later, comment_length-nil}
use Rattle.sl_text.proofs.scan.comment_length.Goals as goal

pub returns-then-starts_with-clause-value : goal.returns-then-starts_with-clause-value
returns-then-starts_with-clause-value c =
    let text = c.args.text.now in
    let place = c.loop-place.place in
    let ends : starts_with nat_eq (drop place text) (codes "*/") ≡ true = rw (← take_rest text place) (search rules) in
    sym (ap (λ n. place + n) (comment_length_here text place c.loop-place-test.true ends)) ∙ c.loop-place.invariant

pub loop-place-preserved : goal.loop-place-preserved
loop-place-preserved c =
    let text = c.args.text.now in
    let place = c.loop-place.place in
    let goes : starts_with nat_eq (drop place text) (codes "*/") ≡ false = rw (← take_rest text place) (search rules) in
    let later = comment_length_later text place c.loop-place-test.true goes in
    omega (arith, later, c.loop-place.invariant)

pub returns-clause-value : goal.returns-clause-value
returns-clause-value c =
    let text = c.args.text.now in
    let place = c.loop-place.place in
    let past : length text ≤ place = search rules in
    let none : comment_length (drop place text) ≡ 0 = ap comment_length (drop_of_length-le text past) ∙ comment_length-nil in
    let whole : place ≤ length text = search rules in
    omega (arith, none, c.loop-place.invariant)
