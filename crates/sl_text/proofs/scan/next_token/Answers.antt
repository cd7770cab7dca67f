use Rattle.std.proofs.Common.{◌≡◌, ◌<◌, false, true, length, IsCharBoundary, sym, subst, rules}
use Rattle.sl_model.specs.Token.{comment_length, first_token}
use Rattle.sl_text.proofs.TokenLemmas.{shape_length}
use Rattle.sl_text.proofs.scan.next_token.Goals as goal

pub returns-then-inside-clause-boundary : goal.returns-then-inside-clause-boundary
returns-then-inside-clause-boundary c =
    let text = c.args.text.now in
    let some : 0 < length text = search rules in
    let value : c.comment_length.result ≡ comment_length text = search rules in
    subst (IsCharBoundary text) (sym value) (shape_length c.args.comments true text c.utf8.text some).boundary

pub returns-clause-boundary : goal.returns-clause-boundary
returns-clause-boundary c =
    let text = c.args.text.now in
    let some : 0 < length text = search rules in
    let value : c.first_token.result ≡ first_token c.args.comments text = search rules in
    subst (λ found. IsCharBoundary text found.1) (sym value) (shape_length c.args.comments false text c.utf8.text some).boundary
