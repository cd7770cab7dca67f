use Rattle.std.proofs.Common.{◌+◌, ◌≡◌, ◌≤◌, length, All, subst, arith}
use Rattle.sl_model.specs.Token.{tokens_at}
use Rattle.sl_text.specs.Tokens.{tokens_left}
use Rattle.sl_text.proofs.TokenLemmas.{tokens_few, tokens_within}
use Rattle.sl_text.proofs.scan.tokens.Goals as goal

pub returns-clause-count : goal.returns-clause-count
unfolding tokens_left
returns-clause-count c = tokens_few c.args.comments c.args.inside 0 c.args.line.text.now

pub returns-clause-within : goal.returns-clause-within
unfolding tokens_left
returns-clause-within c =
    let line = c.args.line.text.now in
    let size : 0 + length line ≡ length line = omega arith in
    subst (λ n. All (λ t. t.start + length t.text ≤ n) (tokens_at c.args.comments c.args.inside 0 line)) size (tokens_within c.args.comments c.args.inside 0 line)
