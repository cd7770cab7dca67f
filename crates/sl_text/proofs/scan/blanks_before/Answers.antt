use Rattle.std.proofs.Common.{◌≡◌, sym, subst, IsCharBoundary, rules}
use Rattle.sl_text.specs.Tokens.{blanks_before}
use Rattle.sl_text.proofs.TokenLemmas.{blanks_boundary}
use Rattle.sl_text.proofs.scan.blanks_before.Goals as goal

pub returns-then-inside-clause-boundary : goal.returns-then-inside-clause-boundary
returns-then-inside-clause-boundary c = rw c.if-inside.true at (blanks_boundary c.args.inside c.args.text.now c.utf8.text)

pub returns-clause-value : goal.returns-clause-value
returns-clause-value c = rw c.if-inside.false (search rules)

pub returns-clause-boundary : goal.returns-clause-boundary
returns-clause-boundary c =
    let value : c.blank_length.result ≡ blanks_before c.args.inside c.args.text.now = rw c.if-inside.false (search rules) in
    subst (IsCharBoundary c.args.text.now) (sym value) (blanks_boundary c.args.inside c.args.text.now c.utf8.text)
