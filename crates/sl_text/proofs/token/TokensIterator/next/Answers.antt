use Rattle.std.proofs.Common.{◌≡◌, ◌+◌, ◌∷◌, drop, take, length, refl, sym, ap, ◌∙◌, rules, IsUtf8}
use Rattle.sl_model.specs.Token.{tokens_at}
use Rattle.sl_text.specs.Tokens.{tokens_left, blanks_before, IsFirst}
use Rattle.sl_text.proofs.TokenLemmas.{tokens_none, tokens_next}
use Rattle.sl_text.proofs.token.TokensIterator.next.Goals as goal

pub returns-in_err-kind-clause-steps : goal.returns-in_err-kind-clause-steps
unfolding tokens_left
returns-in_err-kind-clause-steps c =
    let self = c.args.self.now in
    let blanks : c.blanks_before-blanks.result ≡ blanks_before self.inside self.rest.now = search rules in
    let rest : c.range_from-rest.result.now ≡ drop c.blanks_before-blanks.result self.rest.now = search rules in
    let none = tokens_none self.comments self.inside self.start self.rest.now (ap (λ n. drop n self.rest.now) (sym blanks) ∙ sym rest ∙ c.in_err-kind.ensures.found) in
    rw c.from_residual.ensures (record { tokens = (none, none); inside = refl })

-- the token that is given stands before those that are left
given : (c : goal.After-text-1) → tokens_at c.args.self.now.comments c.args.self.now.inside c.args.self.now.start c.args.self.now.rest.now ≡ record { kind = c.in_ok-kind.kind; text = c.range-text.result.now; start = c.args.self.now.start + c.blanks_before-blanks.result } ∷ tokens_at c.args.self.now.comments c.leaves_open-self.result (c.args.self.now.start + c.blanks_before-blanks.result + c.in_ok-kind.length) c.range_from-self.result.now
given c =
    let self = c.args.self.now in
    let blanks = c.blanks_before-blanks.result in
    let rest = c.range_from-rest.result.now in
    let size = c.in_ok-kind.length in
    let blanks_are : blanks ≡ blanks_before self.inside self.rest.now = search rules in
    let rest_is : rest ≡ drop blanks self.rest.now = search rules in
    let utf8 : IsUtf8 rest = search rules in
    let first : IsFirst self.comments self.inside rest (c.in_ok-kind.kind, size) = search rules in
    let token : c.range-text.result.now ≡ take size rest = search rules in
    let behind : c.range_from-self.result.now ≡ drop size rest = search rules in
    tokens_next self.comments self.inside self.start self.rest.now blanks rest (c.in_ok-kind.kind, size) c.range-text.result.now c.range_from-self.result.now c.leaves_open-self.result blanks_are rest_is utf8 first token behind c.leaves_open-self.ensures

pub returns-clause-steps : goal.returns-clause-steps
unfolding tokens_left
returns-clause-steps c = record { tokens = given c; inside = c.leaves_open-self.ensures }

pub returns-clause-goes : goal.returns-clause-goes
unfolding tokens_left
returns-clause-goes c = let shorter = ap length (given c) in search rules
