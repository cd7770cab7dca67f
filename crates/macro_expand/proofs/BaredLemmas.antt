-- A line without its comments, token by token.
use Rattle.std.proofs.Common.{◌≡◌, ℕ, suc, ◌+◌, ◌<◌, ◌≤◌, Bool, ◌==◌, ◌&&◌, List, ◌++◌, length, drop, slice_range, get_or, ap, ap₂, sym, ◌∙◌, arith, append_assoc, append-nil, drop-cons}
use Rattle.std.proofs.Math.ListN.{drop_of_length-le}
use Rattle.sl_model.specs.TokenTests.{is_comment}
use Rattle.sl_text.specs.Tokens.{token_value}
use Rattle.sl_text.specs.declared.token.Token.{Token}
use Rattle.macro_expand.specs.Words.{end_of}
use Rattle.macro_expand.specs.Source.{bared, left_of}
use Rattle.macro_expand.specs.Spelled.{lexemes}

bared-here : (line : List ℕ) (commented : Bool) (place : ℕ) (tokens : List Token) (i : ℕ) (d : Token) → i < length tokens
    → bared line commented place (lexemes (drop i tokens))
    ≡ slice_range line place (get_or tokens i d).start
    ++ (left_of (commented && ((get_or tokens i d).start == place)) (token_value (get_or tokens i d))
    ++ bared line (is_comment (get_or tokens i d).kind) (end_of (token_value (get_or tokens i d))) (lexemes (drop (suc i) tokens)))
unfolding bared
bared-here line commented place tokens i d within = ap (λ ts. bared line commented place (lexemes ts)) (drop-cons tokens i d within)

-- a token more is looked at
pub bared-more : (line before between after whole : List ℕ) (commented touched next_commented : Bool) (place next_place : ℕ) (tokens : List Token) (i : ℕ) (d : Token) → i < length tokens
    → between ≡ before ++ slice_range line place (get_or tokens i d).start
    → after ≡ between ++ left_of touched (token_value (get_or tokens i d))
    → touched ≡ (commented && ((get_or tokens i d).start == place))
    → next_commented ≡ is_comment (get_or tokens i d).kind → next_place ≡ end_of (token_value (get_or tokens i d))
    → before ++ bared line commented place (lexemes (drop i tokens)) ≡ whole
    → after ++ bared line next_commented next_place (lexemes (drop (i + 1) tokens)) ≡ whole
bared-more line before between after whole commented touched next_commented place next_place tokens i d within cut left touches kind end so_far =
    let token = get_or tokens i d in
    let next : i + 1 ≡ suc i = omega arith in
    let gap = slice_range line place token.start in
    let rest = bared line (is_comment token.kind) (end_of (token_value token)) (lexemes (drop (suc i) tokens)) in
    ap (λ n. after ++ bared line next_commented next_place (lexemes (drop n tokens))) next
    ∙ ap₂ (λ b n. after ++ bared line b n (lexemes (drop (suc i) tokens))) kind end
    ∙ ap (λ t. t ++ rest) (left ∙ ap₂ (λ t b. t ++ left_of b (token_value token)) cut touches)
    ∙ append_assoc (before ++ gap) (left_of (commented && (token.start == place)) (token_value token)) rest
    ∙ append_assoc before gap (left_of (commented && (token.start == place)) (token_value token) ++ rest)
    ∙ ap (λ t. before ++ t) (sym (bared-here line commented place tokens i d within)) ∙ so_far

-- no token is left
pub bared-done : (line out whole : List ℕ) (commented : Bool) (place : ℕ) (tokens : List Token) (i : ℕ) → length tokens ≤ i → out ++ bared line commented place (lexemes (drop i tokens)) ≡ whole → out ≡ whole
unfolding bared
bared-done line out whole commented place tokens i all so_far =
    sym (append-nil out) ∙ ap (λ ts. out ++ bared line commented place (lexemes ts)) (sym (drop_of_length-le tokens {i = i} all)) ∙ so_far
