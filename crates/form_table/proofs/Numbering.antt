-- Numbering the symbolic registers of tokens, one after the other.
use Rattle.std.proofs.Common.{◌≡◌, ◌∙◌, sym, ap, refl, ℕ, zero, suc, ◌+◌, ◌-◌, ◌≤◌, ◌<◌, List, [], ◌∷◌, ◌++◌, length, length-append, append_assoc, take, drop, take-append-drop, arith}
use Rattle.std.proofs.Math.Seq.{take-append_seam}
use Rattle.std.proofs.lemmas.List.{drop_all, take_rest}
use Rattle.sl_text.specs.declared.token.Token.{Token}
use Rattle.sl_isa.specs.Symbols.{Pair, with_pair, with_pairs}
use Rattle.form_table.specs.ItemViews.{lexemes}
use Rattle.form_table.specs.Symbols.{first_pairs, pairs_from}

-- the symbolic registers from a place on
pairs_next : (tokens : List Token) (place : ℕ) → place < length tokens
    → pairs_from (lexemes (drop place tokens)) ≡ first_pairs (lexemes (drop place tokens)) ++ pairs_from (lexemes (drop (suc place) tokens))
unfolding pairs_from
pairs_next [] place within = absurd (omega arith)
pairs_next (t ∷ tokens) zero within = refl
pairs_next (t ∷ tokens) (suc place) within = let less : place < length tokens = omega arith in pairs_next tokens place less

-- the tokens from a place on, as code cuts them
abbrev pub tokens_at : List Token → ℕ → List Token
tokens_at tokens place = take (length tokens - place) (drop place tokens)

pub pairs_at : (tokens : List Token) (place : ℕ) → place < length tokens
    → pairs_from (lexemes (drop place tokens)) ≡ first_pairs (lexemes (tokens_at tokens place)) ++ pairs_from (lexemes (drop (place + 1) tokens))
pairs_at tokens place within =
    let same : suc place ≡ place + 1 = omega arith in
    pairs_next tokens place within
    ∙ (ap (λ n. first_pairs (lexemes (drop place tokens)) ++ pairs_from (lexemes (drop n tokens))) same
    ∙ ap (λ (ts : List Token). first_pairs (lexemes ts) ++ pairs_from (lexemes (drop (place + 1) tokens))) (sym (take_rest tokens place)))

-- none behind the last token
pub pairs_end : (tokens : List Token) (place : ℕ) → length tokens ≤ place → pairs_from (lexemes (drop place tokens)) ≡ []
unfolding pairs_from
pairs_end tokens place past = ap (λ (ts : List Token). pairs_from (lexemes ts)) (drop_all place tokens past)

-- and how many they are
pub pairs_at_count : (tokens : List Token) (place : ℕ) → place < length tokens
    → length (pairs_from (lexemes (drop place tokens))) ≡ length (first_pairs (lexemes (tokens_at tokens place))) + length (pairs_from (lexemes (drop (place + 1) tokens)))
pairs_at_count tokens place within =
    ap length (pairs_at tokens place within) ∙ length-append (first_pairs (lexemes (tokens_at tokens place))) (pairs_from (lexemes (drop (place + 1) tokens)))

-- some and then others are added
pub with_pairs_append : (pairs these others : List Pair) → with_pairs pairs (these ++ others) ≡ with_pairs (with_pairs pairs these) others
unfolding with_pairs
with_pairs_append pairs [] others = refl
with_pairs_append pairs (pair ∷ these) others = with_pairs_append (with_pair pair.0 pair.1 pairs) these others

-- the first of some pairs are those of the pairs behind them
pub take_front : (a b c : List Pair) → take (length a) b ≡ a → take (length b) c ≡ b → take (length a) c ≡ a
take_front a b c e f =
    let more : List Pair = drop (length a) b in
    let others : List Pair = drop (length b) c in
    let whole : c ≡ a ++ (more ++ others) =
    sym (take-append-drop (length b) c) ∙ (ap (λ front. front ++ others) (f ∙ (sym (take-append-drop (length a) b) ∙ ap (λ front. front ++ more) e)) ∙ append_assoc a more others) in
    ap (take (length a)) whole ∙ take-append_seam a (more ++ others)
