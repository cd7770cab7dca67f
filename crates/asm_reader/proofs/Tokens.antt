-- The statements of tokens, and what stands in them.
use Rattle.std.proofs.Common.{◌≡◌, ℕ, ◌-◌, ◌<◌, ◌≤◌, codes, arith, append_assoc, append-nil, Bool, true, false, cond, ◌||◌, List, [], ◌∷◌, ◌++◌, length, take, drop, get_or, refl, ap, sym, ◌∙◌}
use Rattle.std.proofs.lemmas.List.{take_rest}
use Rattle.std.specs.List.{list_any}
use Rattle.sl_model.specs.Token.{Lexeme}
use Rattle.sl_text.specs.Tokens.{token_value}
use Rattle.sl_text.specs.declared.token.Token.{Token}
use Rattle.sl_model.specs.TokenTests.{marks}
use Rattle.macro_expand.specs.Source.{statements}
use Rattle.macro_expand.specs.Words.{between, before_first}
use Rattle.asm_reader.specs.Statements.{is_suffix, suffixes}
use Rattle.macro_expand.specs.Spelled.{lexemes}

pub neither : (a b : Bool) → (a || b) ≡ false → (a ≡ false) × (b ≡ false)
neither true b e = cc
neither false b e = (refl, e)

-- without `;` all tokens are one statement
pub statements_whole : (tokens : List Lexeme) → list_any (marks 59) tokens ≡ false → statements tokens ≡ tokens ∷ []
unfolding between
statements_whole [] e = refl
statements_whole (token ∷ tokens) e =
    let both = neither (marks 59 token) (list_any (marks 59) tokens) e in
    ap (λ b. cond b ([] ∷ statements tokens) (before_first token (statements tokens))) both.0
    ∙ ap (before_first token) (statements_whole tokens both.1)

two_first : (tokens : List Token) (none : Token) → 2 ≤ length tokens → tokens ≡ get_or tokens 0 none ∷ get_or tokens 1 none ∷ drop 2 tokens
two_first [] none long = absurd (omega arith)
two_first (a ∷ []) none long = absurd (omega arith)
two_first (a ∷ b ∷ tokens) none long = refl

suffixes_step : (before dot word : Lexeme) (behind : List Lexeme) (b : Bool) → is_suffix before dot word ≡ b
    → suffixes before (dot ∷ word ∷ behind) ≡ cond b ((codes "." ++ word.text) ++ suffixes word behind) []
unfolding suffixes
suffixes_step before dot word behind b is = ap (λ c. cond c ((codes "." ++ word.text) ++ suffixes word behind) []) is

suffixes_few : (before : Lexeme) (tokens : List Token) → length tokens < 2 → suffixes before (lexemes tokens) ≡ []
unfolding suffixes
suffixes_few before [] few = refl
suffixes_few before (a ∷ []) few = refl
suffixes_few before (a ∷ b ∷ tokens) few = absurd (omega arith)

-- a name with one more suffix, and then with those behind it
pub suffix_more : (before : Lexeme) (tokens : List Token) (none : Token) → 2 ≤ length tokens
    → is_suffix before (token_value (get_or tokens 0 none)) (token_value (get_or tokens 1 none)) ≡ true
    → (name longer all : List ℕ) → longer ≡ name ++ (codes "." ++ (get_or tokens 1 none).text.now) → name ++ suffixes before (lexemes tokens) ≡ all
    → longer ++ suffixes (token_value (get_or tokens 1 none)) (lexemes (take (length tokens - 2) (drop 2 tokens))) ≡ all
suffix_more before tokens none long is name longer all e f =
    let dot = get_or tokens 0 none in
    let word = get_or tokens 1 none in
    let behind = lexemes (drop 2 tokens) in
    ap (λ ts. longer ++ suffixes (token_value word) (lexemes ts)) (take_rest tokens 2)
    ∙ ap (λ v. v ++ suffixes (token_value word) behind) e ∙ append_assoc name (codes "." ++ word.text.now) (suffixes (token_value word) behind)
    ∙ ap (λ v. name ++ v) (sym (ap (λ ts. suffixes before (lexemes ts)) (two_first tokens none long) ∙ suffixes_step before (token_value dot) (token_value word) behind true is))
    ∙ f

-- behind a name stands no suffix
pub suffix_none : (before : Lexeme) (tokens : List Token) (none : Token) → 2 ≤ length tokens
    → is_suffix before (token_value (get_or tokens 0 none)) (token_value (get_or tokens 1 none)) ≡ false
    → (name all : List ℕ) → name ++ suffixes before (lexemes tokens) ≡ all → name ≡ all
suffix_none before tokens none long is name all e =
    let dot = get_or tokens 0 none in
    let word = get_or tokens 1 none in
    sym (append-nil name)
    ∙ ap (λ v. name ++ v) (sym (ap (λ ts. suffixes before (lexemes ts)) (two_first tokens none long) ∙ suffixes_step before (token_value dot) (token_value word) (lexemes (drop 2 tokens)) false is))
    ∙ e

pub suffix_end : (before : Lexeme) (tokens : List Token) → length tokens < 2 → (name all : List ℕ) → name ++ suffixes before (lexemes tokens) ≡ all → name ≡ all
suffix_end before tokens few name all e = sym (append-nil name) ∙ ap (λ v. name ++ v) (sym (suffixes_few before tokens few)) ∙ e
