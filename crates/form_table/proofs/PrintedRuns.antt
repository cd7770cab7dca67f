-- The tokens of a text that begins with a word, a number or a mark.
use Rattle.std.proofs.Common.{◌≡◌, ◌∙◌, ap, refl, ℕ, zero, suc, ◌+◌, ◌-◌, ◌<◌, Bool, true, false, cond, not, ◌&&◌, ◌||◌, nat_eq, eqb, List, [], ◌∷◌, ◌++◌, length, drop, codes, slice_index, arith}
use Rattle.std.specs.Char.{is_ascii_alphanumeric, is_ascii_digit, len_utf8}
use Rattle.std.specs.List.{starts_with, prefix_len, list_all}
use Rattle.std.specs.Str.{chars, chars_after, continuation_len, lead_bits}
use Rattle.std.proofs.Math.Seq.{take-append_seam}
use Rattle.std.proofs.lemmas.Bool.Decides.{nat_tests}
use Rattle.std.proofs.lemmas.Str.{len_utf8_ascii}
use Rattle.sl_model.specs.declared.text.Comments.{Comments}
use Rattle.sl_model.specs.declared.text.Comments.TheVariants.{Slash, SlashAt, Taken}
use Rattle.sl_model.specs.declared.text.TokenKind.{TokenKind}
use Rattle.sl_model.specs.declared.text.TokenKind.TheVariants.{Word, Number, Mark, Comment}
use Rattle.sl_model.specs.Text.{is_blank}
use Rattle.sl_model.specs.Token.{Lexeme, begins_word, is_word_byte, comment_length, begins_block_comment, begins_line_comment, first_char, first_token, lexeme, tokens_from}
use Rattle.form_table.specs.Symbols.{is_word_text}
use Rattle.sl_laws.proofs.Tests.{then_parts}
use Rattle.sl_laws.proofs.Texts.{begin_word, digit_alphanumeric}
use Rattle.std.proofs.lemmas.Bool.{and_parts}

-- ---- runs of bytes

-- Does a text begin with no byte of a word?
abbrev pub stops : List ℕ → Bool
stops [] = true
stops (c ∷ text) = not (is_word_byte c)

-- Is a text one that begins with a digit, and has letters and digits only?
abbrev pub is_run : List ℕ → Bool
is_run [] = false
is_run (c ∷ text) = cond (is_ascii_digit c) (list_all is_ascii_alphanumeric text) false

run_length : (p : ℕ → Bool) (w behind : List ℕ) → list_all p w ≡ true → prefix_len p behind ≡ 0 →
    prefix_len p (w ++ behind) ≡ length w
run_length p [] behind all ends = ends
run_length p (c ∷ w) behind all ends =
    let parts = and_parts (p c) (list_all p w) all in
    let same : 1 + length w ≡ suc (length w) = omega arith in
    ap (λ b. cond b (1 + prefix_len p (w ++ behind)) 0) parts.0 ∙ (ap (λ n. 1 + n) (run_length p w behind parts.1 ends) ∙ same)

no_word_byte : (c : ℕ) → not (is_word_byte c) ≡ true → is_word_byte c ≡ false
no_word_byte c e = grind (arith, nat_tests)

no_alphanumeric : (c : ℕ) → not (is_word_byte c) ≡ true → is_ascii_alphanumeric c ≡ false
no_alphanumeric c e = grind (arith, nat_tests)

word_stops : (behind : List ℕ) → stops behind ≡ true → prefix_len is_word_byte behind ≡ 0
word_stops [] e = refl
word_stops (c ∷ behind) e = ap (λ b. cond b (1 + prefix_len is_word_byte behind) 0) (no_word_byte c e)

run_stops : (behind : List ℕ) → stops behind ≡ true → prefix_len is_ascii_alphanumeric behind ≡ 0
run_stops [] e = refl
run_stops (c ∷ behind) e = ap (λ b. cond b (1 + prefix_len is_ascii_alphanumeric behind) 0) (no_alphanumeric c e)

-- ---- the first token

-- a byte that a token begins with that is no comment
pub record Opens (c : ℕ) : Type 0 where
  pub ascii : c < 128
  pub slash : eqb 47 c ≡ false
  pub at : eqb 64 c ≡ false
  pub blank : is_blank c ≡ false

word_opens : (c : ℕ) → begins_word c ≡ true → Opens c
word_opens c e = record {
  ascii = grind (arith, nat_tests);
  slash = grind (arith, nat_tests);
  at = grind (arith, nat_tests);
  blank = grind (arith, nat_tests);
}

digit_opens : (c : ℕ) → is_ascii_digit c ≡ true → Opens c
digit_opens c e = record {
  ascii = grind (arith, nat_tests);
  slash = grind (arith, nat_tests);
  at = grind (arith, nat_tests);
  blank = grind (arith, nat_tests);
}

no_block : (comments : Comments) (c : ℕ) (text : List ℕ) → Opens c → begins_block_comment comments (c ∷ text) ≡ false
no_block Slash c text o = ap (λ b. b && starts_with nat_eq text (codes "*")) o.slash
no_block SlashAt c text o = ap (λ b. b && starts_with nat_eq text (codes "*")) o.slash
no_block Taken c text o = refl

no_line : (comments : Comments) (c : ℕ) (text : List ℕ) → Opens c → begins_line_comment comments (c ∷ text) ≡ false
no_line Slash c text o = ap (λ b. b && starts_with nat_eq text (codes "/")) o.slash
no_line SlashAt c text o =
    ap (λ b. (b && starts_with nat_eq text (codes "/")) || starts_with nat_eq (c ∷ text) (codes "@")) o.slash
    ∙ ap (λ b. b && true) o.at
no_line Taken c text o = refl

char_first : (d : ℕ) (text : List ℕ) → slice_index (chars_after zero d text) 0 ≡ d
char_first d [] = refl
char_first d (c ∷ text) = refl

no_more : (c : ℕ) → c < 128 → continuation_len c ≡ 0
no_more c h = grind (arith, nat_tests)

same_bits : (c : ℕ) → c < 128 → lead_bits c ≡ c
same_bits c h = grind (arith, nat_tests)

ascii_char : (c : ℕ) (text : List ℕ) → c < 128 → first_char (c ∷ text) ≡ c
unfolding chars
ascii_char c text h = ap (λ n. slice_index (chars_after n (lead_bits c) text) 0) (no_more c h) ∙ (char_first (lead_bits c) text ∙ same_bits c h)

-- the kind and the length of the token with which a text begins that begins with a character and with no comment
abbrev by_kind : Bool → Bool → ℕ → List ℕ → TokenKind × ℕ
by_kind is_word is_number c text =
    cond is_word (Word, prefix_len is_word_byte text)
    (cond is_number (Number, prefix_len is_ascii_alphanumeric text) (Mark, len_utf8 c))

abbrev by_char : ℕ → List ℕ → TokenKind × ℕ
by_char c text = by_kind (begins_word c) (is_ascii_digit c) c text

abbrev by_tests : Bool → Bool → ℕ → List ℕ → TokenKind × ℕ
by_tests block line c text = cond block (Comment, comment_length (drop 2 text) + 2) (cond line (Comment, length text) (by_char c text))

opened : (comments : Comments) (c : ℕ) (text : List ℕ) → Opens c → first_token comments (c ∷ text) ≡ by_char c (c ∷ text)
unfolding first_token
opened comments c text o =
    ap (λ b. by_tests b (begins_line_comment comments (c ∷ text)) (first_char (c ∷ text)) (c ∷ text)) (no_block comments c text o)
    ∙ (ap (λ b. by_tests false b (first_char (c ∷ text)) (c ∷ text)) (no_line comments c text o)
    ∙ ap (λ d. by_char d (c ∷ text)) (ascii_char c text o.ascii))

-- the bytes of a token are passed
passed : (comments : Comments) (place : ℕ) (w behind : List ℕ) →
    tokens_from comments place (length w) (w ++ behind) ≡ tokens_from comments (place + length w) 0 behind
unfolding tokens_from
passed comments place [] behind = let same : place ≡ place + 0 = omega arith in ap (λ n. tokens_from comments n 0 behind) same
passed comments place (c ∷ w) behind =
    let same : place + 1 + length w ≡ place + suc (length w) = omega arith in
    passed comments (place + 1) w behind ∙ ap (λ n. tokens_from comments n 0 behind) same

-- a token of a kind, a text and a place
abbrev pub token : TokenKind → List ℕ → ℕ → Lexeme
token kind text place = record { kind = kind; text = text; start = place }

cut_token : (kind : TokenKind) (place : ℕ) (w behind : List ℕ) → lexeme (kind, length w) place (w ++ behind) ≡ token kind w place
cut_token kind place w behind = ap (λ text. token kind text place) (take-append_seam w behind)

-- the token of a kind and a length, and those behind it
abbrev taking : Comments → ℕ → List ℕ → List ℕ → TokenKind × ℕ → List Lexeme
taking comments place text rest found = lexeme found place text ∷ tokens_from comments (place + 1) (found.1 - 1) rest

-- a text gives its first token, and then those behind it
token_read : (comments : Comments) (place c : ℕ) (w behind : List ℕ) (kind : TokenKind) → Opens c →
    by_char c (c ∷ (w ++ behind)) ≡ (kind, suc (length w)) →
    tokens_from comments place 0 (c ∷ (w ++ behind)) ≡ token kind (c ∷ w) place ∷ tokens_from comments (place + suc (length w)) 0 behind
unfolding tokens_from
token_read comments place c w behind kind o e =
    let rest : List ℕ = w ++ behind in
    let text : List ℕ = c ∷ rest in
    let less : suc (length w) - 1 ≡ length w = omega arith in
    let same : place + 1 + length w ≡ place + suc (length w) = omega arith in
    ap (λ b. cond b (tokens_from comments (place + 1) 0 rest) (taking comments place text rest (first_token comments text))) o.blank
    ∙ (ap (taking comments place text rest) (opened comments c rest o ∙ e)
    ∙ (ap (λ n. lexeme (kind, suc (length w)) place text ∷ tokens_from comments (place + 1) n rest) less
    ∙ (ap (λ first. first ∷ tokens_from comments (place + 1) (length w) rest) (cut_token kind place (c ∷ w) behind)
    ∙ ap (λ tokens. token kind (c ∷ w) place ∷ tokens)
    (passed comments (place + 1) w behind ∙ ap (λ n. tokens_from comments n 0 behind) same))))

-- ---- words, numbers and marks

digit_no_word : (c : ℕ) → is_ascii_digit c ≡ true → begins_word c ≡ false
digit_no_word c e = grind (arith, nat_tests)

pub word_read : (comments : Comments) (place : ℕ) (w behind : List ℕ) → is_word_text w ≡ true → stops behind ≡ true →
    tokens_from comments place 0 (w ++ behind) ≡ token Word w place ∷ tokens_from comments (place + length w) 0 behind
word_read comments place [] behind name ends = absurd cc
word_read comments place (c ∷ w) behind name ends =
    let parts = then_parts (begins_word c) (list_all is_word_byte w) name in
    let all : list_all is_word_byte (c ∷ w) ≡ true = ap (λ b. b && list_all is_word_byte w) (begin_word c parts.0) ∙ parts.1 in
    let size = run_length is_word_byte (c ∷ w) behind all (word_stops behind ends) in
    token_read comments place c w behind Word (word_opens c parts.0)
    (ap (λ b. by_kind b (is_ascii_digit c) c (c ∷ (w ++ behind))) parts.0
    ∙ ap (λ n. (Word, n)) size)

pub run_read : (comments : Comments) (place : ℕ) (w behind : List ℕ) → is_run w ≡ true → stops behind ≡ true →
    tokens_from comments place 0 (w ++ behind) ≡ token Number w place ∷ tokens_from comments (place + length w) 0 behind
run_read comments place [] behind run ends = absurd cc
run_read comments place (c ∷ w) behind run ends =
    let parts = then_parts (is_ascii_digit c) (list_all is_ascii_alphanumeric w) run in
    let all : list_all is_ascii_alphanumeric (c ∷ w) ≡ true =
    ap (λ b. b && list_all is_ascii_alphanumeric w) (digit_alphanumeric c parts.0) ∙ parts.1 in
    let size = run_length is_ascii_alphanumeric (c ∷ w) behind all (run_stops behind ends) in
    token_read comments place c w behind Number (digit_opens c parts.0)
    (ap (λ b. by_kind b (is_ascii_digit c) c (c ∷ (w ++ behind))) (digit_no_word c parts.0)
    ∙ (ap (λ b. by_kind false b c (c ∷ (w ++ behind))) parts.0 ∙ ap (λ n. (Number, n)) size))

-- a byte that is a mark by itself
pub record IsMark (c : ℕ) : Type 0 where
  pub opens : Opens c
  pub no_word : begins_word c ≡ false
  pub no_digit : is_ascii_digit c ≡ false

pub mark_read : (comments : Comments) (place c : ℕ) (behind : List ℕ) → IsMark c →
    tokens_from comments place 0 (c ∷ behind) ≡ token Mark (c ∷ []) place ∷ tokens_from comments (place + 1) 0 behind
mark_read comments place c behind m =
    token_read comments place c [] behind Mark m.opens
    (ap (λ b. by_kind b (is_ascii_digit c) c (c ∷ behind)) m.no_word
    ∙ (ap (λ b. by_kind false b c (c ∷ behind)) m.no_digit
    ∙ ap (λ n. (Mark, n)) (len_utf8_ascii c m.opens.ascii)))

-- a blank is passed
pub blank_passed : (comments : Comments) (place : ℕ) (behind : List ℕ) →
    tokens_from comments place 0 (32 ∷ behind) ≡ tokens_from comments (place + 1) 0 behind
unfolding tokens_from
blank_passed comments place behind = refl
