-- Lemmas on the tokens of a line.
use Rattle.std.proofs.Common.{◌≡◌, ℕ, zero, suc, ◌+◌, ◌-◌, ◌<◌, ◌≤◌, Bool, true, false, cond, not, List, [], ◌∷◌, ◌++◌, length, take, drop, get_or, nat_eq, refl, sym, ap, ◌∙◌, inl, inr, subst, arith, codes, IsUtf8, IsCharBoundary, encode_utf8, encode_utf8_all, drop_of_length-le, add-zero, slice_index, drop-cons, All, length-take, Option, Some, None}
use Rattle.std.proofs.lemmas.Bool.Decides.{nat_tests}
use Rattle.std.proofs.lemmas.Iterator.{YieldsList}
use Rattle.std.proofs.lemmas.Iterator.Consumers.{YieldsList-from_shown}
use Rattle.std.proofs.lemmas.Str.{IsCharBoundary-start, IsCharBoundary-end, IsCharBoundary-after_ascii, IsCharBoundary-from_rest, IsCharBoundary-past_char, IsUtf8-drop, chars_past_char, byte_from_char, len_utf8_bounds}
use Rattle.std.specs.Char.{is_ascii_alphanumeric, is_ascii_digit, len_utf8}
use Rattle.std.specs.Str.{chars}
use Rattle.std.specs.List.{starts_with, prefix_len}
use Rattle.sl_model.specs.declared.text.Comments.{Comments}
use Rattle.sl_model.specs.declared.text.Comments.TheVariants.{Slash, SlashAt, Taken}
use Rattle.sl_model.specs.declared.text.TokenKind.{TokenKind}
use Rattle.sl_model.specs.declared.text.TokenKind.TheVariants.{Word, Number, Mark, Comment}
use Rattle.sl_model.specs.Text.{is_blank, holds}
use Rattle.sl_model.specs.Token.{Lexeme, begins_word, is_word_byte, comment_length, begins_line_comment, begins_block_comment, first_char, first_token, lexeme, tokens_from, tokens_at, leaves_open, open_behind}
use Rattle.sl_text.specs.Tokens.{shape, blanks_before, IsFirst, GivesToken, token_value, tokens_left, is_inside}
use Rattle.sl_text.specs.declared.token.Token.{Token}
use Rattle.sl_text.specs.declared.token.Tokens.{Tokens}
use Rattle.sl_text.proofs.LineLemmas.{Ends, ends_later, ends_boundary}
use Rattle.std.proofs.lemmas.Bool.{and_parts}
use Rattle.sl_laws.proofs.Texts.{begin_word, digit_alphanumeric, first_token-block, starts_front, starts_take, taken_begins}
use Rattle.std.proofs.lemmas.Bool.{not-true, or_parts}

-- ---- runs of bytes that pass a test

run_step : (p : ℕ → Bool) (c : ℕ) (text : List ℕ) (b : Bool) (k : ℕ) → p c ≡ b → ((j : ℕ) → prefix_len p text ≡ suc j → (j < length text) × (p (get_or text j 0) ≡ true)) → cond b (1 + prefix_len p text) 0 ≡ suc k → (k < suc (length text)) × (p (get_or (c ∷ text) k 0) ≡ true)
run_step p c text false k is rest e = absurd (omega arith)
run_step p c text true zero is rest e = (omega arith, is)
run_step p c text true (suc j) is rest e =
    let shorter : prefix_len p text ≡ suc j = omega arith in
    let last = rest j shorter in
    let within : j < length text = last.0 in
    (omega arith, last.1)

-- the last byte of a run passes the test
run_last : (p : ℕ → Bool) (text : List ℕ) (k : ℕ) → prefix_len p text ≡ suc k → (k < length text) × (p (get_or text k 0) ≡ true)
run_last p [] k e = absurd (omega arith)
run_last p (c ∷ text) k e = run_step p c text (p c) k refl (λ j h. run_last p text j h) e

run_boundary_at : (p : ℕ → Bool) → ((c : ℕ) → p c ≡ true → c < 128) → (text : List ℕ) (n : ℕ) → IsUtf8 text → prefix_len p text ≡ n → IsCharBoundary text n
run_boundary_at p ascii text zero utf8 e = IsCharBoundary-start text utf8
run_boundary_at p ascii text (suc k) utf8 e =
    let last = run_last p text k e in
    let next : k + 1 ≡ suc k = omega arith in
    subst (IsCharBoundary text) next (IsCharBoundary-after_ascii text k utf8 last.0 (ascii (get_or text k 0) last.1))

-- a text may be cut behind a run of ASCII bytes
pub run_boundary : (p : ℕ → Bool) → ((c : ℕ) → p c ≡ true → c < 128) → (text : List ℕ) → IsUtf8 text → IsCharBoundary text (prefix_len p text)
run_boundary p ascii text utf8 = run_boundary_at p ascii text (prefix_len p text) utf8 refl

run_some : (p : ℕ → Bool) (text : List ℕ) → 0 < length text → p (get_or text 0 0) ≡ true → 0 < prefix_len p text
run_some p [] some passes = absurd (omega arith)
run_some p (c ∷ text) some passes = subst (λ b. 0 < cond b (1 + prefix_len p text) 0) (sym passes) (omega arith)

word_ascii : (c : ℕ) → is_word_byte c ≡ true → c < 128
word_ascii c h = grind (arith, nat_tests)

alphanumeric_ascii : (c : ℕ) → is_ascii_alphanumeric c ≡ true → c < 128
alphanumeric_ascii c h = grind (arith, nat_tests)

digit_ascii : (c : ℕ) → is_ascii_digit c ≡ true → c < 128
digit_ascii c h = grind (arith, nat_tests)

begin_ascii : (c : ℕ) → begins_word c ≡ true → c < 128
begin_ascii c h = grind (arith, nat_tests)

blank_ascii : (c : ℕ) → is_blank c ≡ true → c < 128
blank_ascii c h = grind (arith, nat_tests)

-- a text may be cut behind its blanks
pub blanks_boundary : (inside : Bool) (text : List ℕ) → IsUtf8 text → IsCharBoundary text (blanks_before inside text)
blanks_boundary true text utf8 = IsCharBoundary-start text utf8
blanks_boundary false text utf8 = run_boundary is_blank blank_ascii text utf8

-- ---- block comments

comment_step : (c : ℕ) (text : List ℕ) (b : Bool) → starts_with nat_eq (c ∷ text) (codes "*/") ≡ b → Ends text (comment_length text) → Ends (c ∷ text) (cond b 2 (suc (comment_length text)))
comment_step c text false is e = ends_later c text (comment_length text) e
comment_step c text true is e =
    let rest = starts_front (codes "*/") (c ∷ text) is in
    inr (
      1,
      record {
        place = omega arith;
        within = subst (λ t. 1 < length t) (sym rest.1) (omega arith);
        ascii = subst (λ t. get_or t 1 0 < 128) (sym rest.1) (omega arith);
      },
    )

pub comment_ends : (text : List ℕ) → Ends text (comment_length text)
unfolding comment_length
comment_ends [] = inl refl
comment_ends (c ∷ text) = comment_step c text (starts_with nat_eq (c ∷ text) (codes "*/")) refl (comment_ends text)

comment_some : (text : List ℕ) → 0 < length text → 0 < comment_length text
unfolding comment_length
comment_some [] some = absurd (omega arith)
comment_some (c ∷ text) some = elim (starts_with nat_eq (c ∷ text) (codes "*/")) as (λ b. 0 < cond b 2 (suc (comment_length text))) [ true ↦ omega arith | false ↦ omega arith ]

ended_holds : (text rest : List ℕ) → text ≡ 42 ∷ 47 ∷ rest → holds (codes "*/") (take 2 text) ≡ true
unfolding holds
ended_holds text rest e = ap (λ t. holds (codes "*/") (take 2 t)) e

open_step : (c : ℕ) (text : List ℕ) (b : Bool) → starts_with nat_eq (c ∷ text) (codes "*/") ≡ b → (holds (codes "*/") (take (comment_length text) text) ≡ false → comment_length text ≡ length text) → holds (codes "*/") (take (cond b 2 (suc (comment_length text))) (c ∷ text)) ≡ false → cond b 2 (suc (comment_length text)) ≡ suc (length text)
unfolding holds
open_step c text false is rest e = ap suc (rest (or_parts (starts_with nat_eq (c ∷ take (comment_length text) text) (codes "*/")) (holds (codes "*/") (take (comment_length text) text)) e).1)
open_step c text true is rest e =
    let front = starts_front (codes "*/") (c ∷ text) is in
    let ended : holds (codes "*/") (take 2 (c ∷ text)) ≡ true = ended_holds (c ∷ text) front.0 front.1 in
    cc (sym e ∙ ended)

-- a comment whose end stands nowhere in it is the whole text
comment_open : (text : List ℕ) → holds (codes "*/") (take (comment_length text) text) ≡ false → comment_length text ≡ length text
unfolding comment_length
comment_open [] e = refl
comment_open (c ∷ text) e = open_step c text (starts_with nat_eq (c ∷ text) (codes "*/")) refl (comment_open text) e

-- ---- the first token

-- a length of a token that a text begins with
pub record IsLength (text : List ℕ) (n : ℕ) : Type 0 where
  pub some : 0 < n
  pub boundary : IsCharBoundary text n

-- the first character of a text, and what stands behind it
record BeginsWith (text : List ℕ) (c : ℕ) (rest : List ℕ) : Type 0 where
  is : text ≡ encode_utf8 c ++ rest
  char : first_char text ≡ c

first_of : (text : List ℕ) → IsUtf8 text → 0 < length text → (c : ℕ) × ((rest : List ℕ) × BeginsWith text c rest)
first_of text utf8 some = of_chars utf8.0 utf8.1.1
  where
    of_chars : (cs : List ℕ) → encode_utf8_all cs ≡ text → (c : ℕ) × ((rest : List ℕ) × BeginsWith text c rest)
    of_chars [] e = absurd (let none = ap length e in omega arith)
    of_chars (c ∷ cs) e = (c, (encode_utf8_all cs, record { is = sym e; char = ap (λ all. slice_index all 0) (chars_past_char text (encode_utf8_all cs) c utf8 (sym e)) }))

first_byte : (text : List ℕ) (c : ℕ) (rest : List ℕ) → BeginsWith text c rest → c < 128 → get_or text 0 0 ≡ c
first_byte text c rest begins ascii = byte_from_char text rest c begins.is ascii

-- a run that begins at the first character
run_length : (p q : ℕ → Bool) → ((c : ℕ) → q c ≡ true → c < 128) → ((c : ℕ) → p c ≡ true → c < 128) → ((c : ℕ) → p c ≡ true → q c ≡ true) → (text : List ℕ) → IsUtf8 text → 0 < length text → p (first_char text) ≡ true → IsLength text (prefix_len q text)
run_length p q ascii begin_is_ascii begins text utf8 some first =
    let found = first_of text utf8 some in
    let c = found.0 in
    let starts : p c ≡ true = subst (λ d. p d ≡ true) found.1.1.char first in
    let byte : get_or text 0 0 ≡ c = first_byte text c found.1.0 found.1.1 (begin_is_ascii c starts) in
    record {
      some = run_some q text some (subst (λ d. q d ≡ true) (sym byte) (begins c starts));
      boundary = run_boundary q ascii text utf8;
    }

mark_length : (text : List ℕ) → IsUtf8 text → 0 < length text → IsLength text (len_utf8 (first_char text))
mark_length text utf8 some =
    let found = first_of text utf8 some in
    let c = found.0 in
    let cut : IsCharBoundary text (0 + len_utf8 c) = IsCharBoundary-past_char text found.1.0 0 c (omega arith) utf8 found.1.1.is in
    let zero_more : 0 + len_utf8 c ≡ len_utf8 c = omega arith in
    subst (λ d. IsLength text (len_utf8 d)) (sym found.1.1.char) (record {
      some = (len_utf8_bounds c).0;
      boundary = subst (IsCharBoundary text) zero_more cut;
    })

block_length : (text : List ℕ) → IsUtf8 text → starts_with nat_eq text (codes "/*") ≡ true → IsLength text (comment_length (drop 2 text) + 2)
block_length text utf8 begins =
    let rest = starts_front (codes "/*") text begins in
    let long : 1 < length text = subst (λ t. 1 < length t) (sym rest.1) (omega arith) in
    let ascii : get_or text 1 0 < 128 = subst (λ t. get_or t 1 0 < 128) (sym rest.1) (omega arith) in
    let cut : IsCharBoundary text 2 = IsCharBoundary-after_ascii text 1 utf8 long ascii in
    let behind : IsCharBoundary (drop 2 text) (comment_length (drop 2 text)) = ends_boundary (drop 2 text) (comment_length (drop 2 text)) (IsUtf8-drop text 2 utf8 cut) (comment_ends (drop 2 text)) in
    let order : 2 + comment_length (drop 2 text) ≡ comment_length (drop 2 text) + 2 = omega arith in
    record {
      some = omega arith;
      boundary = subst (IsCharBoundary text) order (IsCharBoundary-from_rest text 2 (comment_length (drop 2 text)) (omega arith) behind);
    }

-- what holds of either of two values holds of the one that a test chooses
chosen : {X : Type 0} (P : X → Type 0) (b : Bool) (x y : X) → (b ≡ true → P x) → (b ≡ false → P y) → P (cond b x y)
chosen P true x y here there = here refl
chosen P false x y here there = there refl

-- a block comment is begun by its mark
block_begins : (comments : Comments) (text : List ℕ) → begins_block_comment comments text ≡ true → starts_with nat_eq text (codes "/*") ≡ true
block_begins Slash text e = e
block_begins SlashAt text e = e
block_begins Taken text e = cc

first_token_length : (comments : Comments) (text : List ℕ) → IsUtf8 text → 0 < length text → IsLength text (first_token comments text).1
unfolding first_token
first_token_length comments text utf8 some =
    let P : TokenKind × ℕ → Type 0 = λ found. IsLength text found.1 in
    let c = first_char text in
    let mark : TokenKind × ℕ = (Mark, len_utf8 c) in
    let number : TokenKind × ℕ = cond (is_ascii_digit c) (Number, prefix_len is_ascii_alphanumeric text) mark in
    let word : TokenKind × ℕ = cond (begins_word c) (Word, prefix_len is_word_byte text) number in
    let comment : TokenKind × ℕ = cond (begins_line_comment comments text) (Comment, length text) word in
    chosen P (begins_block_comment comments text) (Comment, comment_length (drop 2 text) + 2) comment (λ e. block_length text utf8 (block_begins comments text e))
    (λ _. chosen P (begins_line_comment comments text) (Comment, length text) word (λ _. record { some = some; boundary = IsCharBoundary-end text })
    (λ _. chosen P (begins_word c) (Word, prefix_len is_word_byte text) number (λ e. run_length begins_word is_word_byte word_ascii begin_ascii begin_word text utf8 some e)
    (λ _. chosen P (is_ascii_digit c) (Number, prefix_len is_ascii_alphanumeric text) mark (λ e. run_length is_ascii_digit is_ascii_alphanumeric alphanumeric_ascii digit_ascii digit_alphanumeric text utf8 some e)
    (λ _. mark_length text utf8 some))))

-- a token is not empty, and a text may be cut behind it
pub shape_length : (comments : Comments) (inside : Bool) (text : List ℕ) → IsUtf8 text → 0 < length text → IsLength text (shape comments inside text).1
shape_length comments false text utf8 some = first_token_length comments text utf8 some
shape_length comments true text utf8 some = record { some = comment_some text some; boundary = ends_boundary text (comment_length text) utf8 (comment_ends text) }

-- ---- what stands behind a token that leaves a comment open

open_block : (rest : List ℕ) (m : ℕ) → m ≡ comment_length rest → holds (codes "*/") (take m rest) ≡ false → drop m rest ≡ []
open_block rest m e never =
    let never' : holds (codes "*/") (take (comment_length rest) rest) ≡ false = subst (λ n. holds (codes "*/") (take n rest) ≡ false) e never in
    let whole : m ≡ length rest = e ∙ comment_open rest never' in
    drop_of_length-le rest (omega arith)

-- a block comment that is begun and left open
begun_open : (text rest : List ℕ) → text ≡ 47 ∷ 42 ∷ rest → holds (codes "*/") (drop 2 (take (comment_length (drop 2 text) + 2) text)) ≡ false → drop (comment_length (drop 2 text) + 2) text ≡ []
begun_open text rest e never =
    let m = comment_length rest in
    let inner : drop 2 text ≡ rest = ap (drop 2) e in
    let size : comment_length (drop 2 text) + 2 ≡ suc (suc m) = ap (λ t. comment_length t + 2) inner ∙ (let two : m + 2 ≡ suc (suc m) = omega arith in two) in
    let token : take (comment_length (drop 2 text) + 2) text ≡ 47 ∷ 42 ∷ take m rest = ap (λ n. take n text) size ∙ ap (take (suc (suc m))) e in
    let unclosed : holds (codes "*/") (take m rest) ≡ false = ap (λ t. holds (codes "*/") (drop 2 t)) (sym token) ∙ never in
    ap (λ n. drop n text) size ∙ ap (drop (suc (suc m))) e ∙ open_block rest m refl unclosed

first_open_with : (comments : Comments) (text : List ℕ) → (starts_with nat_eq text (codes "/*") ≡ true → begins_block_comment comments text ≡ true) → leaves_open false (take (first_token comments text).1 text) ≡ true → drop (first_token comments text).1 text ≡ []
first_open_with comments text block e =
    let n = (first_token comments text).1 in
    let tests = and_parts (starts_with nat_eq (take n text) (codes "/*")) (not (holds (codes "*/") (drop 2 (take n text)))) e in
    let begins : starts_with nat_eq text (codes "/*") ≡ true = starts_take (codes "/*") text n tests.0 in
    let size : n ≡ comment_length (drop 2 text) + 2 = ap (λ found. found.1) (first_token-block comments text (block begins)) in
    let never : holds (codes "*/") (drop 2 (take (comment_length (drop 2 text) + 2) text)) ≡ false = ap (λ k. holds (codes "*/") (drop 2 (take k text))) (sym size) ∙ not-true (holds (codes "*/") (drop 2 (take n text))) tests.1 in
    let front = starts_front (codes "/*") text begins in
    ap (λ k. drop k text) size ∙ begun_open text front.0 front.1 never

first_open : (comments : Comments) (text : List ℕ) → leaves_open false (take (first_token comments text).1 text) ≡ true → drop (first_token comments text).1 text ≡ []
first_open Slash text e = first_open_with Slash text (λ begins. begins) e
first_open SlashAt text e = first_open_with SlashAt text (λ begins. begins) e
first_open Taken text e =
    let n = (first_token Taken text).1 in
    let tests = and_parts (starts_with nat_eq (take n text) (codes "/*")) (not (holds (codes "*/") (drop 2 (take n text)))) e in
    let never : starts_with nat_eq (take n text) (codes "/*") ≡ false = taken_begins text in
    let both_ways : true ≡ false = sym tests.0 ∙ never in cc

-- behind such a token stands nothing
pub open_rest : (comments : Comments) (inside : Bool) (text : List ℕ) → leaves_open inside (take (shape comments inside text).1 text) ≡ true → drop (shape comments inside text).1 text ≡ []
open_rest comments true text e = open_block text (comment_length text) refl (not-true (holds (codes "*/") (take (comment_length text) text)) e)
open_rest comments false text e = first_open comments text e

-- ---- the tokens that are left

tokens_taken : (comments : Comments) (place taken : ℕ) (text : List ℕ) → tokens_from comments place taken text ≡ tokens_from comments (place + taken) 0 (drop taken text)
unfolding tokens_from
tokens_taken comments place zero text = ap (λ p. tokens_from comments p 0 text) (sym (add-zero place))
tokens_taken comments place (suc taken) [] = refl
tokens_taken comments place (suc taken) (c ∷ text) =
    let next : place + 1 + taken ≡ place + suc taken = omega arith in
    tokens_taken comments (place + 1) taken text ∙ ap (λ p. tokens_from comments p 0 (drop taken text)) next

blank_step : (comments : Comments) (place c : ℕ) (text : List ℕ) (b : Bool) → is_blank c ≡ b → tokens_from comments (place + 1) 0 text ≡ tokens_from comments (place + 1 + prefix_len is_blank text) 0 (drop (prefix_len is_blank text) text) → tokens_from comments place 0 (c ∷ text) ≡ tokens_from comments (place + cond b (1 + prefix_len is_blank text) 0) 0 (drop (cond b (1 + prefix_len is_blank text) 0) (c ∷ text))
unfolding tokens_from
blank_step comments place c text false is rest = ap (λ p. tokens_from comments p 0 (c ∷ text)) (sym (add-zero place))
blank_step comments place c text true is rest =
    let n = prefix_len is_blank text in
    let more : suc n ≡ 1 + n = omega arith in
    let next : place + 1 + n ≡ place + (1 + n) = omega arith in
    ap (λ b. cond b (tokens_from comments (place + 1) 0 text) (lexeme (first_token comments (c ∷ text)) place (c ∷ text) ∷ tokens_from comments (place + 1) ((first_token comments (c ∷ text)).1 - 1) text)) is
    ∙ rest ∙ ap (λ p. tokens_from comments p 0 (drop n text)) next ∙ ap (λ k. tokens_from comments (place + (1 + n)) 0 (drop k (c ∷ text))) more

-- blanks give no token
tokens_blanks : (comments : Comments) (place : ℕ) (text : List ℕ) → tokens_from comments place 0 text ≡ tokens_from comments (place + prefix_len is_blank text) 0 (drop (prefix_len is_blank text) text)
unfolding tokens_from
tokens_blanks comments place [] = refl
tokens_blanks comments place (c ∷ text) = blank_step comments place c text (is_blank c) refl (tokens_blanks comments (place + 1) text)

drop_front : (n c : ℕ) (text : List ℕ) → 0 < n → drop (n - 1) text ≡ drop n (c ∷ text)
drop_front zero c text some = absurd (omega arith)
drop_front (suc m) c text some = let less : suc m - 1 ≡ m = omega arith in ap (λ k. drop k text) less

-- what begins with no blank begins with a token
tokens_first : (comments : Comments) (place : ℕ) (text : List ℕ) → 0 < length text → ((c : ℕ) (rest : List ℕ) → text ≡ c ∷ rest → is_blank c ≡ false) → 0 < (first_token comments text).1 → tokens_from comments place 0 text ≡ lexeme (first_token comments text) place text ∷ tokens_from comments (place + (first_token comments text).1) 0 (drop (first_token comments text).1 text)
unfolding tokens_from
tokens_first comments place [] some mark long = absurd (omega arith)
tokens_first comments place (c ∷ text) some mark long =
    let n = (first_token comments (c ∷ text)).1 in
    let token = lexeme (first_token comments (c ∷ text)) place (c ∷ text) in
    let next : place + 1 + (n - 1) ≡ place + n = omega arith in
    ap (λ b. cond b (tokens_from comments (place + 1) 0 text) (token ∷ tokens_from comments (place + 1) (n - 1) text)) (mark c text refl)
    ∙ ap (λ rest. token ∷ rest) (tokens_taken comments (place + 1) (n - 1) text ∙ ap (λ p. tokens_from comments p 0 (drop (n - 1) text)) next ∙ ap (λ t. tokens_from comments (place + n) 0 t) (drop_front n c text long))

front_step : (d : ℕ) (text : List ℕ) (b : Bool) (c : ℕ) (rest : List ℕ) → is_blank d ≡ b → (drop (prefix_len is_blank text) text ≡ c ∷ rest → is_blank c ≡ false) → drop (cond b (1 + prefix_len is_blank text) 0) (d ∷ text) ≡ c ∷ rest → is_blank c ≡ false
front_step d text false c rest is later e = ap is_blank (sym (head_same e)) ∙ is
  where
    head_same : d ∷ text ≡ c ∷ rest → d ≡ c
    head_same same = cc
front_step d text true c rest is later e = let more : suc (prefix_len is_blank text) ≡ 1 + prefix_len is_blank text = omega arith in later (ap (λ k. drop k (d ∷ text)) more ∙ e)

-- behind the blanks at the front stands no blank
front_mark : (text : List ℕ) (c : ℕ) (rest : List ℕ) → drop (prefix_len is_blank text) text ≡ c ∷ rest → is_blank c ≡ false
front_mark [] c rest e = cc
front_mark (d ∷ text) c rest e = front_step d text (is_blank d) c rest refl (front_mark text c rest) e

-- the tokens behind one that leaves a comment open only where nothing stands behind it
tokens_after : (comments : Comments) (unclosed : Bool) (place : ℕ) (text : List ℕ) → (unclosed ≡ true → text ≡ []) → tokens_from comments place 0 text ≡ tokens_at comments unclosed place text
unfolding tokens_from tokens_at
tokens_after comments false place text ends = refl
tokens_after comments true place text ends = ap (tokens_from comments place 0) (ends refl) ∙ sym (ap (tokens_at comments true place) (ends refl))

-- where only blanks are left, no token is
pub tokens_none : (comments : Comments) (inside : Bool) (place : ℕ) (text : List ℕ) → drop (blanks_before inside text) text ≡ [] → tokens_at comments inside place text ≡ []
unfolding tokens_from tokens_at
tokens_none comments false place text e = tokens_blanks comments place text ∙ ap (tokens_from comments (place + prefix_len is_blank text) 0) e
tokens_none comments true place text e = ap (tokens_at comments true place) e

inside_step : (comments : Comments) (place : ℕ) (text : List ℕ) → 0 < length text → tokens_at comments true place text ≡ lexeme (Comment, comment_length text) place text ∷ tokens_from comments place (comment_length text) text
unfolding tokens_at
inside_step comments place [] some = absurd (omega arith)
inside_step comments place (c ∷ text) some = refl

-- the token that comes first, and those behind it
tokens_step : (comments : Comments) (inside : Bool) (place : ℕ) (text rest : List ℕ) → rest ≡ drop (blanks_before inside text) text → 0 < length rest → 0 < (shape comments inside rest).1 → tokens_at comments inside place text ≡ lexeme (shape comments inside rest) (place + blanks_before inside text) rest ∷ tokens_at comments (leaves_open inside (take (shape comments inside rest).1 rest)) (place + blanks_before inside text + (shape comments inside rest).1) (drop (shape comments inside rest).1 rest)
unfolding tokens_at
tokens_step comments true place text rest e some long =
    let n = comment_length rest in
    ap (tokens_at comments true place) (sym e) ∙ inside_step comments place rest some
    ∙ ap (λ p. lexeme (Comment, n) p rest ∷ tokens_from comments p n rest) (sym (add-zero place))
    ∙ ap (λ all. lexeme (Comment, n) (place + 0) rest ∷ all) (tokens_taken comments (place + 0) n rest ∙ tokens_after comments (leaves_open true (take n rest)) (place + 0 + n) (drop n rest) (open_rest comments true rest))
tokens_step comments false place text rest e some long =
    let b = prefix_len is_blank text in
    let n = (first_token comments rest).1 in
    tokens_blanks comments place text ∙ ap (tokens_from comments (place + b) 0) (sym e)
    ∙ tokens_first comments (place + b) rest some (λ c more same. front_mark text c more (sym e ∙ same)) long
    ∙ ap (λ all. lexeme (first_token comments rest) (place + b) rest ∷ all) (tokens_after comments (leaves_open false (take n rest)) (place + b + n) (drop n rest) (open_rest comments false rest))

-- the same, where each part has a name
pub tokens_next : (comments : Comments) (inside : Bool) (place : ℕ) (text : List ℕ) (blanks : ℕ) (rest : List ℕ) (found : TokenKind × ℕ) (token behind : List ℕ) (unclosed : Bool) → blanks ≡ blanks_before inside text → rest ≡ drop blanks text → IsUtf8 rest → IsFirst comments inside rest found → token ≡ take found.1 rest → behind ≡ drop found.1 rest → unclosed ≡ leaves_open inside token → tokens_at comments inside place text ≡ record { kind = found.0; text = token; start = place + blanks } ∷ tokens_at comments unclosed (place + blanks + found.1) behind
tokens_next comments inside place text blanks rest found token behind unclosed blanks_are rest_is utf8 first token_is behind_is unclosed_is =
    let b = blanks_before inside text in
    let f = shape comments inside rest in
    let n = found.1 in
    let start = place + blanks in
    tokens_step comments inside place text rest (rest_is ∙ ap (λ k. drop k text) blanks_are) first.some (shape_length comments inside rest utf8 first.some).some
    ∙ ap (λ k. lexeme f (place + k) rest ∷ tokens_at comments (leaves_open inside (take f.1 rest)) (place + k + f.1) (drop f.1 rest)) (sym blanks_are)
    ∙ ap (λ g. lexeme g start rest ∷ tokens_at comments (leaves_open inside (take g.1 rest)) (start + g.1) (drop g.1 rest)) (sym first.shape_is)
    ∙ ap (λ t. record { kind = found.0; text = t; start = start } ∷ tokens_at comments (leaves_open inside t) (start + n) (drop n rest)) (sym token_is)
    ∙ ap (λ u. record { kind = found.0; text = token; start = start } ∷ tokens_at comments u (start + n) (drop n rest)) (sym unclosed_is)
    ∙ ap (λ d. record { kind = found.0; text = token; start = start } ∷ tokens_at comments unclosed (start + n) d) (sym behind_is)

few_step : (blank : Bool) (token : Lexeme) (n : ℕ) (behind rest : List Lexeme) → length behind ≤ n → length rest ≤ n → length (cond blank behind (token ∷ rest)) ≤ suc n
few_step true token n behind rest few more = omega arith
few_step false token n behind rest few more = omega arith

tokens_from_few : (comments : Comments) (place taken : ℕ) (text : List ℕ) → length (tokens_from comments place taken text) ≤ length text
unfolding tokens_from
tokens_from_few comments place taken [] = omega arith
tokens_from_few comments place (suc taken) (c ∷ text) = let few : length (tokens_from comments (place + 1) taken text) ≤ length text = tokens_from_few comments (place + 1) taken text in omega arith
tokens_from_few comments place zero (c ∷ text) =
    let left = (first_token comments (c ∷ text)).1 - 1 in
    few_step (is_blank c) (lexeme (first_token comments (c ∷ text)) place (c ∷ text)) (length text) (tokens_from comments (place + 1) 0 text) (tokens_from comments (place + 1) left text)
    (tokens_from_few comments (place + 1) 0 text) (tokens_from_few comments (place + 1) left text)

comment_few : (comments : Comments) (place n c : ℕ) (text : List ℕ) → 0 < n → length (tokens_from comments place n (c ∷ text)) ≤ length text
unfolding tokens_from
comment_few comments place zero c text some = absurd (omega arith)
comment_few comments place (suc n) c text some = tokens_from_few comments (place + 1) n text

-- a text has no more tokens than bytes
pub tokens_few : (comments : Comments) (inside : Bool) (place : ℕ) (text : List ℕ) → length (tokens_at comments inside place text) ≤ length text
unfolding tokens_at
tokens_few comments false place text = tokens_from_few comments place 0 text
tokens_few comments true place [] = omega arith
tokens_few comments true place (c ∷ text) =
    let few : length (tokens_from comments place (comment_length (c ∷ text)) (c ∷ text)) ≤ length text = comment_few comments place (comment_length (c ∷ text)) c text (comment_some (c ∷ text) (omega arith)) in
    omega arith

all_nil : {X : Type 0} (P : X → Type 0) → All P []
all_nil P k d below = absurd (omega arith)

all_cons : {X : Type 0} (P : X → Type 0) (x : X) (xs : List X) → P x → All P xs → All P (x ∷ xs)
all_cons P x xs here rest zero d below = here
all_cons P x xs here rest (suc k) d below = rest k d (omega arith)

within_step : (end : ℕ) (blank : Bool) (token : Lexeme) (behind rest : List Lexeme) → token.start + length token.text ≤ end → All (λ t. t.start + length t.text ≤ end) behind → All (λ t. t.start + length t.text ≤ end) rest → All (λ t. t.start + length t.text ≤ end) (cond blank behind (token ∷ rest))
within_step end true token behind rest here all more = all
within_step end false token behind rest here all more = all_cons (λ t. t.start + length t.text ≤ end) token rest here more

tokens_from_within : (comments : Comments) (place taken : ℕ) (text : List ℕ) (end : ℕ) → place + length text ≤ end → All (λ t. t.start + length t.text ≤ end) (tokens_from comments place taken text)
unfolding tokens_from
tokens_from_within comments place taken [] end fits = all_nil (λ t. t.start + length t.text ≤ end)
tokens_from_within comments place (suc taken) (c ∷ text) end fits = tokens_from_within comments (place + 1) taken text end (omega arith)
tokens_from_within comments place zero (c ∷ text) end fits =
    let n = (first_token comments (c ∷ text)).1 in
    let size = length-take n (c ∷ text) in
    within_step end (is_blank c) (lexeme (first_token comments (c ∷ text)) place (c ∷ text)) (tokens_from comments (place + 1) 0 text) (tokens_from comments (place + 1) (n - 1) text)
    (omega (arith, size)) (tokens_from_within comments (place + 1) 0 text end (omega arith)) (tokens_from_within comments (place + 1) (n - 1) text end (omega arith))

-- no token passes the end of its line
pub tokens_within : (comments : Comments) (inside : Bool) (place : ℕ) (text : List ℕ) → All (λ t. t.start + length t.text ≤ place + length text) (tokens_at comments inside place text)
unfolding tokens_at
tokens_within comments false place text = tokens_from_within comments place 0 text (place + length text) (omega arith)
tokens_within comments true place [] = all_nil (λ t. t.start + length t.text ≤ place + 0)
tokens_within comments true place (c ∷ text) =
    let n = comment_length (c ∷ text) in
    let end = place + suc (length text) in
    let size = length-take n (c ∷ text) in
    all_cons (λ t. t.start + length t.text ≤ end) (lexeme (Comment, n) place (c ∷ text)) (tokens_from comments place n (c ∷ text)) (omega (arith, size)) (tokens_from_within comments place n (c ∷ text) end (omega arith))

-- the length of a comment that is open at a place
pub comment_length_here : (text : List ℕ) (place : ℕ) → place < length text → starts_with nat_eq (drop place text) (codes "*/") ≡ true → comment_length (drop place text) ≡ 2
unfolding comment_length
comment_length_here text place within ends =
    let front = drop-cons text place 0 within in
    let ends' : starts_with nat_eq (get_or text place 0 ∷ drop (suc place) text) (codes "*/") ≡ true = subst (λ t. starts_with nat_eq t (codes "*/") ≡ true) front ends in
    ap comment_length front ∙ ap (λ b. cond b 2 (suc (comment_length (drop (suc place) text)))) ends'

pub comment_length_later : (text : List ℕ) (place : ℕ) → place < length text → starts_with nat_eq (drop place text) (codes "*/") ≡ false → comment_length (drop place text) ≡ comment_length (drop (place + 1) text) + 1
unfolding comment_length
comment_length_later text place within goes =
    let front = drop-cons text place 0 within in
    let goes' : starts_with nat_eq (get_or text place 0 ∷ drop (suc place) text) (codes "*/") ≡ false = subst (λ t. starts_with nat_eq t (codes "*/") ≡ false) front goes in
    let next : suc place ≡ place + 1 = omega arith in
    let more : suc (comment_length (drop (suc place) text)) ≡ comment_length (drop (suc place) text) + 1 = omega arith in
    ap comment_length front ∙ ap (λ b. cond b 2 (suc (comment_length (drop (suc place) text)))) goes' ∙ more ∙ ap (λ n. comment_length (drop n text) + 1) next

pub comment_length-nil : comment_length [] ≡ 0
unfolding comment_length
comment_length-nil = refl

-- ---- the iterator

-- whether a comment is open behind all the tokens stays as it was
pub open_behind_same : (old new : Tokens) (given : Option Token) → GivesToken old given new → open_behind (is_inside new) (tokens_left new) ≡ open_behind (is_inside old) (tokens_left old)
unfolding open_behind
open_behind_same old new None gives = ap (open_behind (is_inside new)) gives.tokens.1 ∙ gives.inside ∙ sym (ap (open_behind (is_inside old)) gives.tokens.0)
open_behind_same old new (Some token) gives = sym (ap (open_behind (is_inside old)) gives.tokens ∙ ap (λ inside. open_behind inside (tokens_left new)) (sym gives.inside))

-- where no token is left, it says whether a comment is open behind them all
pub open_behind_end : (old new : Tokens) → GivesToken old None new → is_inside new ≡ open_behind (is_inside old) (tokens_left old)
unfolding open_behind
open_behind_end old new gives = gives.inside ∙ sym (ap (open_behind (is_inside old)) gives.tokens.0)

-- the iterator gives the tokens that are left, one after the other
pub tokens_yield : (left : Tokens) → YieldsList GivesToken token_value left (tokens_left left)
tokens_yield left = YieldsList-from_shown GivesToken token_value tokens_left (λ old new gives. ap length gives.tokens.0) (λ old token new gives. gives.tokens) left
