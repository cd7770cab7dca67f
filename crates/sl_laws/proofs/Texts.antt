-- Texts that start with a word, lines without their ends, and bytes of words.
use Rattle.std.proofs.Common.{◌≡◌, ℕ, suc, ◌+◌, ◌≤◌, Bool, true, false, cond, ◌&&◌, List, [], ◌∷◌, ◌++◌, length, take, drop, nat_eq, eqb, refl, sym, ap, ◌∙◌, subst, arith, eq-eqb, eqb-true, codes, take-append-drop, append_assoc}
use Rattle.std.specs.List.{starts_with}
use Rattle.std.specs.Str.{chars}
use Rattle.std.specs.Char.{is_ascii_digit, is_ascii_alphanumeric}
use Rattle.std.proofs.lemmas.Bool.Decides.{nat_tests}
use Rattle.std.proofs.lemmas.Bool.{and_parts}
use Rattle.sl_model.specs.declared.text.Comments.{Comments}
use Rattle.sl_model.specs.declared.text.Comments.TheVariants.{Taken}
use Rattle.sl_model.specs.declared.text.TokenKind.TheVariants.{Comment, Mark}
use Rattle.sl_model.specs.Text.{is_line_end, without_end}
use Rattle.sl_model.specs.Token.{begins_word, begins_block_comment, is_word_byte, comment_length, first_token}

-- a text that starts with a word is the word and a rest
pub starts_front : (word text : List ℕ) → starts_with nat_eq text word ≡ true → (rest : List ℕ) × (text ≡ word ++ rest)
starts_front [] text e = (text, refl)
starts_front (x ∷ word) [] e = cc
starts_front (x ∷ word) (c ∷ text) e =
    let tests = and_parts (eqb x c) (starts_with nat_eq text word) e in
    let rest = starts_front word text tests.1 in
    (rest.0, ap (λ v. v ∷ text) (sym (eqb-true x c tests.0)) ∙ ap (λ v. x ∷ v) rest.1)

-- and the other way
pub front_starts : (word rest : List ℕ) → starts_with nat_eq (word ++ rest) word ≡ true
front_starts [] rest = refl
front_starts (x ∷ word) rest = ap (λ b. b && starts_with nat_eq (word ++ rest) word) (eq-eqb x x refl) ∙ front_starts word rest

-- what a text starts with as far as it is taken, it starts with
pub starts_take : (word text : List ℕ) (n : ℕ) → starts_with nat_eq (take n text) word ≡ true → starts_with nat_eq text word ≡ true
starts_take word text n e =
    let rest = starts_front word (take n text) e in
    let whole : text ≡ word ++ (rest.0 ++ drop n text) = sym (take-append-drop n text) ∙ ap (λ v. v ++ drop n text) rest.1 ∙ append_assoc word rest.0 (drop n text) in
    subst (λ t. starts_with nat_eq t word ≡ true) (sym whole) (front_starts word (rest.0 ++ drop n text))

-- a text that begins a block comment
pub first_token-block : (comments : Comments) (text : List ℕ) → begins_block_comment comments text ≡ true → first_token comments text ≡ (Comment, comment_length (drop 2 text) + 2)
unfolding first_token
first_token-block comments text begins = rw begins

slash_alone : (rest : List ℕ) → first_token Taken (47 ∷ 42 ∷ rest) ≡ (Mark, 1)
unfolding first_token chars
slash_alone rest = refl

taken_at : (text rest : List ℕ) → text ≡ 47 ∷ 42 ∷ rest → starts_with nat_eq (take (first_token Taken text).1 text) (codes "/*") ≡ false
taken_at text rest e =
    ap (λ t. starts_with nat_eq (take (first_token Taken t).1 t) (codes "/*")) e
    ∙ ap (λ found. starts_with nat_eq (take found.1 (47 ∷ 42 ∷ rest)) (codes "/*")) (slash_alone rest)

taken_by : (text : List ℕ) (b : Bool) → starts_with nat_eq (take (first_token Taken text).1 text) (codes "/*") ≡ b → b ≡ false
taken_by text false is = refl
taken_by text true is =
    let front = starts_front (codes "/*") text (starts_take (codes "/*") text (first_token Taken text).1 is) in
    sym is ∙ taken_at text front.0 front.1

-- where comments were taken off, no token begins one
pub taken_begins : (text : List ℕ) → starts_with nat_eq (take (first_token Taken text).1 text) (codes "/*") ≡ false
taken_begins text = taken_by text (starts_with nat_eq (take (first_token Taken text).1 text) (codes "/*")) refl

-- a byte that begins a word is one of words
pub begin_word : (c : ℕ) → begins_word c ≡ true → is_word_byte c ≡ true
begin_word c h = grind (arith, nat_tests)

-- so is a digit one of runs of letters and digits
pub digit_alphanumeric : (c : ℕ) → is_ascii_digit c ≡ true → is_ascii_alphanumeric c ≡ true
digit_alphanumeric c h = grind (arith, nat_tests)

-- a line that may be left out
shorter_step : (b : Bool) (x : ℕ) (xs ys : List ℕ) → length ys ≤ length xs → length (cond b [] (x ∷ ys)) ≤ suc (length xs)
shorter_step true x xs ys h = omega arith
shorter_step false x xs ys h = omega arith

-- a line is no shorter than what stands before its end
pub without_end_le : (line : List ℕ) → length (without_end line) ≤ length line
unfolding without_end
without_end_le [] = omega arith
without_end_le (x ∷ xs) = shorter_step (is_line_end (x ∷ xs)) x xs (without_end xs) (without_end_le xs)
