-- Tokens stand on their line one behind the other, so that a line is put together of them again.
use Rattle.std.proofs.Common.{◌≡◌, ℕ, zero, suc, ◌+◌, ◌-◌, ◌≤◌, Bool, true, false, cond, not, ◌&&◌, ◌==◌, List, [], ◌∷◌, ◌++◌, length, take, drop, slice_range, Option, Some, None, is_some, refl, ap, sym, ◌∙◌, subst, arith, append_assoc, append-nil, length-append, drop-drop, if◌then◌else◌}
use Rattle.std.specs.List.{list_all}
use Rattle.std.proofs.lemmas.Bool.{and_parts}
use Rattle.sl_model.specs.declared.text.Comments.{Comments}
use Rattle.sl_model.specs.Text.{is_blank}
use Rattle.sl_model.specs.Token.{Lexeme, first_token, lexeme, tokens_from}
use Rattle.sl_model.specs.TokenTests.{is_comment, is_word}
use Rattle.macro_expand.specs.Words.{gap, end_of, last_end}
use Rattle.macro_expand.specs.Source.{bared, left_of}
use Rattle.macro_expand.specs.Filled.{Names, replaced, put_for_word, directly_before, is_kept, at_place, or_else}

-- ---- slices

take-none : (n : ℕ) → take {A = ℕ} n [] ≡ []
take-none zero = refl
take-none (suc n) = refl

-- what stands between two places, in two parts
pub slice-join : (line : List ℕ) (a b c : ℕ) → a ≤ b → b ≤ c → slice_range line a b ++ slice_range line b c ≡ slice_range line a c
slice-join line a b c first second =
    let sum : b - a + (c - b) ≡ c - a = omega arith in
    let there : a + (b - a) ≡ b = omega arith in
    ap (λ n. take (b - a) (drop a line) ++ take (c - b) (drop n line)) (sym there)
    ∙ ap (λ l. take (b - a) (drop a line) ++ take (c - b) l) (sym (drop-drop (b - a) a line))
    ∙ take-two (b - a) (c - b) (drop a line)
    ∙ ap (λ n. take n (drop a line)) sum
  where
    take-two : (n m : ℕ) (xs : List ℕ) → take n xs ++ take m (drop n xs) ≡ take (n + m) xs
    take-two zero m xs = let none : 0 + m ≡ m = omega arith in ap (λ k. take k xs) (sym none)
    take-two (suc n) m [] = take-none m ∙ sym (take-none (suc n + m))
    take-two (suc n) m (x ∷ xs) =
        let sum : suc n + m ≡ suc (n + m) = omega arith in
        ap (λ l. x ∷ l) (take-two n m xs) ∙ ap (λ k. take k (x ∷ xs)) (sym sum)

-- ---- tokens one behind the other

-- From a place of a line on its tokens stand one behind the other, each with the text at its place.
abbrev pub AreTiled : List ℕ → ℕ → List Lexeme → Type 0
AreTiled line place [] = Unit {0}
AreTiled line place (token ∷ tokens) = (place ≤ token.start) × (at_place line token ≡ token.text) × AreTiled line (end_of token) tokens

pub tiled-before : (line : List ℕ) (near far : ℕ) (tokens : List Lexeme) → near ≤ far → AreTiled line far tokens → AreTiled line near tokens
tiled-before line near far [] le tiled = tt
tiled-before line near far (token ∷ tokens) le tiled = let here : far ≤ token.start = tiled.0 in (omega arith, tiled.1, tiled.2)

pub either-tiled : (b : Bool) (line : List ℕ) (place : ℕ) (xs ys : List Lexeme) → AreTiled line place xs → AreTiled line place ys → AreTiled line place (cond b xs ys)
either-tiled true line place xs ys first second = first
either-tiled false line place xs ys first second = second

take-length : (n : ℕ) (xs : List ℕ) → take (length (take n xs)) xs ≡ take n xs
take-length zero xs = refl
take-length (suc n) [] = refl
take-length (suc n) (x ∷ xs) = ap (λ l. x ∷ l) (take-length n xs)

length-take-le : (n : ℕ) (xs : List ℕ) → length (take n xs) ≤ n
length-take-le zero xs = omega arith
length-take-le (suc n) [] = omega arith
length-take-le (suc n) (x ∷ xs) = let rest = length-take-le n xs in omega arith

drop-front : (front text : List ℕ) → drop (length front) (front ++ text) ≡ text
drop-front [] text = refl
drop-front (x ∷ front) text = drop-front front text

-- the text of a token is what stands at its place
stands : (line front text : List ℕ) (place n : ℕ) → line ≡ front ++ text → length front ≡ place → slice_range line place (place + length (take n text)) ≡ take n text
stands line front text place n is long =
    let count : place + length (take n text) - place ≡ length (take n text) = omega arith in
    ap (λ k. take k (drop place line)) count
    ∙ ap (λ l. take (length (take n text)) (drop place l)) is
    ∙ ap (λ k. take (length (take n text)) (drop k (front ++ text))) (sym long)
    ∙ ap (take (length (take n text))) (drop-front front text)
    ∙ take-length n text

pub tiled-from : (comments : Comments) (line front text : List ℕ) (place taken : ℕ) → line ≡ front ++ text → length front ≡ place → AreTiled line (place + taken) (tokens_from comments place taken text)
unfolding tokens_from
tiled-from comments line front [] place taken is long = tt
tiled-from comments line front (c ∷ text) place (suc taken) is long =
    let further : place + suc taken ≡ place + 1 + taken = omega arith in
    let longer : length (front ++ c ∷ []) ≡ place + 1 = length-append front (c ∷ []) ∙ ap (λ n. n + 1) long in
    subst (λ n. AreTiled line n (tokens_from comments (place + 1) taken text)) (sym further)
    (tiled-from comments line (front ++ c ∷ []) text (place + 1) taken (is ∙ sym (append_assoc front (c ∷ []) text)) longer)
tiled-from comments line front (c ∷ text) place zero is long =
    let longer : length (front ++ c ∷ []) ≡ place + 1 = length-append front (c ∷ []) ∙ ap (λ n. n + 1) long in
    let split : line ≡ (front ++ c ∷ []) ++ text = is ∙ sym (append_assoc front (c ∷ []) text) in
    let found = first_token comments (c ∷ text) in
    let token = lexeme found place (c ∷ text) in
    let short = length-take-le found.1 (c ∷ text) in
    let within : end_of token ≤ place + 1 + (found.1 - 1) = omega arith in
    let near : place + 0 ≤ place = omega arith in
    let next : place + 0 ≤ place + 1 + 0 = omega arith in
    either-tiled (is_blank c) line (place + 0) (tokens_from comments (place + 1) 0 text) (token ∷ tokens_from comments (place + 1) (found.1 - 1) text)
    (tiled-before line (place + 0) (place + 1 + 0) (tokens_from comments (place + 1) 0 text) next (tiled-from comments line (front ++ c ∷ []) text (place + 1) 0 split longer)) (
      near,
      stands line front (c ∷ text) place found.1 is long,
      tiled-before line (end_of token) (place + 1 + (found.1 - 1)) (tokens_from comments (place + 1) (found.1 - 1) text) within
          (tiled-from comments line (front ++ c ∷ []) text (place + 1) (found.1 - 1) split longer),
    )

-- the last of some stands no further up than a place before them
pub last-behind : (line : List ℕ) (place : ℕ) (tokens : List Lexeme) (last : Lexeme) → AreTiled line place (tokens ++ last ∷ []) → place ≤ last.start
last-behind line place [] last tiled = tiled.0
last-behind line place (token ∷ tokens) last tiled =
    let here : place ≤ token.start = tiled.0 in
    let rest : end_of token ≤ last.start = last-behind line (end_of token) tokens last tiled.2 in
    omega arith

-- ---- a line without its last comment

-- no token is a comment
abbrev pub no_comment : Lexeme → Bool
no_comment token = not (is_comment token.kind)

left-text : (touches : Bool) (token : Lexeme) → no_comment token ≡ true → left_of touches token ≡ token.text
left-text touches token e = of (is_comment token.kind) e
  where
    of : (b : Bool) → not b ≡ true → cond b (cond touches [] (gap ∷ [])) token.text ≡ token.text
    of true e = absurd cc
    of false e = refl

plain-kind : (b : Bool) → not b ≡ true → b ≡ false
plain-kind true e = absurd cc
plain-kind false e = refl

pub bared-line : (line : List ℕ) (place : ℕ) (words : List Lexeme) (last : Lexeme) → AreTiled line place (words ++ last ∷ []) → list_all no_comment words ≡ true → is_comment last.kind ≡ true
    → bared line false place (words ++ last ∷ []) ≡ slice_range line place last.start ++ gap ∷ []
unfolding bared
bared-line line place [] last tiled plain comment =
    ap (λ b. slice_range line place last.start ++ (cond b (gap ∷ []) last.text ++ [])) comment
bared-line line place (word ∷ words) last tiled plain comment =
    let both = and_parts (no_comment word) (list_all no_comment words) plain in
    let here : place ≤ word.start = tiled.0 in
    let behind : end_of word ≤ last.start = last-behind line (end_of word) words last tiled.2 in
    let wide : word.start ≤ last.start = omega arith in
    let far : word.start ≤ end_of word = omega arith in
    ap (λ t. slice_range line place word.start ++ (t ++ bared line (is_comment word.kind) (end_of word) (words ++ last ∷ []))) (left-text (false && (word.start == place)) word both.0)
    ∙ ap (λ b. slice_range line place word.start ++ (word.text ++ bared line b (end_of word) (words ++ last ∷ []))) (plain-kind (is_comment word.kind) both.0)
    ∙ ap (λ t. slice_range line place word.start ++ (word.text ++ t)) (bared-line line (end_of word) words last tiled.2 both.1 comment)
    ∙ ap (λ t. slice_range line place word.start ++ (t ++ (slice_range line (end_of word) last.start ++ gap ∷ []))) (sym tiled.1)
    ∙ ap (λ t. slice_range line place word.start ++ t) (sym (append_assoc (at_place line word) (slice_range line (end_of word) last.start) (gap ∷ [])))
    ∙ ap (λ t. slice_range line place word.start ++ (t ++ gap ∷ [])) (slice-join line word.start (end_of word) last.start far behind)
    ∙ sym (append_assoc (slice_range line place word.start) (slice_range line word.start last.start) (gap ∷ []))
    ∙ ap (λ t. t ++ gap ∷ []) (slice-join line place word.start last.start here wide)

-- ---- a statement in which no word is an alias

-- Is a token the name of no alias?
abbrev pub is_no_alias : Names (List ℕ) → Lexeme → Bool
is_no_alias aliases token = if is_word token.kind then not (is_some (aliases token.text)) else true

put-none : (value : Option (List ℕ)) (text : List ℕ) → not (is_some value) ≡ true → or_else text value ≡ text
put-none None text e = refl
put-none (Some v) text e = absurd cc

put-text : (aliases : Names (List ℕ)) (text : List ℕ) (first : Bool) (before : List ℕ) (token : Lexeme) → is_no_alias aliases token ≡ true → put_for_word aliases text first before token ≡ at_place text token
put-text aliases text first before token e = of (is_word token.kind) (cond first true (Rattle.macro_expand.specs.Filled.is_keeping before)) e
  where
    of : (word keep : Bool) → cond word (not (is_some (aliases token.text))) true ≡ true
        → cond (cond word keep true) (at_place text token) (or_else (at_place text token) (aliases token.text)) ≡ at_place text token
    of true true e = refl
    of true false e = put-none (aliases token.text) (at_place text token) e
    of false keep e = refl

-- the last token ends no further up than a place before it
tiled-end : (text : List ℕ) (place : ℕ) (token : Lexeme) (tokens : List Lexeme) → AreTiled text place (token ∷ tokens) → place ≤ last_end token tokens
unfolding last_end
tiled-end text place token [] tiled = let here : place ≤ token.start = tiled.0 in omega arith
tiled-end text place token (next ∷ tokens) tiled =
    let here : place ≤ token.start = tiled.0 in
    let rest : end_of token ≤ last_end next tokens = tiled-end text (end_of token) next tokens tiled.2 in
    omega arith

pub replaced-none : (aliases : Names (List ℕ)) (text : List ℕ) (first : Bool) (last : List ℕ) (place : ℕ) (token : Lexeme) (tokens : List Lexeme) → AreTiled text place (token ∷ tokens) → list_all (is_no_alias aliases) (token ∷ tokens) ≡ true
    → replaced aliases text first last place (token ∷ tokens) ≡ slice_range text place (last_end token tokens)
unfolding replaced last_end
replaced-none aliases text first last place token [] tiled free =
    let both = and_parts (is_no_alias aliases token) true free in
    let far : token.start ≤ end_of token = omega arith in
    ap (λ t. slice_range text place token.start ++ (t ++ [])) (put-text aliases text first (directly_before place last token) token both.0)
    ∙ ap (λ t. slice_range text place token.start ++ t) (append-nil (at_place text token))
    ∙ slice-join text place token.start (end_of token) tiled.0 far
replaced-none aliases text first last place token (next ∷ tokens) tiled free =
    let both = and_parts (is_no_alias aliases token) (list_all (is_no_alias aliases) (next ∷ tokens)) free in
    let far : token.start ≤ end_of token = omega arith in
    let here : place ≤ token.start = tiled.0 in
    let wide : place ≤ end_of token = omega arith in
    let stop : end_of token ≤ last_end next tokens = tiled-end text (end_of token) next tokens tiled.2 in
    ap (λ t. slice_range text place token.start ++ (t ++ replaced aliases text (first && not (is_word token.kind)) token.text (end_of token) (next ∷ tokens))) (put-text aliases text first (directly_before place last token) token both.0)
    ∙ ap (λ t. slice_range text place token.start ++ (at_place text token ++ t)) (replaced-none aliases text (first && not (is_word token.kind)) token.text (end_of token) next tokens tiled.2 both.1)
    ∙ sym (append_assoc (slice_range text place token.start) (at_place text token) (slice_range text (end_of token) (last_end next tokens)))
    ∙ ap (λ t. t ++ slice_range text (end_of token) (last_end next tokens)) (slice-join text place token.start (end_of token) here far)
    ∙ slice-join text place (end_of token) (last_end next tokens) wide stop
