-- Lemmas on the lines of a text.
use Rattle.std.proofs.Common.{append_assoc, ◌≡◌, ℕ, zero, suc, ◌+◌, ◌<◌, ◌≤◌, ◌⊎◌, Bool, true, false, cond, ◌&&◌, List, [], ◌∷◌, ◌++◌, map, length, take, drop, get_or, eqb, refl, sym, ap, ◌∙◌, inl, inr, subst, le_trans, arith, eqb-true, eq-eqb, ne_eqb, drop-cons, Option, Some, None, MatchOption, unwrap_or, Bor, All, IsUtf8, IsCharBoundary, length-append}
use Rattle.std.proofs.lemmas.Str.{IsCharBoundary-after_ascii, IsCharBoundary-end, utf8_valid_len-IsUtf8}
use Rattle.std.specs.Str.Lossy.{utf8_valid_len}
use Rattle.std.specs.List.{enumerate_from}
use Rattle.sl_model.specs.Text.{whole_lines, without_end, is_line_end, prepend, joined, numbered_lines, bad_line, line_number}
use Rattle.sl_text.specs.Lines.{line_length}
use Rattle.sl_laws.proofs.Texts.{without_end_le}
use Rattle.std.proofs.lemmas.Bool.{and_parts}

-- ---- the first line

-- one byte more in front of lines whose first is known
first_step : (ends : Bool) (c : ℕ) (rest : List ℕ) (lines : List (List ℕ)) (n : ℕ) → lines ≡ take n rest ∷ whole_lines (drop n rest) → cond ends ((c ∷ []) ∷ whole_lines rest) (prepend c lines) ≡ take (cond ends 1 (suc n)) (c ∷ rest) ∷ whole_lines (drop (cond ends 1 (suc n)) (c ∷ rest))
first_step true c rest lines n e = refl
first_step false c rest lines n e = ap (prepend c) e

-- a text's first line is its first bytes
whole_lines_first : (c : ℕ) (text : List ℕ) → whole_lines (c ∷ text) ≡ take (line_length (c ∷ text)) (c ∷ text) ∷ whole_lines (drop (line_length (c ∷ text)) (c ∷ text))
unfolding whole_lines line_length
whole_lines_first c [] = elim (eqb c 10) as (λ b. cond b ((c ∷ []) ∷ []) ((c ∷ []) ∷ []) ≡ take (cond b 1 1) (c ∷ []) ∷ whole_lines (drop (cond b 1 1) (c ∷ []))) [ true ↦ refl | false ↦ refl ]
whole_lines_first c (d ∷ text) = first_step (eqb c 10) c (d ∷ text) (whole_lines (d ∷ text)) (line_length (d ∷ text)) (whole_lines_first d text)

line_length_some : (c : ℕ) (text : List ℕ) → 0 < line_length (c ∷ text)
unfolding line_length
line_length_some c text = elim (eqb c 10) as (λ b. 0 < cond b 1 (suc (line_length text))) [ true ↦ omega arith | false ↦ omega arith ]

-- the same of any text but the empty one
pub whole_lines_some : (text : List ℕ) → 0 < length text → whole_lines text ≡ take (line_length text) text ∷ whole_lines (drop (line_length text) text)
whole_lines_some [] some = absurd (omega arith)
whole_lines_some (c ∷ text) some = whole_lines_first c text

pub line_length_long : (text : List ℕ) → 0 < length text → 0 < line_length text
line_length_long [] some = absurd (omega arith)
line_length_long (c ∷ text) some = line_length_some c text

-- the first n bytes of a text end in an ASCII byte, that at k
pub record EndsAt (text : List ℕ) (n k : ℕ) : Type 0 where
  pub place : n ≡ k + 1
  pub within : k < length text
  pub ascii : get_or text k 0 < 128

-- the first n bytes of a text are the whole text, or end in an ASCII byte
abbrev pub Ends : List ℕ → ℕ → Type 0
Ends text n = (n ≡ length text) ⊎ ((k : ℕ) × EndsAt text n k)

pub ends_later : (c : ℕ) (text : List ℕ) (n : ℕ) → Ends text n → Ends (c ∷ text) (suc n)
ends_later c text n (inl e) = inl (ap suc e)
ends_later c text n (inr at) = let k = at.0 in let place : n ≡ k + 1 = at.1.place in let within : k < length text = at.1.within in inr (suc k, record { place = omega arith; within = omega arith; ascii = at.1.ascii })

ends_step : (ends : Bool) (c : ℕ) (text : List ℕ) (n : ℕ) → (ends ≡ true → c ≡ 10) → Ends text n → Ends (c ∷ text) (cond ends 1 (suc n))
ends_step true c text n feed e = inr (0, record { place = omega arith; within = omega arith; ascii = (let is : c ≡ 10 = feed refl in omega arith) })
ends_step false c text n feed e = ends_later c text n e

line_length_ends : (text : List ℕ) → Ends text (line_length text)
unfolding line_length
line_length_ends [] = inl refl
line_length_ends (c ∷ text) = ends_step (eqb c 10) c text (line_length text) (λ e. eqb-true c 10 e) (line_length_ends text)

pub ends_boundary : (text : List ℕ) (n : ℕ) → IsUtf8 text → Ends text n → IsCharBoundary text n
ends_boundary text n utf8 (inl e) = subst (IsCharBoundary text) (sym e) (IsCharBoundary-end text)
ends_boundary text n utf8 (inr at) = subst (IsCharBoundary text) (sym at.1.place) (IsCharBoundary-after_ascii text at.0 utf8 at.1.within at.1.ascii)

-- a text may be cut behind its first line
pub line_length_boundary : (text : List ℕ) → IsUtf8 text → IsCharBoundary text (line_length text)
line_length_boundary text utf8 = ends_boundary text (line_length text) utf8 (line_length_ends text)

-- a first line that begins at a place, by its first byte
pub line_length_here : (text : List ℕ) (place : ℕ) → place < length text → get_or text place 0 ≡ 10 → line_length (drop place text) ≡ 1
unfolding line_length
line_length_here text place within feed = ap line_length (drop-cons text place 0 within) ∙ ap (λ b. cond b 1 (suc (line_length (drop (suc place) text)))) (eq-eqb (get_or text place 0) 10 feed)

pub line_length_later : (text : List ℕ) (place : ℕ) → place < length text → (get_or text place 0 ≡ 10 → ⊥) → line_length (drop place text) ≡ line_length (drop (place + 1) text) + 1
unfolding line_length
line_length_later text place within other =
    let next : suc place ≡ place + 1 = omega arith in
    let more : suc (line_length (drop (suc place) text)) ≡ line_length (drop (suc place) text) + 1 = omega arith in
    ap line_length (drop-cons text place 0 within)
    ∙ ap (λ b. cond b 1 (suc (line_length (drop (suc place) text)))) (ne_eqb (get_or text place 0) 10 other)
    ∙ more ∙ ap (λ n. line_length (drop n text) + 1) next

-- ---- a line without its end

-- a line's end ends in a line feed
end_feeds : (line : List ℕ) → is_line_end line ≡ true → (front : List ℕ) × (line ≡ front ++ 10 ∷ [])
end_feeds [] e = cc
end_feeds (a ∷ []) e = ([], ap (λ v. v ∷ []) (eqb-true a 10 e))
end_feeds (a ∷ b ∷ []) e = (a ∷ [], ap (λ v. a ∷ v ∷ []) (eqb-true b 10 (and_parts (eqb a 13) (eqb b 10) e).1))
end_feeds (a ∷ b ∷ c ∷ rest) e = cc

keep_step : (b : Bool) (x : ℕ) (xs ys : List ℕ) → (b ≡ true → ⊥) → ys ≡ xs → cond b [] (x ∷ ys) ≡ x ∷ xs
keep_step true x xs ys never e = absurd (never refl)
keep_step false x xs ys never e = ap (λ v. x ∷ v) e

-- a line that does not end in a line feed has no end
pub without_end_none : (line : List ℕ) → ((front : List ℕ) → line ≡ front ++ 10 ∷ [] → ⊥) → without_end line ≡ line
unfolding without_end
without_end_none [] never = refl
without_end_none (x ∷ xs) never = keep_step (is_line_end (x ∷ xs)) x xs (without_end xs) (λ e. let feeds = end_feeds (x ∷ xs) e in never feeds.0 feeds.1) (without_end_none xs (λ front e. never (x ∷ front) (ap (λ v. x ∷ v) e)))

-- three bytes and more are no line's end
long_end : (a b c : ℕ) (xs ys : List ℕ) → is_line_end (a ∷ b ∷ (xs ++ c ∷ ys)) ≡ false
long_end a b c [] ys = refl
long_end a b c (x ∷ xs) ys = refl

-- the end of a line whose last byte but the line feed is no carriage return
pub without_end_feed : (line : List ℕ) → ((front : List ℕ) → line ≡ front ++ 13 ∷ [] → ⊥) → without_end (line ++ 10 ∷ []) ≡ line
unfolding without_end
without_end_feed [] never = refl
without_end_feed (x ∷ []) never = keep_step (eqb x 13 && true) x [] [] (λ e. never [] (ap (λ v. v ∷ []) (eqb-true x 13 (and_parts (eqb x 13) true e).0))) refl
without_end_feed (x ∷ y ∷ xs) never = keep_step (is_line_end (x ∷ y ∷ (xs ++ 10 ∷ []))) x (y ∷ xs) (without_end (y ∷ (xs ++ 10 ∷ []))) (λ e. let long : is_line_end (x ∷ y ∷ (xs ++ 10 ∷ [])) ≡ false = long_end x y 10 xs [] in cc) (without_end_feed (y ∷ xs) (λ front e. never (x ∷ front) (ap (λ v. x ∷ v) e)))

-- the end of a line that ends in a carriage return and a line feed
pub without_end_return : (line : List ℕ) → without_end (line ++ 13 ∷ 10 ∷ []) ≡ line
unfolding without_end
without_end_return [] = refl
without_end_return (x ∷ []) = refl
without_end_return (x ∷ y ∷ xs) = keep_step (is_line_end (x ∷ y ∷ (xs ++ 13 ∷ 10 ∷ []))) x (y ∷ xs) (without_end (y ∷ (xs ++ 13 ∷ 10 ∷ []))) (λ e. let long : is_line_end (x ∷ y ∷ (xs ++ 13 ∷ 10 ∷ [])) ≡ false = long_end x y 13 xs (10 ∷ []) in cc) (without_end_return (y ∷ xs))

-- what is left of a line behind whose line feed a carriage return was looked for
pub without_end_cases : (line : List ℕ) (ended : Bor (List ℕ)) (found : Option (Bor (List ℕ))) → line ≡ ended.now ++ 10 ∷ [] → MatchOption found ((front : List ℕ) → ended.now ≡ front ++ 13 ∷ [] → ⊥) (λ text. ended.now ≡ text.now ++ 13 ∷ []) → (unwrap_or found ended).now ≡ without_end line
without_end_cases line ended None e none = sym (ap without_end e ∙ without_end_feed ended.now none)
without_end_cases line ended (Some text) e some = sym (ap without_end (e ∙ ap (λ v. v ++ 10 ∷ []) some ∙ append_assoc text.now (13 ∷ []) (10 ∷ [])) ∙ without_end_return text.now)

-- ---- the lines together

joined_prepend : (c : ℕ) (lines : List (List ℕ)) → joined (prepend c lines) ≡ c ∷ joined lines
unfolding joined
joined_prepend c [] = refl
joined_prepend c (line ∷ lines) = refl

joined_step : (ends : Bool) (c : ℕ) (text : List ℕ) → joined (whole_lines text) ≡ text → joined (cond ends ((c ∷ []) ∷ whole_lines text) (prepend c (whole_lines text))) ≡ c ∷ text
unfolding joined
joined_step true c text e = ap (λ v. c ∷ v) e
joined_step false c text e = joined_prepend c (whole_lines text) ∙ ap (λ v. c ∷ v) e

-- the lines of a text, one behind the other, are the text
pub joined-whole_lines : (text : List ℕ) → joined (whole_lines text) ≡ text
unfolding whole_lines joined
joined-whole_lines [] = refl
joined-whole_lines (c ∷ text) = joined_step (eqb c 10) c text (joined-whole_lines text)

-- some lines and the others behind them
pub joined_split : (n : ℕ) (lines : List (List ℕ)) → joined (take n lines) ++ joined (drop n lines) ≡ joined lines
unfolding joined
joined_split zero lines = refl
joined_split (suc n) [] = refl
joined_split (suc n) (line ∷ lines) = append_assoc line (joined (take n lines)) (joined (drop n lines)) ∙ ap (λ v. line ++ v) (joined_split n lines)

short_lines : (first : ℕ) (lines : List (List ℕ)) → All (λ line. length line.1 ≤ length (joined lines)) (enumerate_from first (map without_end lines))
unfolding joined
short_lines first [] k d h = absurd (omega arith)
short_lines first (line ∷ lines) zero d h = let short : length (without_end line) ≤ length line = without_end_le line in omega (arith, length-append line (joined lines))
short_lines first (line ∷ lines) (suc k) d h = le_trans (short_lines (first + 1) lines k d (omega arith)) (omega (arith, length-append line (joined lines)))

-- no line is longer than its text
pub numbered_lines_short : (first : ℕ) (text : List ℕ) → All (λ line. length line.1 ≤ length text) (numbered_lines first text)
unfolding numbered_lines
numbered_lines_short first text = subst (λ all. All (λ line. length line.1 ≤ length all) (enumerate_from first (map without_end (whole_lines text)))) (joined-whole_lines text) (short_lines first (whole_lines text))

length-numbered : (first : ℕ) (lines : List (List ℕ)) → length (enumerate_from first (map without_end lines)) ≡ length lines
length-numbered first [] = refl
length-numbered first (line ∷ lines) = ap suc (length-numbered (first + 1) lines)

few_step : (ends : Bool) (c : ℕ) (text : List ℕ) (lines : List (List ℕ)) → length lines ≤ length text → length (cond ends ((c ∷ []) ∷ lines) (prepend c lines)) ≤ suc (length text)
few_step true c text lines few = omega arith
few_step false c text [] few = omega arith
few_step false c text (line ∷ lines) few = omega arith

whole_lines_few : (text : List ℕ) → length (whole_lines text) ≤ length text
unfolding whole_lines
whole_lines_few [] = omega arith
whole_lines_few (c ∷ text) = few_step (eqb c 10) c text (whole_lines text) (whole_lines_few text)

-- a text has no more lines than bytes
pub numbered_lines_few : (first : ℕ) (text : List ℕ) → length (numbered_lines first text) ≤ length text
unfolding numbered_lines
numbered_lines_few first text = subst (λ n. n ≤ length text) (sym (length-numbered first (whole_lines text))) (whole_lines_few text)

pub numbered_lines-nil : (first : ℕ) (text : List ℕ) → text ≡ [] → numbered_lines first text ≡ []
unfolding numbered_lines whole_lines
numbered_lines-nil first text e = ap (λ t. numbered_lines first t) e

-- the first of the numbered lines, and those behind it
pub numbered_lines_first : (first : ℕ) (text line rest : List ℕ) → whole_lines text ≡ line ∷ whole_lines rest → numbered_lines first text ≡ (first, without_end line) ∷ numbered_lines (first + 1) rest
unfolding numbered_lines
numbered_lines_first first text line rest e = ap (λ lines. enumerate_from first (map without_end lines)) e

-- bytes that are a text have no bad line
pub no_bad_line : (bytes : List ℕ) → IsUtf8 bytes → bad_line bytes ≡ None
unfolding bad_line
no_bad_line bytes utf8 = ap (λ b. cond b None (Some (line_number bytes (utf8_valid_len bytes)))) (eq-eqb (utf8_valid_len bytes) (length bytes) (utf8_valid_len-IsUtf8 bytes utf8))
