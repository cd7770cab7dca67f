-- An instruction that was read has at most five symbolic registers: one for each operand of a row.
use Rattle.std.proofs.Common.{◌≡◌, ◌∙◌, sym, ap, subst, refl, ℕ, zero, suc, ◌+◌, ◌-◌, ◌≤◌, ◌<◌, ◌==◌, ◌&&◌, Bool, true, false, cond, not, List, [], ◌∷◌, ◌++◌, length, length-append, arith}
use Rattle.std.specs.Prelude.{Option, Some, None, is_some, option_and_then, Ok}
use Rattle.std.proofs.Math.Logic.{⊎_elim}
use Rattle.std.proofs.lemmas.Bool.{and_parts}
use Rattle.std.proofs.lemmas.Bool.Decides.{nat_tests}
use Rattle.std.proofs.lemmas.Option.{option_and_then_some, same_Some}
use Rattle.sl_model.specs.declared.text.TokenKind.{TokenKind}
use Rattle.sl_model.specs.declared.text.TokenKind.TheVariants as kind
use Rattle.sl_model.specs.declared.instruction.Instr.{Instr}
use Rattle.sl_model.specs.Token.{Lexeme}
use Rattle.sl_model.specs.TokenTests.{is_word, is_number, is_mark, code_of, marks, touches}
use Rattle.sl_isa.specs.Symbols.{Pair, has_pair, number_of, have_pairs}
use Rattle.form_table.specs.Numerals.{number_value}
use Rattle.form_table.specs.Symbols.{letter_bank, letter_of, is_word_text, closed_name, opened_name, bracketed, Symbol, symbol_at, pair_if, first_pairs, pairs_from, pairs_in}
use Rattle.form_table.specs.Items.{Item, blank, mark, word, symbol, numeral, Found, attached, plain_number, signed_number, found_number, item_or, symbol_or, first_item, is_apart, behind_blank, items_from}
use Rattle.form_table.specs.Rows.{slots_of}
use Rattle.form_table.specs.Spells.{Taken, empty, put, front, comma, ended, fill}
use Rattle.form_table.specs.Reads.{fit_row, fit_or, fit_from, knows, with_fit, reads}
use Rattle.form_table.specs.declared.rows.Slot.{Slot}
use Rattle.form_table.specs.declared.rows.Slot.TheVariants as slot
use Rattle.form_table.specs.declared.rows.Shape.{Shape}
use Rattle.form_table.specs.declared.rows.Shape.TheVariants as shape
use Rattle.form_table.specs.declared.rows.Row.{Row}
use Rattle.form_table.specs.declared.spells.Held.{Held}
use Rattle.form_table.specs.declared.reader.Fit.{Fit}
use Rattle.form_table.proofs.Unique.{fit_row_is, none_or_some}
use Rattle.form_table.proofs.Known.{tested, symbol_begins}
use Rattle.form_table.proofs.PrintedItems.{is_unopened, no_symbol}
use Rattle.form_table.proofs.ReadAgain.{known_fits}
use Rattle.sl_laws.proofs.Tests.{then_parts, else_parts, is_none_from}

-- ---- symbolic registers among tokens and among items

-- how many items are symbolic registers
abbrev pub one_symbol : Item → ℕ
one_symbol blank = 0
one_symbol (mark c) = 0
one_symbol (word text) = 0
one_symbol (symbol l n) = 1
one_symbol (numeral n) = 0

abbrev pub symbols_in : List Item → ℕ
symbols_in [] = 0
symbols_in (item ∷ items) = one_symbol item + symbols_in items

-- Does no symbolic register begin at the first of some tokens?
abbrev is_quiet : ℕ → List Lexeme → Bool
is_quiet zero tokens = true
is_quiet (suc n) [] = true
is_quiet (suc n) (t ∷ tokens) = cond (is_some (symbol_at (t ∷ tokens))) false (is_quiet n tokens)

-- Are the first of some tokens no words?
abbrev are_no_words : ℕ → List Lexeme → Bool
are_no_words zero tokens = true
are_no_words (suc n) [] = true
are_no_words (suc n) (t ∷ tokens) = cond (is_word t.kind) false (are_no_words n tokens)

no_word_symbol : (t : Lexeme) (tokens : List Lexeme) → is_word t.kind ≡ false → symbol_at (t ∷ tokens) ≡ None
unfolding symbol_at
no_word_symbol t tokens e = ap (λ b. cond b (option_and_then (λ l. option_and_then (λ name. Some (let s : Symbol = record { letter = l; name = name } in s)) (bracketed t tokens)) (letter_of t.text)) None) e

no_words_quiet : (n : ℕ) (tokens : List Lexeme) → are_no_words n tokens ≡ true → is_quiet n tokens ≡ true
no_words_quiet zero tokens e = refl
no_words_quiet (suc n) [] e = refl
no_words_quiet (suc n) (t ∷ tokens) e =
    let parts = else_parts (is_word t.kind) (are_no_words n tokens) e in
    ap (λ o. cond (is_some o) false (is_quiet n tokens)) (no_word_symbol t tokens parts.0) ∙ no_words_quiet n tokens parts.1

-- ---- the tokens behind the first of an item

-- a number and a mark are no words
number_no_word : (k : TokenKind) → is_number k ≡ true → is_word k ≡ false
number_no_word kind.Word e = absurd cc
number_no_word kind.Number e = refl
number_no_word kind.Mark e = absurd cc
number_no_word kind.Comment e = absurd cc

mark_no_word : (code : ℕ) (t : Lexeme) → marks code t ≡ true → is_word t.kind ≡ false
mark_no_word code t e = by t.kind (then_parts (is_mark t.kind) (code_of t == code) e).0
  where
    by : (k : TokenKind) → is_mark k ≡ true → is_word k ≡ false
    by kind.Word e = absurd cc
    by kind.Number e = absurd cc
    by kind.Mark e = refl
    by kind.Comment e = absurd cc

attached_is : (t : Lexeme) (tokens behind : List Lexeme) → attached t tokens ≡ Some behind → tokens ≡ behind
attached_is t [] behind e = absurd cc
attached_is t (u ∷ tokens) behind e = same_Some (u ∷ tokens) behind (tested (touches t u) (Some (u ∷ tokens)) behind e).1

one_more : (n : ℕ) (t : Lexeme) (tokens : List Lexeme) → is_word t.kind ≡ false → are_no_words n tokens ≡ true → are_no_words (suc n) (t ∷ tokens) ≡ true
one_more n t tokens e all = ap (λ b. cond b false (are_no_words n tokens)) e ∙ all

plain_no_words : (tokens : List Lexeme) (f : Found) → plain_number tokens ≡ Some f → (f.count ≡ 1) × (are_no_words 1 tokens ≡ true)
unfolding plain_number
plain_no_words [] f e = absurd cc
plain_no_words (t ∷ tokens) f e =
    let one = tested (is_number t.kind) (option_and_then (λ v. Some (let found : Found = record { count = 1; negative = false; value = v } in found)) (number_value t.text)) f e in
    option_and_then_some (λ v. Some (let found : Found = record { count = 1; negative = false; value = v } in found)) (number_value t.text) f one.1
    (λ v is made. (
      ap (λ (g : Found). g.count) (sym (same_Some (let found : Found = record { count = 1; negative = false; value = v } in found) f made)),
      one_more 0 t tokens (number_no_word t.kind one.0) refl,
    ))

plain_quiet : (tokens : List Lexeme) (f : Found) → plain_number tokens ≡ Some f → are_no_words f.count tokens ≡ true
plain_quiet tokens f e = let parts = plain_no_words tokens f e in ap (λ n. are_no_words n tokens) parts.0 ∙ parts.1

abbrev negated : Option Found → Option Found
negated o = option_and_then (λ f. Some (let found : Found = record { count = 2; negative = true; value = f.value } in found)) o

signed_quiet : (tokens : List Lexeme) (f : Found) → signed_number tokens ≡ Some f → are_no_words f.count tokens ≡ true
unfolding signed_number
signed_quiet [] f e = absurd cc
signed_quiet (t ∷ tokens) f e = by (marks 45 t) refl e
  where
    by : (b : Bool) → marks 45 t ≡ b → cond b (option_and_then (λ behind. negated (plain_number behind)) (attached t tokens)) (plain_number (t ∷ tokens)) ≡ Some f
        → are_no_words f.count (t ∷ tokens) ≡ true
    by false is e = plain_quiet (t ∷ tokens) f e
    by true is e =
        option_and_then_some (λ behind. negated (plain_number behind)) (attached t tokens) f e
        (λ behind touches some. option_and_then_some (λ g. Some (let found : Found = record { count = 2; negative = true; value = g.value } in found)) (plain_number behind) f some
        (λ g plain made.
        let count : f.count ≡ 2 = ap (λ (h : Found). h.count) (sym (same_Some (let found : Found = record { count = 2; negative = true; value = g.value } in found) f made)) in
        let rest : are_no_words 1 tokens ≡ true = subst (λ ts. are_no_words 1 ts ≡ true) (sym (attached_is t tokens behind touches)) (plain_no_words behind g plain).1 in
        ap (λ n. are_no_words n (t ∷ tokens)) count ∙ one_more 1 t tokens (mark_no_word 45 t is) rest))

abbrev hashed : Option Found → Option Found
hashed o = option_and_then (λ f. Some (let found : Found = record { count = f.count + 1; negative = f.negative; value = f.value } in found)) o

found_quiet : (tokens : List Lexeme) (f : Found) → found_number tokens ≡ Some f → are_no_words f.count tokens ≡ true
unfolding found_number
found_quiet [] f e = absurd cc
found_quiet (t ∷ tokens) f e = by (marks 35 t) refl e
  where
    by : (b : Bool) → marks 35 t ≡ b → cond b (option_and_then (λ behind. hashed (signed_number behind)) (attached t tokens)) (signed_number (t ∷ tokens)) ≡ Some f
        → are_no_words f.count (t ∷ tokens) ≡ true
    by false is e = signed_quiet (t ∷ tokens) f e
    by true is e =
        option_and_then_some (λ behind. hashed (signed_number behind)) (attached t tokens) f e
        (λ behind touches some. option_and_then_some (λ g. Some (let found : Found = record { count = g.count + 1; negative = g.negative; value = g.value } in found)) (signed_number behind) f some
        (λ g signed made.
        let before : ℕ = g.count in
        let next : before + 1 ≡ suc before = omega arith in
        let count : f.count ≡ suc g.count =
        ap (λ (h : Found). h.count) (sym (same_Some (let found : Found = record { count = g.count + 1; negative = g.negative; value = g.value } in found) f made)) ∙ next in
        let rest : are_no_words g.count tokens ≡ true = subst (λ ts. are_no_words g.count ts ≡ true) (sym (attached_is t tokens behind touches)) (signed_quiet behind g signed) in
        ap (λ n. are_no_words n (t ∷ tokens)) count ∙ one_more g.count t tokens (mark_no_word 35 t is) rest))

fewer_no_words : (n : ℕ) (t : Lexeme) (tokens : List Lexeme) → are_no_words n (t ∷ tokens) ≡ true → are_no_words (n - 1) tokens ≡ true
fewer_no_words zero t tokens e = refl
fewer_no_words (suc n) t tokens e =
    let less : suc n - 1 ≡ n = omega arith in
    ap (λ m. are_no_words m tokens) less ∙ (else_parts (is_word t.kind) (are_no_words n tokens) e).1

-- a `>` is no `<`
close_code : (c : ℕ) → (c == 62) ≡ true → not (c == 60) ≡ true
close_code c e = grind (arith, nat_tests)

close_unopened : (t : Lexeme) (tokens : List Lexeme) → marks 62 t ≡ true → is_unopened (t ∷ tokens) ≡ true
close_unopened t tokens e =
    let parts = then_parts (is_mark t.kind) (code_of t == 62) e in
    ap (λ b. not (cond b (code_of t == 60) false)) parts.0 ∙ close_code (code_of t) parts.1

quiet_more : (n : ℕ) (t : Lexeme) (tokens : List Lexeme) → symbol_at (t ∷ tokens) ≡ None → is_quiet n tokens ≡ true → is_quiet (suc n) (t ∷ tokens) ≡ true
quiet_more n t tokens none all = ap (λ o. cond (is_some o) false (is_quiet n tokens)) none ∙ all

close_quiet : (name : Lexeme) (tokens : List Lexeme) (text : List ℕ) → closed_name name tokens ≡ Some text → is_quiet 2 (name ∷ tokens) ≡ true
unfolding closed_name
close_quiet name [] text e = absurd cc
close_quiet name (close ∷ tokens) text e =
    let one = tested (marks 62 close) (cond (touches name close) (Some name.text) None) text e in
    quiet_more 1 name (close ∷ tokens) (no_symbol name (close ∷ tokens) (close_unopened close tokens one.0))
    (quiet_more 0 close tokens (no_word_symbol close tokens (mark_no_word 62 close one.0)) refl)

open_quiet : (opening : Lexeme) (tokens : List Lexeme) (text : List ℕ) → opened_name opening tokens ≡ Some text → is_quiet 2 tokens ≡ true
unfolding opened_name
open_quiet opening [] text e = absurd cc
open_quiet opening (name ∷ tokens) text e =
    let one = tested (is_word_text name.text) (cond (touches opening name) (closed_name name tokens) None) text e in
    let two = tested (touches opening name) (closed_name name tokens) text one.1 in
    close_quiet name tokens text two.1

bracket_quiet : (before : Lexeme) (tokens : List Lexeme) (text : List ℕ) → bracketed before tokens ≡ Some text → is_quiet 3 tokens ≡ true
unfolding bracketed
bracket_quiet before [] text e = absurd cc
bracket_quiet before (opening ∷ tokens) text e =
    let one = tested (marks 60 opening) (cond (touches before opening) (opened_name opening tokens) None) text e in
    let two = tested (touches before opening) (opened_name opening tokens) text one.1 in
    quiet_more 2 opening tokens (no_word_symbol opening tokens (mark_no_word 60 opening one.0)) (open_quiet opening tokens text two.1)

other_quiet : (o : Option Found) (t : Lexeme) (tokens : List Lexeme) → found_number (t ∷ tokens) ≡ o → is_quiet ((item_or o t).1 - 1) tokens ≡ true
other_quiet None t tokens e = refl
other_quiet (Some f) t tokens e = no_words_quiet (f.count - 1) tokens (fewer_no_words f.count t tokens (found_quiet (t ∷ tokens) f e))

-- how many items are symbolic registers of those that tokens begin with, and what is quiet behind
record FirstFew (pairs : List Pair) (t : Lexeme) (tokens : List Lexeme) : Type 0 where
  few : length (first_pairs (t ∷ tokens)) ≤ one_symbol (first_item pairs (t ∷ tokens)).0
  quiet : is_quiet ((first_item pairs (t ∷ tokens)).1 - 1) tokens ≡ true

record FoundFew (pairs : List Pair) (o : Option Symbol) (other : Item × ℕ) (tokens : List Lexeme) : Type 0 where
  few : length (pair_if o) ≤ one_symbol (symbol_or pairs o other).0
  quiet : is_quiet ((symbol_or pairs o other).1 - 1) tokens ≡ true

found_few : (pairs : List Pair) (o : Option Symbol) (other : Item × ℕ) (t : Lexeme) (tokens : List Lexeme) → symbol_at (t ∷ tokens) ≡ o → have_pairs (pair_if o) pairs ≡ true
    → is_quiet (other.1 - 1) tokens ≡ true → FoundFew pairs o other tokens
found_few pairs None other t tokens at have quiet = record { few = omega arith; quiet = quiet }
found_few pairs (Some s) other t tokens at have quiet =
    let has : has_pair (letter_bank s.letter) s.name pairs ≡ true = (and_parts (has_pair (letter_bank s.letter) s.name pairs) true have).0 in
    let found : symbol_or pairs (Some s) other ≡ (symbol s.letter (number_of (letter_bank s.letter) s.name pairs), 4) =
    ap (λ b. cond b (symbol s.letter (number_of (letter_bank s.letter) s.name pairs), 4) other) has in
    let one : one_symbol (symbol_or pairs (Some s) other).0 ≡ 1 = ap (λ (f : Item × ℕ). one_symbol f.0) found in
    record {
      few = omega (arith, one);
      quiet = ap (λ (f : Item × ℕ). is_quiet (f.1 - 1) tokens) found ∙ bracket_quiet t tokens s.name (symbol_begins t tokens s at).bracket;
    }

first_few : (pairs : List Pair) (t : Lexeme) (tokens : List Lexeme) → have_pairs (first_pairs (t ∷ tokens)) pairs ≡ true → FirstFew pairs t tokens
unfolding first_item
first_few pairs t tokens have =
    let f = found_few pairs (symbol_at (t ∷ tokens)) (item_or (found_number (t ∷ tokens)) t) t tokens refl have (other_quiet (found_number (t ∷ tokens)) t tokens refl) in
    record { few = f.few; quiet = f.quiet }

-- ---- as many symbolic registers as among the items

symbols_blank : (apart : Bool) (item : Item) (items : List Item) → symbols_in (behind_blank apart item ++ items) ≡ one_symbol item + symbols_in items
symbols_blank true item items = omega arith
symbols_blank false item items = omega arith

pub have_parts : (these others pairs : List Pair) → have_pairs (these ++ others) pairs ≡ true → (have_pairs these pairs ≡ true) × (have_pairs others pairs ≡ true)
have_parts [] others pairs e = (refl, e)
have_parts (pair ∷ these) others pairs e =
    let one = and_parts (has_pair pair.0 pair.1 pairs) (have_pairs (these ++ others) pairs) e in
    let two = have_parts these others pairs one.1 in
    (ap (λ b. b && have_pairs these pairs) one.0 ∙ two.0, two.1)

pub pairs_few : (pairs : List Pair) (before : Lexeme) (taken : ℕ) (tokens : List Lexeme) → have_pairs (pairs_from tokens) pairs ≡ true → is_quiet taken tokens ≡ true
    → length (pairs_from tokens) ≤ symbols_in (items_from pairs before taken tokens)
unfolding pairs_from items_from
pairs_few pairs before taken [] have quiet = omega arith
pairs_few pairs before (suc taken) (t ∷ tokens) have quiet =
    let parts = else_parts (is_some (symbol_at (t ∷ tokens))) (is_quiet taken tokens) quiet in
    let none : first_pairs (t ∷ tokens) ≡ [] = ap pair_if (is_none_from (symbol_at (t ∷ tokens)) parts.0) in
    let same : length (first_pairs (t ∷ tokens) ++ pairs_from tokens) ≡ length (pairs_from tokens) = ap (λ ps. length (ps ++ pairs_from tokens)) none in
    let rest = pairs_few pairs t taken tokens (have_parts (first_pairs (t ∷ tokens)) (pairs_from tokens) pairs have).1 parts.1 in
    omega (arith, same, rest)
pairs_few pairs before zero (t ∷ tokens) have quiet =
    let parts = have_parts (first_pairs (t ∷ tokens)) (pairs_from tokens) pairs have in
    let f = first_few pairs t tokens parts.0 in
    let one = f.few in
    let rest = pairs_few pairs t ((first_item pairs (t ∷ tokens)).1 - 1) tokens parts.1 f.quiet in
    let all = symbols_blank (is_apart before t) (first_item pairs (t ∷ tokens)).0 (items_from pairs t ((first_item pairs (t ∷ tokens)).1 - 1) tokens) in
    let sum : length (first_pairs (t ∷ tokens) ++ pairs_from tokens) ≡ length (first_pairs (t ∷ tokens)) + length (pairs_from tokens) =
    length-append (first_pairs (t ∷ tokens)) (pairs_from tokens) in
    omega (arith, one, rest, all, sum)

-- ---- a row takes at most five

abbrev one_slot : Slot → ℕ
one_slot slot.Gap = 0
one_slot (slot.Mark code) = 0
one_slot (slot.Name name) = 0
one_slot (slot.Register l) = 1
one_slot slot.Number = 0
one_slot slot.Index = 0
one_slot slot.Condition = 0

abbrev registers_in : List Slot → ℕ
registers_in [] = 0
registers_in (s ∷ slots) = one_slot s + registers_in slots

put_few : (held next : Held) (s : Slot) (item : Item) → put held s item ≡ Some next → one_symbol item ≤ one_slot s
unfolding put
put_few held next s blank e = omega arith
put_few held next s (mark c) e = omega arith
put_few held next s (word text) e = omega arith
put_few held next s (numeral n) e = omega arith
put_few held next slot.Gap (symbol l n) e = absurd cc
put_few held next (slot.Mark code) (symbol l n) e = absurd cc
put_few held next (slot.Name name) (symbol l n) e = absurd cc
put_few held next (slot.Register k) (symbol l n) e = omega arith
put_few held next slot.Number (symbol l n) e = absurd cc
put_few held next slot.Index (symbol l n) e = absurd cc
put_few held next slot.Condition (symbol l n) e = absurd cc

front_few : (held : Held) (slots : List Slot) (items : List Item) (t : Taken) → front held slots items ≡ Some t → symbols_in items ≤ registers_in slots + symbols_in t.rest
unfolding front
front_few held [] items t e =
    let same : symbols_in items ≡ symbols_in t.rest = ap (λ (v : Taken). symbols_in v.rest) (same_Some (let made : Taken = record { held = held; rest = items } in made) t e) in
    omega (arith, same)
front_few held (s ∷ slots) [] t e = absurd cc
front_few held (s ∷ slots) (item ∷ items) t e =
    option_and_then_some (λ next. front next slots items) (put held s item) t e
    (λ next took rest.
    let one = put_few held next s item took in
    let more = front_few next slots items t rest in
    omega (arith, one, more))

gap_few : (s : Shape) → registers_in (slots_of slot.Gap s) ≤ 1
gap_few shape.Nothing = omega arith
gap_few (shape.Register l) = omega arith
gap_few shape.Number = omega arith
gap_few shape.Condition = omega arith
gap_few (shape.Shift name) = omega arith
gap_few (shape.Lanes name) = omega arith
gap_few (shape.Lane name) = omega arith
gap_few (shape.Base l) = omega arith
gap_few (shape.Offset l) = omega arith
gap_few (shape.Before l) = omega arith

comma_few : (s : Shape) → registers_in (slots_of comma s) ≤ 1
comma_few shape.Nothing = omega arith
comma_few (shape.Register l) = omega arith
comma_few shape.Number = omega arith
comma_few shape.Condition = omega arith
comma_few (shape.Shift name) = omega arith
comma_few (shape.Lanes name) = omega arith
comma_few (shape.Lane name) = omega arith
comma_few (shape.Base l) = omega arith
comma_few (shape.Offset l) = omega arith
comma_few (shape.Before l) = omega arith

ended_few : (items : List Item) (helds kept : List Held) → ended items helds ≡ Some kept → symbols_in items ≡ 0
ended_few [] helds kept e = refl
ended_few (item ∷ items) helds kept e = absurd cc

fill_few : (row : Row) (items : List Item) (helds : List Held) → fill row items ≡ Some helds → symbols_in items ≤ 5
unfolding fill
fill_few row items helds e =
    option_and_then_some _ (front empty (slots_of slot.Gap row.first.shape) items) helds e
    (λ first e1 r1. option_and_then_some _ (front empty (slots_of comma row.second.shape) first.rest) helds r1
    (λ second e2 r2. option_and_then_some _ (front empty (slots_of comma row.third.shape) second.rest) helds r2
    (λ third e3 r3. option_and_then_some _ (front empty (slots_of comma row.fourth.shape) third.rest) helds r3
    (λ fourth e4 r4. option_and_then_some _ (front empty (slots_of comma row.fifth.shape) fourth.rest) helds r4
    (λ fifth e5 r5.
    let a = front_few empty (slots_of slot.Gap row.first.shape) items first e1 in
    let b = front_few empty (slots_of comma row.second.shape) first.rest second e2 in
    let c = front_few empty (slots_of comma row.third.shape) second.rest third e3 in
    let d = front_few empty (slots_of comma row.fourth.shape) third.rest fourth e4 in
    let f = front_few empty (slots_of comma row.fifth.shape) fourth.rest fifth e5 in
    let g = gap_few row.first.shape in
    let h = comma_few row.second.shape in
    let i = comma_few row.third.shape in
    let j = comma_few row.fourth.shape in
    let k = comma_few row.fifth.shape in
    let last = ended_few fifth.rest _ helds r5 in
    omega (arith, a, b, c, d, f, g, h, i, j, k, last))))))

fit_few : (form : ℕ) (rows : List Row) (text : List ℕ) (items : List Item) (fit : Fit) → fit_from form rows text items ≡ Some fit → symbols_in items ≤ 5
unfolding fit_from
fit_few form [] text items fit e = absurd cc
fit_few form (row ∷ rows) text items fit e =
    ⊎_elim
    (λ (none : fit_row text items row ≡ None). fit_few (form + 1) rows text items fit (sym (ap (λ o. fit_or form o (fit_from (form + 1) rows text items)) none) ∙ e))
    (λ (some : (helds : List Held) × (fit_row text items row ≡ Some helds)). fill_few row items some.0 (fit_row_is text items row some.0 some.1).filled)
    (none_or_some (fit_row text items row))

-- Where more than five symbolic registers stand among tokens, they fit no row.
pub many_fit_none : (table : List Row) (pairs : List Pair) (first : Lexeme) (tokens : List Lexeme) → have_pairs (pairs_from tokens) pairs ≡ true
    → 5 < length (pairs_from tokens) → fit_from 0 table first.text (items_from pairs first 0 tokens) ≡ None
many_fit_none table pairs first tokens have many =
    ⊎_elim (λ none. none)
    (λ (some : (fit : Fit) × (fit_from 0 table first.text (items_from pairs first 0 tokens) ≡ Some fit)).
    let least = pairs_few pairs first 0 tokens have refl in
    let most = fit_few 0 table first.text (items_from pairs first 0 tokens) some.0 some.1 in
    absurd (omega (arith, least, most, many)))
    (none_or_some (fit_from 0 table first.text (items_from pairs first 0 tokens)))

-- An instruction that was read has at most seven.
pub read_few : (table : List Row) (pairs : List Pair) (words : List Lexeme) (i : Instr) → have_pairs (pairs_in words) pairs ≡ true → reads table pairs words ≡ Ok i
    → length (pairs_in words) ≤ 7
unfolding reads pairs_in
read_few table pairs [] i have e = omega arith
read_few table pairs (first ∷ tokens) i have e =
    let o : Option Fit = fit_from 0 table first.text (items_from pairs first 0 tokens) in
    by o refl (known_fits (knows table first tokens) (with_fit table o) i e)
  where
    by : (o : Option Fit) → fit_from 0 table first.text (items_from pairs first 0 tokens) ≡ o → with_fit table o ≡ Ok i → length (pairs_from tokens) ≤ 7
    by None is e = absurd cc
    by (Some fit) is e =
        let least = pairs_few pairs first 0 tokens have refl in
        let most = fit_few 0 table first.text (items_from pairs first 0 tokens) fit is in
        omega (arith, least, most)
