-- The items that the tokens of a printed instruction give: one for each slot.
use Rattle.std.proofs.Common.{◌≡◌, ◌∙◌, ap, refl, ℕ, suc, ◌+◌, ◌-◌, ◌<◌, ◌^◌, ◌%◌, ◌==◌, Bool, true, false, cond, not, ◌&&◌, ◌||◌, List, [], ◌∷◌, ◌++◌, length, length-append, sym, subst, arith}
use Rattle.std.specs.Prelude.{ℤ, pos, negsuc, ◌-ℤ◌, nat_le, unwrap_or, slice_get, Option, Some, None, option_and_then}
use Rattle.std.specs.Fmt.{decimal}
use Rattle.std.proofs.lemmas.Fmt.{decimal_by_steps}
use Rattle.std.proofs.Math.IntN.{+ℤ_idl}
use Rattle.std.proofs.lemmas.Bool.Decides.{nat_tests}
use Rattle.sl_model.specs.declared.text.TokenKind.TheVariants.{Word, Number, Mark}
use Rattle.sl_model.specs.Token.{Lexeme}
use Rattle.sl_model.specs.Digits.{some_digits, digits_number, decimal_number, spelled_number}
use Rattle.form_table.specs.Numerals.{capped, decimal_value, number_value}
use Rattle.sl_model.specs.declared.register.Reg.{Reg}
use Rattle.sl_model.specs.TokenTests.{is_word, marks, touches}
use Rattle.sl_isa.specs.Symbols.{Pair, has_pair, number_of}
use Rattle.form_table.specs.Symbols.{letter_code, letter_bank, letter_with, letter_of, is_word_text, closed_name, opened_name, bracketed, symbol_at}
use Rattle.form_table.specs.Items.{Item, blank, mark, word, symbol, numeral, Found, is_free, is_apart, plain_number, signed_number, found_number, signed_value, item_or, token_item, symbol_or, first_item, behind_blank, items_from}
use Rattle.form_table.specs.Rows.{name_text}
use Rattle.form_table.specs.Printed.{register_name, symbol_name, register_text, number_text, condition_text, slot_text}
use Rattle.form_table.specs.declared.rows.Letter.{Letter}
use Rattle.form_table.specs.declared.rows.Letter.TheVariants as letter
use Rattle.form_table.specs.declared.rows.Name.{Name}
use Rattle.form_table.specs.declared.rows.Slot.{Slot}
use Rattle.form_table.specs.declared.rows.Slot.TheVariants as slot
use Rattle.form_table.specs.declared.spells.Held.{Held}
use Rattle.form_table.proofs.Decimals.{decimal_is_read}
use Rattle.form_table.proofs.SlotItems.{register_item, slot_item}
use Rattle.form_table.proofs.Known.{symbol_of}
use Rattle.form_table.proofs.PrintedRuns.{token}
use Rattle.form_table.proofs.PrintedPieces.{IsSmall, IsIndex, Piece, pieces_items, Before, may_follow, behind, may_end, flows, is_printed_mark, FitsBy, FitsRegister, Fits, AllFit, Good}
use Rattle.form_table.proofs.PrintedPieces as before
use Rattle.form_table.proofs.PrintedTokens.{name_kind, number_tokens, symbol_tokens, named_tokens, tokens_by, register_tokens, slot_tokens, pieces_tokens, mark_cases, each_name}
use Rattle.sl_laws.proofs.Tests.{then_parts}

-- ---- numbers

-- Does no second byte make a text hexadecimal?
abbrev is_plain : List ℕ → Bool
is_plain [] = true
is_plain (a ∷ []) = true
is_plain (a ∷ b ∷ text) = cond (b == 120) false (not (b == 88))

no_hex : (x y z : Bool) → cond y false (not z) ≡ true → (x && (y || z)) ≡ false
no_hex true true z e = absurd cc
no_hex true false true e = absurd cc
no_hex true false false e = refl
no_hex false y z e = refl

no_digits : number_value [] ≡ decimal_value []
unfolding number_value decimal_value spelled_number decimal_number
no_digits = refl

plain_value : (text : List ℕ) → is_plain text ≡ true → number_value text ≡ decimal_value text
unfolding number_value decimal_value spelled_number
plain_value [] e = no_digits
plain_value (a ∷ []) e = refl
plain_value (a ∷ b ∷ text) e =
    ap (λ h. option_and_then (λ n. Some (capped n)) (cond h (some_digits 16 text) (decimal_number (a ∷ b ∷ text)))) (no_hex (a == 48) (b == 120) (b == 88) e)

digit_plain : (d : ℕ) → d < 10 → cond (48 + d == 120) false (not (48 + d == 88)) ≡ true
digit_plain d h = grind (arith, nat_tests)

plain_more : (ds : List ℕ) (d : ℕ) → d < 10 → is_plain ds ≡ true → is_plain (ds ++ (48 + d) ∷ []) ≡ true
plain_more [] d h e = refl
plain_more (a ∷ []) d h e = digit_plain d h
plain_more (a ∷ b ∷ ds) d h e = e

decimal_plain : (n : ℕ) → n < 2 ^ 64 → is_plain (decimal n) ≡ true
decimal_plain n h =
    decimal_by_steps (λ n ds. is_plain ds ≡ true) (λ n small. refl)
    (λ n ds some front. plain_more ds (n % 10) (omega arith) front) n h

number_read : (n : ℕ) → n < 2 ^ 32 → number_value (decimal n) ≡ Some n
number_read n h = plain_value (decimal n) (decimal_plain n (omega arith)) ∙ decimal_is_read n h

-- the tokens of a number, of the marks before one, and of a name
abbrev digits : ℕ → ℕ → Lexeme
digits n place = token Number (decimal n) place

abbrev dash : ℕ → Lexeme
dash place = token Mark (45 ∷ []) place

abbrev hash : ℕ → Lexeme
hash place = token Mark (35 ∷ []) place

abbrev name_token : Name → ℕ → Lexeme
name_token n place = token (name_kind n) (name_text n) place

-- a number with the tokens that belong to it
abbrev found : ℕ → Bool → ℕ → Found
found count negative value = record { count = count; negative = negative; value = value }

plain_found : (n place : ℕ) (tokens : List Lexeme) → n < 2 ^ 32 →
    plain_number (digits n place ∷ tokens) ≡ Some (found 1 false n)
unfolding plain_number
plain_found n place tokens h = ap (λ o. option_and_then (λ value. Some (found 1 false value)) o) (number_read n h)

touching : (place : ℕ) → nat_le place place ≡ true
touching place = grind (arith, nat_tests)

signed_positive : (n place : ℕ) (tokens : List Lexeme) → n < 2 ^ 32 →
    signed_number (digits n place ∷ tokens) ≡ Some (found 1 false n)
unfolding signed_number
signed_positive n place tokens h = plain_found n place tokens h

abbrev negated : Option Found → Option Found
negated o = option_and_then (λ f. Some (found 2 true f.value)) o

signed_negative : (n place : ℕ) (tokens : List Lexeme) → n < 2 ^ 32 →
    signed_number (dash place ∷ digits n (place + 1) ∷ tokens) ≡ Some (found 2 true n)
unfolding signed_number
signed_negative n place tokens h =
    ap (λ b. option_and_then (λ behind. negated (plain_number behind)) (cond b (Some (digits n (place + 1) ∷ tokens)) None)) (touching (place + 1))
    ∙ ap negated (plain_found n (place + 1) tokens h)

-- the same as the number that a slot says
abbrev signed_found : (o : Option ℤ) → Option Found
signed_found None = None
signed_found (Some (pos n)) = Some (found 1 false n)
signed_found (Some (negsuc n)) = Some (found 2 true (suc n))

signed_is : (o : Option ℤ) (place : ℕ) (tokens : List Lexeme) → IsSmall o →
    signed_number (number_tokens place o ++ tokens) ≡ signed_found o
signed_is None place tokens small = absurd small
signed_is (Some (pos n)) place tokens small = signed_positive n place tokens small
signed_is (Some (negsuc n)) place tokens small = signed_negative (suc n) place tokens small

abbrev hashed : Option Found → Option Found
hashed o = option_and_then (λ f. Some (found (f.count + 1) f.negative f.value)) o

hash_is : (o : Option ℤ) (place : ℕ) (tokens : List Lexeme) → IsSmall o →
    found_number (hash place ∷ (number_tokens (place + 1) o ++ tokens)) ≡ hashed (signed_found o)
unfolding found_number
hash_is None place tokens small = absurd small
hash_is (Some (pos n)) place tokens small =
    ap (λ b. option_and_then (λ behind. hashed (signed_number behind)) (cond b (Some (digits n (place + 1) ∷ tokens)) None)) (touching (place + 1))
    ∙ ap hashed (signed_is (Some (pos n)) (place + 1) tokens small)
hash_is (Some (negsuc n)) place tokens small =
    let rest : List Lexeme = dash (place + 1) ∷ digits (suc n) (place + 1 + 1) ∷ tokens in
    ap (λ b. option_and_then (λ behind. hashed (signed_number behind)) (cond b (Some rest) None)) (touching (place + 1))
    ∙ ap hashed (signed_is (Some (negsuc n)) (place + 1) tokens small)

minus : (n : ℕ) → pos 0 -ℤ pos (suc n) ≡ negsuc n
minus n = +ℤ_idl (negsuc n)

-- ---- one slot

-- the tokens that a slot begins and ends with
abbrev number_first : ℕ → Option ℤ → Lexeme
number_first place None = token Number [] place
number_first place (Some (pos n)) = digits n place
number_first place (Some (negsuc n)) = dash place

abbrev number_last : ℕ → Option ℤ → Lexeme
number_last place None = token Number [] place
number_last place (Some (pos n)) = digits n place
number_last place (Some (negsuc n)) = digits (suc n) (place + 1)

-- those of a register, which is symbolic or not
abbrev first_by : ℕ → Letter → Reg → Bool → Lexeme
first_by place l r true = token Word (letter_code l ∷ []) place
first_by place l r false = token Word (register_name l r) place

abbrev register_first : ℕ → Letter → Option Reg → Lexeme
register_first place l None = token Word [] place
register_first place l (Some r) = first_by place l r r.symbolic

abbrev named_last : ℕ → Option Pair → Lexeme
named_last place None = token Word [] place
named_last place (Some pair) = token Mark (62 ∷ []) (place + 1 + 1 + length pair.1)

abbrev last_by : List Pair → ℕ → Letter → Reg → Bool → Lexeme
last_by pairs place l r true = named_last place (slice_get pairs r.number)
last_by pairs place l r false = token Word (register_name l r) place

abbrev register_last : List Pair → ℕ → Letter → Option Reg → Lexeme
register_last pairs place l None = token Word [] place
register_last pairs place l (Some r) = last_by pairs place l r r.symbolic

abbrev first_token : ℕ → Held → Slot → Lexeme
first_token place held slot.Gap = token Word [] place
first_token place held (slot.Mark code) = token Mark (code ∷ []) place
first_token place held (slot.Name n) = name_token n place
first_token place held (slot.Register l) = register_first place l held.register
first_token place held slot.Number = hash place
first_token place held slot.Index = number_first place held.number
first_token place held slot.Condition = token Word (condition_text held.number) place

abbrev last_token : List Pair → ℕ → Held → Slot → Lexeme
last_token pairs place held slot.Gap = token Word [] place
last_token pairs place held (slot.Mark code) = token Mark (code ∷ []) place
last_token pairs place held (slot.Name n) = name_token n place
last_token pairs place held (slot.Register l) = register_last pairs place l held.register
last_token pairs place held slot.Number = number_last (place + 1) held.number
last_token pairs place held slot.Index = number_last place held.number
last_token pairs place held slot.Condition = token Word (condition_text held.number) place

-- items of one, two, three and four tokens
single : (pairs : List Pair) (t u : Lexeme) (tokens : List Lexeme) (item : Item) → first_item pairs (u ∷ tokens) ≡ (item, 1) →
    items_from pairs t 0 (u ∷ tokens) ≡ behind_blank (is_apart t u) item ++ items_from pairs u 0 tokens
unfolding items_from
single pairs t u tokens item e = ap (λ f. behind_blank (is_apart t u) f.0 ++ items_from pairs u (f.1 - 1) tokens) e

double : (pairs : List Pair) (t u v : Lexeme) (tokens : List Lexeme) (item : Item) → first_item pairs (u ∷ v ∷ tokens) ≡ (item, 2) →
    items_from pairs t 0 (u ∷ v ∷ tokens) ≡ behind_blank (is_apart t u) item ++ items_from pairs v 0 tokens
unfolding items_from
double pairs t u v tokens item e = ap (λ f. behind_blank (is_apart t u) f.0 ++ items_from pairs u (f.1 - 1) (v ∷ tokens)) e

triple : (pairs : List Pair) (t u v w : Lexeme) (tokens : List Lexeme) (item : Item) → first_item pairs (u ∷ v ∷ w ∷ tokens) ≡ (item, 3) →
    items_from pairs t 0 (u ∷ v ∷ w ∷ tokens) ≡ behind_blank (is_apart t u) item ++ items_from pairs w 0 tokens
unfolding items_from
triple pairs t u v w tokens item e = ap (λ f. behind_blank (is_apart t u) f.0 ++ items_from pairs u (f.1 - 1) (v ∷ w ∷ tokens)) e

quadruple : (pairs : List Pair) (t u v w x : Lexeme) (tokens : List Lexeme) (item : Item) → first_item pairs (u ∷ v ∷ w ∷ x ∷ tokens) ≡ (item, 4) →
    items_from pairs t 0 (u ∷ v ∷ w ∷ x ∷ tokens) ≡ behind_blank (is_apart t u) item ++ items_from pairs x 0 tokens
unfolding items_from
quadruple pairs t u v w x tokens item e = ap (λ f. behind_blank (is_apart t u) f.0 ++ items_from pairs u (f.1 - 1) (v ∷ w ∷ x ∷ tokens)) e

-- ---- no symbolic register

-- Does no `<` stand first?
abbrev pub is_unopened : List Lexeme → Bool
is_unopened [] = true
is_unopened (t ∷ tokens) = not (marks 60 t)

no_bracket : (u : Lexeme) (tokens : List Lexeme) → is_unopened tokens ≡ true → bracketed u tokens ≡ None
unfolding bracketed
no_bracket u [] e = refl
no_bracket u (t ∷ tokens) e = by (marks 60 t) e
  where
    by : (b : Bool) → not b ≡ true → cond b (cond (touches u t) (opened_name t tokens) None) None ≡ None
    by true e = absurd cc
    by false e = refl

pub no_symbol : (u : Lexeme) (tokens : List Lexeme) → is_unopened tokens ≡ true → symbol_at (u ∷ tokens) ≡ None
unfolding symbol_at
no_symbol u tokens e = by (is_word u.kind) (letter_of u.text)
  where
    by : (b : Bool) (o : Option Letter) → cond b (option_and_then (λ l. option_and_then (λ text. Some (symbol_of l text)) (bracketed u tokens)) o) None ≡ None
    by false o = refl
    by true None = refl
    by true (Some l) = ap (option_and_then (λ text. Some (symbol_of l text))) (no_bracket u tokens e)

first_number : (pairs : List Pair) (u : Lexeme) (tokens : List Lexeme) (f : Found) → is_unopened tokens ≡ true → found_number (u ∷ tokens) ≡ Some f →
    first_item pairs (u ∷ tokens) ≡ (numeral (signed_value f), f.count)
unfolding first_item
first_number pairs u tokens f quiet e =
    ap (λ o. symbol_or pairs o (item_or (found_number (u ∷ tokens)) u)) (no_symbol u tokens quiet) ∙ ap (λ o. item_or o u) e

no_number : (pairs : List Pair) (u : Lexeme) (tokens : List Lexeme) → is_unopened tokens ≡ true → found_number (u ∷ tokens) ≡ None
    → first_item pairs (u ∷ tokens) ≡ (token_item u, 1)
unfolding first_item
no_number pairs u tokens quiet e =
    ap (λ o. symbol_or pairs o (item_or (found_number (u ∷ tokens)) u)) (no_symbol u tokens quiet) ∙ ap (λ o. item_or o u) e

word_first : (pairs : List Pair) (w : List ℕ) (place : ℕ) (tokens : List Lexeme) → is_unopened tokens ≡ true → first_item pairs (token Word w place ∷ tokens) ≡ (word w, 1)
unfolding found_number signed_number plain_number
word_first pairs w place tokens quiet = no_number pairs (token Word w place) tokens quiet refl

mark_first : (pairs : List Pair) (place : ℕ) (tokens : List Lexeme) (code : ℕ) → is_unopened tokens ≡ true → is_printed_mark code ≡ true →
    first_item pairs (token Mark (code ∷ []) place ∷ tokens) ≡ (mark code, 1)
unfolding found_number signed_number plain_number
mark_first pairs place tokens code quiet is =
    no_number pairs (token Mark (code ∷ []) place) tokens quiet
    (mark_cases (λ c. found_number (token Mark (c ∷ []) place ∷ tokens) ≡ None) refl refl refl refl refl code is)

name_none : (n : Name) (place : ℕ) (tokens : List Lexeme) → found_number (name_token n place ∷ tokens) ≡ None
unfolding found_number signed_number plain_number number_value spelled_number decimal_number digits_number
name_none n place tokens = each_name (λ n. found_number (name_token n place ∷ tokens) ≡ None) refl refl refl refl refl refl refl refl refl refl refl refl refl refl refl n

name_item : (n : Name) (place : ℕ) → token_item (name_token n place) ≡ word (name_text n)
name_item n place = each_name (λ n. token_item (name_token n place) ≡ word (name_text n)) refl refl refl refl refl refl refl refl refl refl refl refl refl refl refl n

name_first : (pairs : List Pair) (n : Name) (place : ℕ) (tokens : List Lexeme) → is_unopened tokens ≡ true →
    first_item pairs (name_token n place ∷ tokens) ≡ (word (name_text n), 1)
name_first pairs n place tokens quiet =
    no_number pairs (name_token n place) tokens quiet (name_none n place tokens) ∙ ap (λ item. (item, 1)) (name_item n place)

-- ---- symbolic registers

letter_found : (l : Letter) → letter_of (letter_code l ∷ []) ≡ Some l
unfolding letter_of letter_with
letter_found letter.X = refl
letter_found letter.W = refl
letter_found letter.V = refl
letter_found letter.Q = refl
letter_found letter.D = refl
letter_found letter.S = refl
letter_found letter.R = refl

close_found : (place : ℕ) (text : List ℕ) (tokens : List Lexeme) →
    closed_name (token Word text place) (token Mark (62 ∷ []) (place + length text) ∷ tokens) ≡ Some text
unfolding closed_name
close_found place text tokens = ap (λ b. cond b (Some text) None) (touching (place + length text))

name_found : (place : ℕ) (text : List ℕ) (tokens : List Lexeme) → is_word_text text ≡ true →
    opened_name (token Mark (60 ∷ []) place) (token Word text (place + 1) ∷ token Mark (62 ∷ []) (place + 1 + length text) ∷ tokens) ≡ Some text
unfolding opened_name
name_found place text tokens is_word =
    let behind_name : List Lexeme = token Mark (62 ∷ []) (place + 1 + length text) ∷ tokens in
    ap (λ b. cond b (cond (nat_le (place + 1) (place + 1)) (closed_name (token Word text (place + 1)) behind_name) None) None) is_word
    ∙ (ap (λ b. cond b (closed_name (token Word text (place + 1)) behind_name) None) (touching (place + 1))
    ∙ close_found (place + 1) text tokens)

bracket_found : (place : ℕ) (l : Letter) (text : List ℕ) (tokens : List Lexeme) → is_word_text text ≡ true →
    bracketed (token Word (letter_code l ∷ []) place)
    (token Mark (60 ∷ []) (place + 1) ∷ token Word text (place + 1 + 1) ∷ token Mark (62 ∷ []) (place + 1 + 1 + length text) ∷ tokens) ≡ Some text
unfolding bracketed
bracket_found place l text tokens is_word =
    let behind_open : List Lexeme = token Word text (place + 1 + 1) ∷ token Mark (62 ∷ []) (place + 1 + 1 + length text) ∷ tokens in
    ap (λ b. cond b (opened_name (token Mark (60 ∷ []) (place + 1)) behind_open) None) (touching (place + 1))
    ∙ name_found (place + 1) text tokens is_word

pub symbol_found : (place : ℕ) (l : Letter) (text : List ℕ) (tokens : List Lexeme) → is_word_text text ≡ true →
    symbol_at (symbol_tokens place l text ++ tokens) ≡ Some (symbol_of l text)
unfolding symbol_at
symbol_found place l text tokens is_word =
    let behind_letter : List Lexeme = token Mark (60 ∷ []) (place + 1) ∷ token Word text (place + 1 + 1) ∷ token Mark (62 ∷ []) (place + 1 + 1 + length text) ∷ tokens in
    ap (option_and_then (λ k. option_and_then (λ name. Some (symbol_of k name)) (bracketed (token Word (letter_code l ∷ []) place) behind_letter))) (letter_found l)
    ∙ ap (option_and_then (λ name. Some (symbol_of l name))) (bracket_found place l text tokens is_word)

symbol_numbered : (pairs : List Pair) (l : Letter) (text : List ℕ) (n : ℕ) (other : Item × ℕ) → has_pair (letter_bank l) text pairs ≡ true → number_of (letter_bank l) text pairs ≡ n →
    symbol_or pairs (Some (symbol_of l text)) other ≡ (symbol l n, 4)
symbol_numbered pairs l text n other has number =
    ap (λ b. cond b (symbol l (number_of (letter_bank l) text pairs), 4) other) has ∙ ap (λ m. (symbol l m, 4)) number

symbol_first : (pairs : List Pair) (place : ℕ) (l : Letter) (text : List ℕ) (n : ℕ) (tokens : List Lexeme) → is_word_text text ≡ true → has_pair (letter_bank l) text pairs ≡ true
    → number_of (letter_bank l) text pairs ≡ n → first_item pairs (symbol_tokens place l text ++ tokens) ≡ (symbol l n, 4)
unfolding first_item
symbol_first pairs place l text n tokens is_word has number =
    let all : List Lexeme = symbol_tokens place l text ++ tokens in
    let other : Item × ℕ = item_or (found_number all) (token Word (letter_code l ∷ []) place) in
    ap (λ o. symbol_or pairs o other) (symbol_found place l text tokens is_word) ∙ symbol_numbered pairs l text n other has number

symbol_given : (pairs : List Pair) (t : Lexeme) (place : ℕ) (l : Letter) (pair : Pair) (n : ℕ) (tokens : List Lexeme) → is_word_text pair.1 ≡ true
    → has_pair (letter_bank l) pair.1 pairs ≡ true → number_of (letter_bank l) pair.1 pairs ≡ n →
    items_from pairs t 0 (named_tokens place l (Some pair) ++ tokens)
    ≡ behind_blank (is_apart t (token Word (letter_code l ∷ []) place)) (symbol l n) ++ items_from pairs (named_last place (Some pair)) 0 tokens
symbol_given pairs t place l pair n tokens is_word has number =
    quadruple pairs t (token Word (letter_code l ∷ []) place) (token Mark (60 ∷ []) (place + 1)) (token Word pair.1 (place + 1 + 1))
    (token Mark (62 ∷ []) (place + 1 + 1 + length pair.1)) tokens (symbol l n) (symbol_first pairs place l pair.1 n tokens is_word has number)

word_given : (pairs : List Pair) (t : Lexeme) (place : ℕ) (w : List ℕ) (tokens : List Lexeme) → is_unopened tokens ≡ true →
    items_from pairs t 0 (token Word w place ∷ tokens)
    ≡ behind_blank (is_apart t (token Word w place)) (word w) ++ items_from pairs (token Word w place) 0 tokens
word_given pairs t place w tokens quiet = single pairs t (token Word w place) tokens (word w) (word_first pairs w place tokens quiet)

register_given : (pairs : List Pair) (t : Lexeme) (place : ℕ) (l : Letter) (o : Option Reg) (tokens : List Lexeme) → FitsRegister pairs l o → is_unopened tokens ≡ true →
    items_from pairs t 0 (register_tokens pairs place l o ++ tokens)
    ≡ behind_blank (is_apart t (register_first place l o)) (register_item l o) ++ items_from pairs (register_last pairs place l o) 0 tokens
register_given pairs t place l None tokens fit quiet = absurd fit
register_given pairs t place l (Some r) tokens fit quiet = by r.symbolic fit
  where
    by : (b : Bool) → FitsBy pairs l r b →
        items_from pairs t 0 (tokens_by pairs place l r b ++ tokens)
        ≡ behind_blank (is_apart t (first_by place l r b)) (cond b (symbol l r.number) (word (register_name l r))) ++ items_from pairs (last_by pairs place l r b) 0 tokens
    by true fit =
        subst (λ o. items_from pairs t 0 (named_tokens place l o ++ tokens)
        ≡ behind_blank (is_apart t (token Word (letter_code l ∷ []) place)) (symbol l r.number) ++ items_from pairs (named_last place o) 0 tokens)
        (sym fit.at) (symbol_given pairs t place l fit.pair r.number tokens fit.is_word fit.has fit.number)
    by false fit = word_given pairs t place (register_name l r) tokens quiet

-- ---- the items of a slot

hash_given : (pairs : List Pair) (t : Lexeme) (place : ℕ) (o : Option ℤ) (tokens : List Lexeme) → IsSmall o →
    items_from pairs t 0 (hash place ∷ (number_tokens (place + 1) o ++ tokens))
    ≡ behind_blank (is_apart t (hash place)) (numeral (unwrap_or o (pos 0))) ++ items_from pairs (number_last (place + 1) o) 0 tokens
hash_given pairs t place None tokens small = absurd small
hash_given pairs t place (Some (pos n)) tokens small =
    double pairs t (hash place) (digits n (place + 1)) tokens (numeral (pos n))
    (first_number pairs (hash place) (digits n (place + 1) ∷ tokens) (found 2 false n) refl (hash_is (Some (pos n)) place tokens small))
hash_given pairs t place (Some (negsuc n)) tokens small =
    let rest : List Lexeme = dash (place + 1) ∷ digits (suc n) (place + 1 + 1) ∷ tokens in
    triple pairs t (hash place) (dash (place + 1)) (digits (suc n) (place + 1 + 1)) tokens (numeral (negsuc n))
    (first_number pairs (hash place) rest (found 3 true (suc n)) refl (hash_is (Some (negsuc n)) place tokens small) ∙ ap (λ z. (numeral z, 3)) (minus n))

index_found : (n place : ℕ) (tokens : List Lexeme) → n < 2 ^ 32 →
    found_number (digits n place ∷ tokens) ≡ Some (found 1 false n)
unfolding found_number
index_found n place tokens small = signed_positive n place tokens small

index_given : (pairs : List Pair) (t : Lexeme) (place : ℕ) (o : Option ℤ) (tokens : List Lexeme) → IsIndex o → is_unopened tokens ≡ true →
    items_from pairs t 0 (number_tokens place o ++ tokens)
    ≡ behind_blank (is_apart t (number_first place o)) (numeral (unwrap_or o (pos 0))) ++ items_from pairs (number_last place o) 0 tokens
index_given pairs t place None tokens index quiet = absurd index
index_given pairs t place (Some (pos n)) tokens index quiet =
    single pairs t (digits n place) tokens (numeral (pos n)) (first_number pairs (digits n place) tokens (found 1 false n) quiet (index_found n place tokens index))
index_given pairs t place (Some (negsuc n)) tokens index quiet = absurd index

-- Has a slot an item of its own token?
abbrev has_token : Slot → Bool
has_token slot.Gap = false
has_token (slot.Mark code) = true
has_token (slot.Name n) = true
has_token (slot.Register letter) = true
has_token slot.Number = true
has_token slot.Index = true
has_token slot.Condition = true

slot_given : (pairs : List Pair) (t : Lexeme) (place : ℕ) (held : Held) (s : Slot) (tokens : List Lexeme) → Fits pairs held s → has_token s ≡ true → is_unopened tokens ≡ true →
    items_from pairs t 0 (slot_tokens pairs place held s ++ tokens)
    ≡ behind_blank (is_apart t (first_token place held s)) (slot_item held s) ++ items_from pairs (last_token pairs place held s) 0 tokens
unfolding slot_item
slot_given pairs t place held slot.Gap tokens fit has quiet = absurd cc
slot_given pairs t place held (slot.Mark code) tokens fit has quiet =
    single pairs t (token Mark (code ∷ []) place) tokens (mark code) (mark_first pairs place tokens code quiet fit)
slot_given pairs t place held (slot.Name n) tokens fit has quiet = single pairs t (name_token n place) tokens (word (name_text n)) (name_first pairs n place tokens quiet)
slot_given pairs t place held (slot.Register l) tokens fit has quiet = register_given pairs t place l held.register tokens fit quiet
slot_given pairs t place held slot.Number tokens fit has quiet = hash_given pairs t place held.number tokens fit
slot_given pairs t place held slot.Index tokens fit has quiet = index_given pairs t place held.number tokens fit quiet
slot_given pairs t place held slot.Condition tokens fit has quiet = word_given pairs t place (condition_text held.number) tokens quiet

-- ---- no slot begins with `<`

register_unopened : (pairs : List Pair) (place : ℕ) (l : Letter) (o : Option Reg) (tokens : List Lexeme) → FitsRegister pairs l o →
    is_unopened (register_tokens pairs place l o ++ tokens) ≡ true
register_unopened pairs place l None tokens fit = absurd fit
register_unopened pairs place l (Some r) tokens fit = by r.symbolic fit
  where
    by : (b : Bool) → FitsBy pairs l r b → is_unopened (tokens_by pairs place l r b ++ tokens) ≡ true
    by true fit = subst (λ o. is_unopened (named_tokens place l o ++ tokens) ≡ true) (sym fit.at) refl
    by false fit = refl

index_unopened : (place : ℕ) (o : Option ℤ) (tokens : List Lexeme) → IsIndex o → is_unopened (number_tokens place o ++ tokens) ≡ true
index_unopened place None tokens index = absurd index
index_unopened place (Some (pos n)) tokens index = refl
index_unopened place (Some (negsuc n)) tokens index = absurd index

slot_unopened : (pairs : List Pair) (place : ℕ) (held : Held) (s : Slot) (tokens : List Lexeme) → Fits pairs held s → is_unopened tokens ≡ true →
    is_unopened (slot_tokens pairs place held s ++ tokens) ≡ true
slot_unopened pairs place held slot.Gap tokens fit quiet = quiet
slot_unopened pairs place held (slot.Mark code) tokens fit quiet =
    mark_cases (λ c. is_unopened (token Mark (c ∷ []) place ∷ tokens) ≡ true) refl refl refl refl refl code fit
slot_unopened pairs place held (slot.Name n) tokens fit quiet =
    each_name (λ n. is_unopened (name_token n place ∷ tokens) ≡ true) refl refl refl refl refl refl refl refl refl refl refl refl refl refl refl n
slot_unopened pairs place held (slot.Register l) tokens fit quiet = register_unopened pairs place l held.register tokens fit
slot_unopened pairs place held slot.Number tokens fit quiet = refl
slot_unopened pairs place held slot.Index tokens fit quiet = index_unopened place held.number tokens fit
slot_unopened pairs place held slot.Condition tokens fit quiet = refl

pub pieces_unopened : (pairs : List Pair) (place : ℕ) (ps : List Piece) → AllFit pairs ps → is_unopened (pieces_tokens pairs place ps) ≡ true
pieces_unopened pairs place [] fit = refl
pieces_unopened pairs place (p ∷ ps) fit =
    slot_unopened pairs place p.held p.slot _ fit.0 (pieces_unopened pairs (place + length (slot_text pairs p.held p.slot)) ps fit.1)

-- ---- where a slot stands

abbrev end_of : Lexeme → ℕ
end_of t = t.start + length t.text

-- A token stands before a place: directly, if it is a word or a number; so that no blank counts, if it is a mark; with a
-- blank between that counts.
abbrev Stands : Before → Lexeme → ℕ → Type 0
Stands before.name t place = (is_free t ≡ false) × (place ≡ end_of t)
Stands before.mark t place = cond (nat_le place (end_of t)) true (is_free t) ≡ true
Stands before.blank t place = (is_free t ≡ false) × (nat_le place (end_of t) ≡ false)

abbrev is_blank : Before → Bool
is_blank before.name = false
is_blank before.mark = false
is_blank before.blank = true

joined : (a f g : Bool) → cond a true f ≡ true → cond a false (cond f false g) ≡ false
joined true f g e = refl
joined false true g e = refl
joined false false g e = absurd cc

apart_is : (b : Before) (t u : Lexeme) → Stands b t u.start → cond (is_blank b) (is_free u) false ≡ false → is_apart t u ≡ is_blank b
apart_is before.name t u s free =
    ap (λ n. cond (nat_le n (end_of t)) false (cond (is_free t) false (not (is_free u)))) s.1
    ∙ ap (λ b. cond b false (cond (is_free t) false (not (is_free u)))) (touching (end_of t))
apart_is before.mark t u s free = joined (nat_le u.start (end_of t)) (is_free t) (not (is_free u)) s
apart_is before.blank t u s free =
    ap (λ b. cond b false (cond (is_free t) false (not (is_free u)))) s.1
    ∙ (ap (λ b. cond b false (not (is_free u))) s.0 ∙ ap not free)

number_start : (place : ℕ) (o : Option ℤ) → place ≡ (number_first place o).start
number_start place None = refl
number_start place (Some (pos n)) = refl
number_start place (Some (negsuc n)) = refl

register_start : (place : ℕ) (l : Letter) (o : Option Reg) → place ≡ (register_first place l o).start
register_start place l None = refl
register_start place l (Some r) = by r.symbolic
  where
    by : (b : Bool) → place ≡ (first_by place l r b).start
    by true = refl
    by false = refl

first_start : (place : ℕ) (held : Held) (s : Slot) → place ≡ (first_token place held s).start
first_start place held slot.Gap = refl
first_start place held (slot.Mark code) = refl
first_start place held (slot.Name n) = refl
first_start place held (slot.Register l) = register_start place l held.register
first_start place held slot.Number = refl
first_start place held slot.Index = number_start place held.number
first_start place held slot.Condition = refl

name_bound : (n : Name) (place : ℕ) → is_free (name_token n place) ≡ false
name_bound n place = each_name (λ n. is_free (name_token n place) ≡ false) refl refl refl refl refl refl refl refl refl refl refl refl refl refl refl n

index_bound : (place : ℕ) (o : Option ℤ) → is_free (number_first place o) ≡ false
index_bound place None = refl
index_bound place (Some (pos n)) = refl
index_bound place (Some (negsuc n)) = refl

register_bound : (place : ℕ) (l : Letter) (o : Option Reg) → is_free (register_first place l o) ≡ false
register_bound place l None = refl
register_bound place l (Some r) = by r.symbolic
  where
    by : (b : Bool) → is_free (first_by place l r b) ≡ false
    by true = refl
    by false = refl

first_bound : (place : ℕ) (held : Held) (s : Slot) → may_follow before.blank (behind s) ≡ true →
    is_free (first_token place held s) ≡ false
first_bound place held slot.Gap may = absurd cc
first_bound place held (slot.Mark code) may = absurd cc
first_bound place held (slot.Name n) may = name_bound n place
first_bound place held (slot.Register l) may = register_bound place l held.register
first_bound place held slot.Number may = refl
first_bound place held slot.Index may = index_bound place held.number
first_bound place held slot.Condition may = refl

first_free : (b : Before) (place : ℕ) (held : Held) (s : Slot) → may_follow b (behind s) ≡ true →
    cond (is_blank b) (is_free (first_token place held s)) false ≡ false
first_free before.name place held s may = refl
first_free before.mark place held s may = refl
first_free before.blank place held s may = first_bound place held s may

slot_apart : (b : Before) (t : Lexeme) (place : ℕ) (held : Held) (s : Slot) → Stands b t place → may_follow b (behind s) ≡ true →
    is_apart t (first_token place held s) ≡ is_blank b
slot_apart b t place held s stands may =
    apart_is b t (first_token place held s) (subst (Stands b t) (first_start place held s) stands)
    (first_free b place held s may)

free_anyhow : (b : Bool) → cond b true true ≡ true
free_anyhow true = refl
free_anyhow false = refl

stands_behind_mark : (pairs : List Pair) (place : ℕ) (held : Held) (code : ℕ) → is_printed_mark code ≡ true →
    Stands before.mark (token Mark (code ∷ []) place) (place + length (slot_text pairs held (slot.Mark code)))
unfolding slot_text
stands_behind_mark pairs place held code is =
    mark_cases (λ c. Stands before.mark (token Mark (c ∷ []) place) (place + length (slot_text pairs held (slot.Mark c))))
    (ap (λ b. cond b true false) (touching (place + 1))) (free_anyhow (nat_le (place + 2) (place + 1)))
    (free_anyhow (nat_le (place + 1) (place + 1))) (free_anyhow (nat_le (place + 1) (place + 1)))
    (free_anyhow (nat_le (place + 1) (place + 1))) code is

stands_behind_hash : (place : ℕ) (o : Option ℤ) → IsSmall o →
    Stands before.name (number_last (place + 1) o) (place + suc (length (number_text o)))
stands_behind_hash place None small = absurd small
stands_behind_hash place (Some (pos n)) small = (refl, omega arith)
stands_behind_hash place (Some (negsuc n)) small = (refl, omega arith)

stands_behind_index : (place : ℕ) (o : Option ℤ) → IsIndex o →
    Stands before.name (number_last place o) (place + length (number_text o))
stands_behind_index place None index = absurd index
stands_behind_index place (Some (pos n)) index = (refl, refl)
stands_behind_index place (Some (negsuc n)) index = absurd index

stands_behind_name : (place : ℕ) (l : Letter) (pair : Pair) →
    Stands before.name (named_last place (Some pair)) (place + length (symbol_name l (Some pair)))
unfolding symbol_name
stands_behind_name place l pair =
    let sum : length (pair.1 ++ 62 ∷ []) ≡ length pair.1 + 1 = length-append pair.1 (62 ∷ []) in
    (refl, omega (arith, sum))

stands_behind_register : (pairs : List Pair) (place : ℕ) (l : Letter) (o : Option Reg) → FitsRegister pairs l o →
    Stands before.name (register_last pairs place l o) (place + length (register_text pairs l o))
stands_behind_register pairs place l None fit = absurd fit
stands_behind_register pairs place l (Some r) fit = by r.symbolic fit
  where
    by : (b : Bool) → FitsBy pairs l r b →
        Stands before.name (last_by pairs place l r b) (place + length (cond b (symbol_name l (slice_get pairs r.number)) (register_name l r)))
    by true fit =
        subst (λ o. Stands before.name (named_last place o) (place + length (symbol_name l o))) (sym fit.at) (stands_behind_name place l fit.pair)
    by false fit = (refl, refl)

stands_behind : (pairs : List Pair) (place : ℕ) (held : Held) (s : Slot) → Fits pairs held s → has_token s ≡ true →
    Stands (behind s) (last_token pairs place held s) (place + length (slot_text pairs held s))
unfolding slot_text
stands_behind pairs place held slot.Gap fit has = absurd cc
stands_behind pairs place held (slot.Mark code) fit has = stands_behind_mark pairs place held code fit
stands_behind pairs place held (slot.Name n) fit has = (name_bound n place, refl)
stands_behind pairs place held (slot.Register l) fit has = stands_behind_register pairs place l held.register fit
stands_behind pairs place held slot.Number fit has = stands_behind_hash place held.number fit
stands_behind pairs place held slot.Index fit has = stands_behind_index place held.number fit
stands_behind pairs place held slot.Condition fit has = (refl, refl)

-- a word or a number, with a blank behind it
stands_apart : (t : Lexeme) (place : ℕ) → Stands before.name t place → Stands before.blank t (place + 1)
stands_apart t place s =
    let later : end_of t < place + 1 = omega (arith, s.1) in
    (s.0, past (place + 1) (end_of t) later)
  where
    past : (a b : ℕ) → b < a → nat_le a b ≡ false
    past a b h = grind (arith, nat_tests)

-- ---- all slots

-- items behind what stands before them
abbrev led : Before → List Item → List Item
led before.name items = items
led before.mark items = items
led before.blank items = blank ∷ items

blank_led : (b : Before) (item : Item) (items : List Item) → behind_blank (is_blank b) item ++ items ≡ led b (item ∷ items)
blank_led before.name item items = refl
blank_led before.mark item items = refl
blank_led before.blank item items = refl

token_given : (pairs : List Pair) (b : Before) (t : Lexeme) (place : ℕ) (held : Held) (s : Slot) (tokens : List Lexeme) (items : List Item) →
    Stands b t place → may_follow b (behind s) ≡ true →
    Fits pairs held s → has_token s ≡ true → is_unopened tokens ≡ true → items_from pairs (last_token pairs place held s) 0 tokens ≡ led (behind s) items →
    led (behind s) items ≡ items →
    items_from pairs t 0 (slot_tokens pairs place held s ++ tokens) ≡ led b (slot_item held s ∷ items)
token_given pairs b t place held s tokens items stands may fit has quiet rest bare =
    slot_given pairs t place held s tokens fit has quiet
    ∙ (ap (λ apart. behind_blank apart (slot_item held s) ++ items_from pairs (last_token pairs place held s) 0 tokens)
    (slot_apart b t place held s stands may)
    ∙ (ap (λ more. behind_blank (is_blank b) (slot_item held s) ++ more) (rest ∙ bare) ∙ blank_led b (slot_item held s) items))

-- one more slot
slot_step : (pairs : List Pair) (b : Before) (t : Lexeme) (place : ℕ) (held : Held) (s : Slot) (ps : List Piece) → Stands b t place →
    may_follow b (behind s) ≡ true → Fits pairs held s → AllFit pairs ps →
    ((u : Lexeme) (next : ℕ) → Stands (behind s) u next → items_from pairs u 0 (pieces_tokens pairs next ps) ≡ led (behind s) (pieces_items ps)) →
    items_from pairs t 0 (slot_tokens pairs place held s ++ pieces_tokens pairs (place + length (slot_text pairs held s)) ps) ≡ led b (slot_item held s ∷ pieces_items ps)
unfolding slot_text slot_item
slot_step pairs before.name t place held slot.Gap ps stands may fit all more = more t (place + 1) (stands_apart t place stands)
slot_step pairs before.mark t place held slot.Gap ps stands may fit all more = absurd cc
slot_step pairs before.blank t place held slot.Gap ps stands may fit all more = absurd cc
slot_step pairs b t place held (slot.Mark code) ps stands may fit all more =
    token_given pairs b t place held (slot.Mark code) _ (pieces_items ps) stands may fit refl (pieces_unopened pairs _ ps all)
    (more _ _ (stands_behind pairs place held (slot.Mark code) fit refl)) refl
slot_step pairs b t place held (slot.Name n) ps stands may fit all more =
    token_given pairs b t place held (slot.Name n) _ (pieces_items ps) stands may fit refl (pieces_unopened pairs _ ps all)
    (more _ _ (stands_behind pairs place held (slot.Name n) fit refl)) refl
slot_step pairs b t place held (slot.Register l) ps stands may fit all more =
    token_given pairs b t place held (slot.Register l) _ (pieces_items ps) stands may fit refl (pieces_unopened pairs _ ps all)
    (more _ _ (stands_behind pairs place held (slot.Register l) fit refl)) refl
slot_step pairs b t place held slot.Number ps stands may fit all more =
    token_given pairs b t place held slot.Number _ (pieces_items ps) stands may fit refl (pieces_unopened pairs _ ps all)
    (more _ _ (stands_behind pairs place held slot.Number fit refl)) refl
slot_step pairs b t place held slot.Index ps stands may fit all more =
    token_given pairs b t place held slot.Index _ (pieces_items ps) stands may fit refl (pieces_unopened pairs _ ps all)
    (more _ _ (stands_behind pairs place held slot.Index fit refl)) refl
slot_step pairs b t place held slot.Condition ps stands may fit all more =
    token_given pairs b t place held slot.Condition _ (pieces_items ps) stands may fit refl (pieces_unopened pairs _ ps all)
    (more _ _ (stands_behind pairs place held slot.Condition fit refl)) refl

-- pieces behind a token give their items
pieces_given : (pairs : List Pair) (b : Before) (t : Lexeme) (place : ℕ) (ps : List Piece) → Stands b t place → Good pairs b ps →
    items_from pairs t 0 (pieces_tokens pairs place ps) ≡ led b (pieces_items ps)
unfolding items_from
pieces_given pairs before.name t place [] stands good = refl
pieces_given pairs before.mark t place [] stands good = refl
pieces_given pairs before.blank t place [] stands good = let none : false ≡ true = good.flow in absurd cc
pieces_given pairs b t place (p ∷ ps) stands good =
    let parts = then_parts (may_follow b (behind p.slot)) (flows (behind p.slot) ps) good.flow in
    slot_step pairs b t place p.held p.slot ps stands parts.0 good.fit.0 good.fit.1
    (λ u next s. pieces_given pairs (behind p.slot) u next ps s (record { flow = parts.1; fit = good.fit.1 }))

-- pieces directly behind a word give their items
pub word_pieces : (pairs : List Pair) (w : List ℕ) (place : ℕ) (ps : List Piece) → Good pairs before.name ps →
    items_from pairs (token Word w place) 0 (pieces_tokens pairs (place + length w) ps) ≡ pieces_items ps
word_pieces pairs w place ps good = pieces_given pairs before.name (token Word w place) (place + length w) ps (refl, refl) good
