-- Symbolic registers that were read have the number of a pair, whose name is a word.
use Rattle.std.proofs.Common.{◌≡◌, ◌∙◌, sym, ap, subst, refl, ℕ, zero, suc, ◌-◌, ◌==◌, ◌&&◌, Bool, true, false, cond, List, [], ◌∷◌, ◌++◌, eqb-true}
use Rattle.std.specs.Prelude.{pos, Option, Some, None, option_and_then, slice_get, slice_set, codes}
use Rattle.std.specs.List.{list_all}
use Rattle.std.specs.Str.{str_eq_ignore_ascii_case}
use Rattle.std.proofs.Math.Logic.{⊎_elim}
use Rattle.std.proofs.lemmas.Bool.{and_parts}
use Rattle.std.proofs.lemmas.Option.{option_and_then_some, cond_some, same_Some}
use Rattle.sl_model.specs.declared.register.Bank.{Bank}
use Rattle.sl_model.specs.declared.register.Bank.TheVariants.{General, Vector, Stack}
use Rattle.sl_model.specs.declared.register.Reg.{Reg}
use Rattle.sl_model.specs.Token.{Lexeme}
use Rattle.sl_model.specs.TokenTests.{is_word, is_number, code_of, marks, touches}
use Rattle.sl_isa.specs.Symbols.{Pair, has_pair, number_of}
use Rattle.form_table.specs.Symbols.{letter_code, letter_bank, letter_of, is_word_text, closed_name, opened_name, bracketed, Symbol, symbol_at}
use Rattle.form_table.specs.Items.{Item, blank, mark, word, symbol, numeral, Found, found_number, item_or, token_item, symbol_or, first_item, is_apart, behind_blank, items_from}
use Rattle.form_table.specs.Rows.{name_text, slots_of}
use Rattle.form_table.specs.Spells.{Taken, machine_reg, numbered, unless_r13, register_of, symbolic_reg, item_register, word_in, number_in, is_gap, is_mark_of, condition_of, empty, put, front, comma, ended, fill}
use Rattle.form_table.specs.Reads.{held_at, is_zero, without_number, settled}
use Rattle.form_table.specs.declared.rows.Alias.{Alias}
use Rattle.form_table.specs.declared.rows.Alias.TheVariants as alias
use Rattle.form_table.specs.declared.rows.Letter.{Letter}
use Rattle.form_table.specs.declared.rows.Letter.TheVariants as letter
use Rattle.form_table.specs.declared.rows.Slot.{Slot}
use Rattle.form_table.specs.declared.rows.Slot.TheVariants as slot
use Rattle.form_table.specs.declared.rows.Row.{Row}
use Rattle.form_table.specs.declared.spells.Held.{Held}
use Rattle.form_table.specs.declared.reader.Fit.{Fit}
use Rattle.form_table.proofs.Names.{knows_pair, knows_register, knows_item, knows_optional, knows_held, name_known, word_known}
use Rattle.form_table.proofs.Named.{numbered_is, unless_r13_is, which}
use Rattle.form_table.proofs.Refill.{with_register, with_number}
use Rattle.form_table.proofs.Kept.{same_letter}

-- ---- names that tokens spell

-- what two tests lead to
pub tested : {A : Type 0} (b : Bool) (o : Option A) (x : A) → cond b o None ≡ Some x → (b ≡ true) × (o ≡ Some x)
tested true o x e = (refl, e)
tested false o x e = absurd cc

closed_is : (name : Lexeme) (tokens : List Lexeme) (text : List ℕ) → closed_name name tokens ≡ Some text → name.text ≡ text
unfolding closed_name
closed_is name [] text e = absurd cc
closed_is name (close ∷ tokens) text e =
    let one = tested (marks 62 close) (cond (touches name close) (Some name.text) None) text e in
    let two = tested (touches name close) (Some name.text) text one.1 in
    same_Some name.text text two.1

opened_is : (opening : Lexeme) (tokens : List Lexeme) (text : List ℕ) → opened_name opening tokens ≡ Some text → is_word_text text ≡ true
unfolding opened_name
opened_is opening [] text e = absurd cc
opened_is opening (name ∷ tokens) text e =
    let one = tested (is_word_text name.text) (cond (touches opening name) (closed_name name tokens) None) text e in
    let two = tested (touches opening name) (closed_name name tokens) text one.1 in
    ap is_word_text (sym (closed_is name tokens text two.1)) ∙ one.0

bracketed_is : (before : Lexeme) (tokens : List Lexeme) (text : List ℕ) → bracketed before tokens ≡ Some text → is_word_text text ≡ true
unfolding bracketed
bracketed_is before [] text e = absurd cc
bracketed_is before (opening ∷ tokens) text e =
    let one = tested (marks 60 opening) (cond (touches before opening) (opened_name opening tokens) None) text e in
    let two = tested (touches before opening) (opened_name opening tokens) text one.1 in
    opened_is opening tokens text two.1

-- a symbolic register of a letter and a name
abbrev pub symbol_of : Letter → List ℕ → Symbol
symbol_of l name = record { letter = l; name = name }

-- What tokens have that begin with a symbolic register.
pub record BeginsSymbol (token : Lexeme) (tokens : List Lexeme) (s : Symbol) : Type 0 where
  pub is_word : is_word token.kind ≡ true
  pub bracket : bracketed token tokens ≡ Some s.name

pub symbol_begins : (token : Lexeme) (tokens : List Lexeme) (s : Symbol) → symbol_at (token ∷ tokens) ≡ Some s → BeginsSymbol token tokens s
unfolding symbol_at
symbol_begins token tokens s e =
    let one = tested (is_word token.kind) (option_and_then (λ l. option_and_then (λ name. Some (symbol_of l name)) (bracketed token tokens)) (letter_of token.text)) s e in
    option_and_then_some (λ l. option_and_then (λ name. Some (symbol_of l name)) (bracketed token tokens)) (letter_of token.text) s one.1
    (λ l is_letter named. option_and_then_some (λ name. Some (symbol_of l name)) (bracketed token tokens) s named
    (λ name is_name made. record {
      is_word = one.0;
      bracket = is_name ∙ ap (λ (v : Symbol). Some v.name) (same_Some (symbol_of l name) s made);
    }))

-- the name of a symbolic register is a word
pub symbol_word : (tokens : List Lexeme) (s : Symbol) → symbol_at tokens ≡ Some s → is_word_text s.name ≡ true
unfolding symbol_at
symbol_word [] s e = absurd cc
symbol_word (token ∷ tokens) s e = bracketed_is token tokens s.name (symbol_begins token tokens s e).bracket

-- ---- items

plain_known : (pairs : List Pair) (token : Lexeme) → knows_item pairs (token_item token) ≡ true
plain_known pairs token = by (is_word token.kind) (is_number token.kind)
  where
    by : (a b : Bool) → knows_item pairs (cond a (word token.text) (cond b (word token.text) (mark (code_of token)))) ≡ true
    by true b = refl
    by false true = refl
    by false false = refl

other_known : (pairs : List Pair) (o : Option Found) (token : Lexeme) → knows_item pairs (item_or o token).0 ≡ true
other_known pairs None token = plain_known pairs token
other_known pairs (Some found) token = refl

symbol_known : (pairs : List Pair) (tokens : List Lexeme) (o : Option Symbol) (other : Item × ℕ) → symbol_at tokens ≡ o → knows_item pairs other.0 ≡ true
    → knows_item pairs (symbol_or pairs o other).0 ≡ true
symbol_known pairs tokens None other at e = e
symbol_known pairs tokens (Some s) other at e = by (has_pair (letter_bank s.letter) s.name pairs) refl
  where
    n : ℕ
    n = number_of (letter_bank s.letter) s.name pairs

    by : (b : Bool) → has_pair (letter_bank s.letter) s.name pairs ≡ b
        → knows_item pairs (cond (has_pair (letter_bank s.letter) s.name pairs) (symbol s.letter (number_of (letter_bank s.letter) s.name pairs), 4) other).0 ≡ true
    by true has =
        ap (λ (b : Bool). knows_item pairs (cond b (symbol s.letter (number_of (letter_bank s.letter) s.name pairs), 4) other).0) has
        ∙ name_known pairs (letter_bank s.letter) (number_of (letter_bank s.letter) s.name pairs)
        (word_known pairs (letter_bank s.letter) s.name (symbol_word tokens s at) has)
    by false has = ap (λ (b : Bool). knows_item pairs (cond b (symbol s.letter (number_of (letter_bank s.letter) s.name pairs), 4) other).0) has ∙ e

first_known : (pairs : List Pair) (tokens : List Lexeme) → knows_item pairs (first_item pairs tokens).0 ≡ true
unfolding first_item
first_known pairs [] = refl
first_known pairs (token ∷ tokens) =
    symbol_known pairs (token ∷ tokens) (symbol_at (token ∷ tokens)) (item_or (found_number (token ∷ tokens)) token) refl
    (other_known pairs (found_number (token ∷ tokens)) token)

blank_known : (pairs : List Pair) (apart : Bool) (item : Item) (items : List Item) → knows_item pairs item ≡ true → list_all (knows_item pairs) items ≡ true
    → list_all (knows_item pairs) (behind_blank apart item ++ items) ≡ true
blank_known pairs true item items e all = ap (λ b. b && list_all (knows_item pairs) items) e ∙ all
blank_known pairs false item items e all = ap (λ b. b && list_all (knows_item pairs) items) e ∙ all

-- Items have known numbers.
pub items_known : (pairs : List Pair) (before : Lexeme) (taken : ℕ) (tokens : List Lexeme) → list_all (knows_item pairs) (items_from pairs before taken tokens) ≡ true
unfolding items_from
items_known pairs before taken [] = refl
items_known pairs before (suc taken) (token ∷ tokens) = items_known pairs token taken tokens
items_known pairs before zero (token ∷ tokens) =
    blank_known pairs (is_apart before token) (first_item pairs (token ∷ tokens)).0
    (items_from pairs token ((first_item pairs (token ∷ tokens)).1 - 1) tokens) (first_known pairs (token ∷ tokens))
    (items_known pairs token ((first_item pairs (token ∷ tokens)).1 - 1) tokens)

-- ---- what operands take

-- the registers of words are the machine's
numbered_concrete : (bank : Bank) (code count : ℕ) (text : List ℕ) (r : Reg) → numbered bank code count text ≡ Some r → r.symbolic ≡ false
numbered_concrete bank code count text r e = let n = numbered_is bank code count text r e in ap (λ (v : Reg). v.symbolic) (sym n.is)

own_concrete : (q r : Reg) → q.symbolic ≡ false → q ≡ r → r.symbolic ≡ false
own_concrete q r e same = ap (λ (v : Reg). v.symbolic) (sym same) ∙ e

register_concrete : (l : Letter) (text : List ℕ) (r : Reg) → register_of l text ≡ Some r → r.symbolic ≡ false
unfolding register_of
register_concrete letter.X text r e =
    ⊎_elim (own_concrete (machine_reg General 31) r refl)
    (λ e'. ⊎_elim (own_concrete (machine_reg Stack 0) r refl) (numbered_concrete General 120 31 text r)
    (which (str_eq_ignore_ascii_case text (codes "sp")) (machine_reg Stack 0) (numbered General 120 31 text) r e'))
    (which (str_eq_ignore_ascii_case text (codes "xzr")) (machine_reg General 31) _ r e)
register_concrete letter.W text r e =
    ⊎_elim (own_concrete (machine_reg General 31) r refl) (numbered_concrete General 119 31 text r)
    (which (str_eq_ignore_ascii_case text (codes "wzr")) (machine_reg General 31) (numbered General 119 31 text) r e)
register_concrete letter.V text r e = numbered_concrete Vector 118 32 text r e
register_concrete letter.Q text r e = numbered_concrete Vector 113 32 text r e
register_concrete letter.D text r e = numbered_concrete Vector 100 32 text r e
register_concrete letter.S text r e = numbered_concrete Vector 115 32 text r e
register_concrete letter.R text r e =
    ⊎_elim (own_concrete (machine_reg General 14) r refl)
    (λ e'. ⊎_elim (own_concrete (machine_reg Stack 0) r refl)
    (λ n. numbered_concrete General 114 15 text r (unless_r13_is (numbered General 114 15 text) r n).0)
    (which (str_eq_ignore_ascii_case text (codes "sp")) (machine_reg Stack 0) (unless_r13 (numbered General 114 15 text)) r e'))
    (which (str_eq_ignore_ascii_case text (codes "lr")) (machine_reg General 14) _ r e)

concrete_known : (pairs : List Pair) (r : Reg) → r.symbolic ≡ false → knows_register pairs r ≡ true
concrete_known pairs r e = ap (λ b. cond b (knows_pair pairs r.bank r.number (slice_get pairs r.number)) true) e

register_known : (pairs : List Pair) (l : Letter) (item : Item) (r : Reg) → item_register l item ≡ Some r → knows_item pairs item ≡ true → knows_register pairs r ≡ true
unfolding item_register
register_known pairs l blank r e k = absurd cc
register_known pairs l (mark c) r e k = absurd cc
register_known pairs l (word text) r e k = concrete_known pairs r (register_concrete l text r e)
register_known pairs l (symbol other n) r e k =
    let parts = cond_some (letter_code other == letter_code l) (symbolic_reg l n) r e in
    let same : other ≡ l = same_letter other l (eqb-true (letter_code other) (letter_code l) parts.0) in
    subst (λ (q : Reg). knows_register pairs q ≡ true) parts.1
    (subst (λ v. knows_pair pairs (letter_bank v) n (slice_get pairs n) ≡ true) same k)
register_known pairs l (numeral n) r e k = absurd cc

-- where only a number is put, the register stays
number_known : {A : Type 0} (pairs : List Pair) (held next : Held) (f : A → Held) (o : Option A) → ((x : A) → (f x).register ≡ held.register) → option_and_then (λ x. Some (f x)) o ≡ Some next
    → knows_held pairs held ≡ true → knows_held pairs next ≡ true
number_known pairs held next f o stays e k =
    option_and_then_some (λ x. Some (f x)) o next e
    (λ x some made. ap (knows_optional pairs) (ap (λ (h : Held). h.register) (sym (same_Some (f x) next made)) ∙ stays x) ∙ k)

same_known : (pairs : List Pair) (held next : Held) → held ≡ next → knows_held pairs held ≡ true → knows_held pairs next ≡ true
same_known pairs held next e k = ap (knows_held pairs) (sym e) ∙ k

put_known : (pairs : List Pair) (held next : Held) (s : Slot) (item : Item) → put held s item ≡ Some next → knows_item pairs item ≡ true
    → knows_held pairs held ≡ true → knows_held pairs next ≡ true
unfolding put
put_known pairs held next slot.Gap item e i k = same_known pairs held next (cond_some (is_gap item) held next e).1 k
put_known pairs held next (slot.Mark code) item e i k = same_known pairs held next (cond_some (is_mark_of code item) held next e).1 k
put_known pairs held next (slot.Name name) item e i k =
    option_and_then_some (λ text. cond (str_eq_ignore_ascii_case text (name_text name)) (Some held) None) (word_in item) next e
    (λ text is_text made. same_known pairs held next (cond_some (str_eq_ignore_ascii_case text (name_text name)) held next made).1 k)
put_known pairs held next (slot.Register l) item e i k =
    option_and_then_some (λ r. Some (with_register held (Some r))) (item_register l item) next e
    (λ r found made.
    ap (knows_optional pairs) (ap (λ (h : Held). h.register) (sym (same_Some (with_register held (Some r)) next made))) ∙ register_known pairs l item r found i)
put_known pairs held next slot.Number item e i k = number_known pairs held next (λ n. with_number held (Some n)) (number_in item) (λ n. refl) e k
put_known pairs held next slot.Index item e i k = number_known pairs held next (λ n. with_number held (Some n)) (number_in item) (λ n. refl) e k
put_known pairs held next slot.Condition item e i k =
    option_and_then_some (λ text. option_and_then (λ n. Some (with_number held (Some (pos n)))) (condition_of text)) (word_in item) next e
    (λ text is_text some. number_known pairs held next (λ n. with_number held (Some (pos n))) (condition_of text) (λ n. refl) some k)

-- What an operand took is known, and what it left.
record FrontKnown (pairs : List Pair) (t : Taken) : Type 0 where
  held : knows_held pairs t.held ≡ true
  rest : list_all (knows_item pairs) t.rest ≡ true

front_known : (pairs : List Pair) (held : Held) (slots : List Slot) (items : List Item) (t : Taken) → front held slots items ≡ Some t
    → list_all (knows_item pairs) items ≡ true → knows_held pairs held ≡ true → FrontKnown pairs t
unfolding front
front_known pairs held [] items t e i k =
    subst (λ (v : Taken). FrontKnown pairs v) (same_Some (let made : Taken = record { held = held; rest = items } in made) t e) (record { held = k; rest = i })
front_known pairs held (s ∷ slots) [] t e i k = absurd cc
front_known pairs held (s ∷ slots) (item ∷ items) t e i k =
    let parts = and_parts (knows_item pairs item) (list_all (knows_item pairs) items) i in
    option_and_then_some (λ next. front next slots items) (put held s item) t e
    (λ next took rest. front_known pairs next slots items t rest parts.1 (put_known pairs held next s item took parts.0 k))

ended_is : (items : List Item) (helds kept : List Held) → ended items helds ≡ Some kept → helds ≡ kept
ended_is [] helds kept e = same_Some helds kept e
ended_is (item ∷ items) helds kept e = absurd cc

five_known : (pairs : List Pair) (a b c d f : Held) → knows_held pairs a ≡ true → knows_held pairs b ≡ true → knows_held pairs c ≡ true → knows_held pairs d ≡ true → knows_held pairs f ≡ true
    → list_all (knows_held pairs) (a ∷ b ∷ c ∷ d ∷ f ∷ []) ≡ true
five_known pairs a b c d f h i j k l =
    more (knows_held pairs a) _ h (more (knows_held pairs b) _ i (more (knows_held pairs c) _ j (more (knows_held pairs d) _ k (more (knows_held pairs f) true l refl))))
  where
    more : (x y : Bool) → x ≡ true → y ≡ true → (x && y) ≡ true
    more x y e f = ap (λ b. b && y) e ∙ f

-- What fills a row is known.
pub fill_known : (pairs : List Pair) (row : Row) (items : List Item) (helds : List Held) → fill row items ≡ Some helds → list_all (knows_item pairs) items ≡ true
    → list_all (knows_held pairs) helds ≡ true
unfolding fill
fill_known pairs row items helds e i =
    option_and_then_some _ (front empty (slots_of slot.Gap row.first.shape) items) helds e
    (λ first e1 r1. let k1 = front_known pairs empty (slots_of slot.Gap row.first.shape) items first e1 i refl in
    option_and_then_some _ (front empty (slots_of comma row.second.shape) first.rest) helds r1
    (λ second e2 r2. let k2 = front_known pairs empty (slots_of comma row.second.shape) first.rest second e2 k1.rest refl in
    option_and_then_some _ (front empty (slots_of comma row.third.shape) second.rest) helds r2
    (λ third e3 r3. let k3 = front_known pairs empty (slots_of comma row.third.shape) second.rest third e3 k2.rest refl in
    option_and_then_some _ (front empty (slots_of comma row.fourth.shape) third.rest) helds r3
    (λ fourth e4 r4. let k4 = front_known pairs empty (slots_of comma row.fourth.shape) third.rest fourth e4 k3.rest refl in
    option_and_then_some _ (front empty (slots_of comma row.fifth.shape) fourth.rest) helds r4
    (λ fifth e5 r5. let k5 = front_known pairs empty (slots_of comma row.fifth.shape) fourth.rest fifth e5 k4.rest refl in
    subst (λ (v : List Held). list_all (knows_held pairs) v ≡ true) (ended_is fifth.rest _ helds r5)
    (five_known pairs first.held second.held third.held fourth.held fifth.held k1.held k2.held k3.held k4.held k5.held))))))

-- ---- what is kept

at_known : (pairs : List Pair) (helds : List Held) (k : ℕ) → list_all (knows_held pairs) helds ≡ true → knows_held pairs (held_at helds k) ≡ true
at_known pairs [] k e = refl
at_known pairs (held ∷ helds) zero e = (and_parts (knows_held pairs held) (list_all (knows_held pairs) helds) e).0
at_known pairs (held ∷ helds) (suc k) e = at_known pairs helds k (and_parts (knows_held pairs held) (list_all (knows_held pairs) helds) e).1

set_known : (pairs : List Pair) (helds : List Held) (k : ℕ) (held : Held) → list_all (knows_held pairs) helds ≡ true → knows_held pairs held ≡ true
    → list_all (knows_held pairs) (slice_set helds k held) ≡ true
set_known pairs [] k held e h = refl
set_known pairs (first ∷ helds) zero held e h =
    ap (λ b. b && list_all (knows_held pairs) helds) h ∙ (and_parts (knows_held pairs first) (list_all (knows_held pairs) helds) e).1
set_known pairs (first ∷ helds) (suc k) held e h =
    let parts = and_parts (knows_held pairs first) (list_all (knows_held pairs) helds) e in
    ap (λ b. b && list_all (knows_held pairs) (slice_set helds k held)) parts.0 ∙ set_known pairs helds k held parts.1 h

either_known : (pairs : List Pair) (b : Bool) (a c : Fit) → list_all (knows_held pairs) a.helds ≡ true → list_all (knows_held pairs) c.helds ≡ true
    → list_all (knows_held pairs) (let f : Fit = cond b a c in f).helds ≡ true
either_known pairs true a c e f = e
either_known pairs false a c e f = f

-- What is kept of what is known is known.
pub settled_known : (pairs : List Pair) (a : Alias) (fit : Fit) → list_all (knows_held pairs) fit.helds ≡ true → list_all (knows_held pairs) (settled a fit).helds ≡ true
unfolding settled
settled_known pairs alias.Own fit e = e
settled_known pairs (alias.As form) fit e = e
settled_known pairs (alias.Repeat form) fit e =
    five_known pairs (held_at fit.helds 0) (held_at fit.helds 0) (held_at fit.helds 1) (held_at fit.helds 2) (held_at fit.helds 3)
    (at_known pairs fit.helds 0 e) (at_known pairs fit.helds 0 e) (at_known pairs fit.helds 1 e) (at_known pairs fit.helds 2 e) (at_known pairs fit.helds 3 e)
settled_known pairs (alias.ZeroAs form place) fit e =
    let left : Fit = record { form = form; helds = without_number fit.helds place } in
    either_known pairs (is_zero (held_at fit.helds place).number) left fit
    (set_known pairs fit.helds place _ e (at_known pairs fit.helds place e)) e
