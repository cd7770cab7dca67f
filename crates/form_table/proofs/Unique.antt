-- No words fit two rows of a table that passes the test: the row that fits is the one that is found.
use Rattle.std.proofs.Common.{◌≡◌, ◌∙◌, sym, ap, subst, ℕ, zero, suc, ◌+◌, ◌==◌, Bool, true, false, not, cond, List, [], ◌∷◌, ◌++◌, arith, refl, ◌⊎◌, inl, inr}
use Rattle.std.specs.Prelude.{Option, Some, None, option_and_then, slice_get, codes}
use Rattle.std.specs.Str.{str_to_ascii_lowercase, str_eq_ignore_ascii_case}
use Rattle.std.specs.Char.{to_ascii_lowercase}
use Rattle.std.proofs.Math.Logic.{⊎_elim}
use Rattle.std.proofs.lemmas.Bool.{cases_Bool, false≢true}
use Rattle.std.proofs.lemmas.Bool.Decides.{Decides-eqb, nat_tests}
use Rattle.std.proofs.lemmas.Option.{option_and_then_some, cond_some, same_Some}
use Rattle.std.proofs.lemmas.Slice.Eq.{bytes_eq-Decides}
use Rattle.sl_model.specs.declared.register.Bank.{Bank}
use Rattle.sl_model.specs.declared.register.Bank.TheVariants.{General, Vector}
use Rattle.sl_model.specs.declared.register.Reg.{Reg}
use Rattle.sl_model.specs.Digits.{decimal_number, digits_number}
use Rattle.form_table.specs.Numerals.{decimal_value}
use Rattle.form_table.specs.Items.{Item, blank, mark, word, symbol, numeral}
use Rattle.form_table.specs.Rows.{name_text, mnemonic_text, slots_of, row_slots}
use Rattle.form_table.specs.Spells.{Taken, numbered, below_count, unless_r13, register_of, symbolic_reg, item_register, empty, put, front, ended, comma, fill}
use Rattle.form_table.specs.Reads.{has_mnemonic, fit_row, fit_or, fit_from}
use Rattle.form_table.specs.Symbols.{letter_code}
use Rattle.form_table.specs.Tables.{slot_kind, is_plain, letters_differ, same_kind_differ, slots_differ, spellings_differ, rows_differ, differs_from, all_differ}
use Rattle.form_table.specs.declared.rows.Letter.{Letter}
use Rattle.form_table.specs.declared.rows.Letter.TheVariants as letter
use Rattle.form_table.specs.declared.rows.Name.{Name}
use Rattle.form_table.specs.declared.rows.Slot.{Slot}
use Rattle.form_table.specs.declared.rows.Slot.TheVariants as slot
use Rattle.form_table.specs.declared.rows.Row.{Row}
use Rattle.form_table.specs.declared.spells.Held.{Held}
use Rattle.sl_laws.proofs.Tests.{then_parts}

-- the first character of a word, and 0 of an empty one
abbrev pub first_of : List ℕ → ℕ
first_of [] = 0
first_of (c ∷ text) = c

-- the same in lower case
abbrev pub head_of : List ℕ → ℕ
head_of text = first_of (str_to_ascii_lowercase text)

-- a test that holds one way holds of both
pub test_then : {A : Type 0} (b : Bool) (o : Option A) (r : A) → cond b o None ≡ Some r → (b ≡ true) × (o ≡ Some r)
test_then true o r e = (refl, e)
test_then false o r e = absurd cc

-- a register that is spelled by a number begins with its letter
numbered_head : (bank : Bank) (letter count : ℕ) (text : List ℕ) (r : Reg) → numbered bank letter count text ≡ Some r → head_of text ≡ letter
unfolding numbered
numbered_head bank letter count [] r e = absurd cc
numbered_head bank letter count (c ∷ digits) r e =
    (Decides-eqb (to_ascii_lowercase c) letter).0
    (test_then (to_ascii_lowercase c == letter) (option_and_then (λ n. below_count bank count n) (decimal_value digits)) r e).0

-- words that are the same in lower case
pub same_lower : (a b : List ℕ) → str_eq_ignore_ascii_case a b ≡ true → str_to_ascii_lowercase a ≡ str_to_ascii_lowercase b
same_lower a b e = (bytes_eq-Decides (str_to_ascii_lowercase a) (str_to_ascii_lowercase b)).0 e

pub lower_same : (a b : List ℕ) → str_to_ascii_lowercase a ≡ str_to_ascii_lowercase b → str_eq_ignore_ascii_case a b ≡ true
lower_same a b e = (bytes_eq-Decides (str_to_ascii_lowercase a) (str_to_ascii_lowercase b)).1 e

head_as : (text name : List ℕ) → str_eq_ignore_ascii_case text name ≡ true → head_of text ≡ head_of name
head_as text name e = ap first_of (same_lower text name e)

-- what two tests give that stand one behind the other
pub either : {A : Type 0} (b : Bool) (x : A) (o : Option A) (r : A) → cond b (Some x) o ≡ Some r → (b ≡ true) ⊎ (o ≡ Some r)
either true x o r e = inl refl
either false x o r e = inr e

-- `sp` names no register of 32 bits
no_digit_p : (d : ℕ) → to_ascii_lowercase d ≡ 112 → decimal_value (d ∷ []) ≡ None
unfolding decimal_value decimal_number digits_number
no_digit_p d e = grind (arith, nat_tests)

none_of : {A B : Type 0} (b : Bool) (f : A → Option B) (o : Option A) → o ≡ None → cond b (option_and_then f o) None ≡ None
none_of true f o e = ap (option_and_then f) e
none_of false f o e = refl

no_some : (r : Reg) → (let o : Option Reg = None in o ≡ Some r) → ⊥
no_some r e = absurd cc

s_no_sp : (text : List ℕ) (r : Reg) → str_to_ascii_lowercase text ≡ codes "sp" → numbered Vector 115 32 text ≡ Some r → ⊥
unfolding numbered
s_no_sp [] r same e = absurd cc
s_no_sp (c ∷ []) r same e = absurd cc
s_no_sp (c ∷ d ∷ f ∷ text) r same e = absurd cc
s_no_sp (c ∷ d ∷ []) r same e =
    let low : to_ascii_lowercase d ≡ 112 = cc in
    let none = none_of (to_ascii_lowercase c == 115) (λ n. below_count Vector 32 n) (decimal_value (d ∷ [])) (no_digit_p d low) in
    absurd (no_some r (sym none ∙ e))

-- plain registers begin with their letters
plain_head : (a : Letter) (text : List ℕ) (r : Reg) → is_plain a ≡ true → register_of a text ≡ Some r → head_of text ≡ letter_code a
unfolding register_of
plain_head letter.X text r p e = absurd cc
plain_head letter.R text r p e = absurd cc
plain_head letter.W text r p e = ⊎_elim (head_as text (codes "wzr")) (numbered_head General 119 31 text r) (either _ _ (numbered General 119 31 text) r e)
plain_head letter.V text r p e = numbered_head Vector 118 32 text r e
plain_head letter.Q text r p e = numbered_head Vector 113 32 text r e
plain_head letter.D text r p e = numbered_head Vector 100 32 text r e
plain_head letter.S text r p e = numbered_head Vector 115 32 text r e

-- and none of them is `sp`
plain_no_sp : (a : Letter) (text : List ℕ) (r : Reg) → is_plain a ≡ true → register_of a text ≡ Some r → str_to_ascii_lowercase text ≡ codes "sp" → ⊥
unfolding register_of
plain_no_sp letter.X text r p e same = absurd cc
plain_no_sp letter.R text r p e same = absurd cc
plain_no_sp letter.W text r p e same = let h = plain_head letter.W text r p e in let k : head_of text ≡ 115 = ap first_of same in absurd (let both : 119 ≡ 115 = sym h ∙ k in omega (arith, both))
plain_no_sp letter.V text r p e same = let h = plain_head letter.V text r p e in let k : head_of text ≡ 115 = ap first_of same in absurd (let both : 118 ≡ 115 = sym h ∙ k in omega (arith, both))
plain_no_sp letter.Q text r p e same = let h = plain_head letter.Q text r p e in let k : head_of text ≡ 115 = ap first_of same in absurd (let both : 113 ≡ 115 = sym h ∙ k in omega (arith, both))
plain_no_sp letter.D text r p e same = let h = plain_head letter.D text r p e in let k : head_of text ≡ 115 = ap first_of same in absurd (let both : 100 ≡ 115 = sym h ∙ k in omega (arith, both))
plain_no_sp letter.S text r p e same = s_no_sp text r same e

unless_r13_head : (o : Option Reg) (text : List ℕ) (r : Reg) → ((q : Reg) → o ≡ Some q → head_of text ≡ 114) → unless_r13 o ≡ Some r → head_of text ≡ 114
unless_r13_head None text r h e = absurd cc
unless_r13_head (Some q) text r h e = h q refl

-- the letters with other names beside
odd_head : (b : Letter) (text : List ℕ) (r : Reg) → is_plain b ≡ false → register_of b text ≡ Some r →
    ((head_of text ≡ 120) ⊎ (head_of text ≡ 114)) ⊎ ((head_of text ≡ 108) ⊎ (str_to_ascii_lowercase text ≡ codes "sp"))
unfolding register_of
odd_head letter.X text r p e =
    ⊎_elim (λ (h : str_eq_ignore_ascii_case text (codes "xzr") ≡ true). inl (inl (head_as text (codes "xzr") h)))
    (λ e'. ⊎_elim (λ (h : str_eq_ignore_ascii_case text (codes "sp") ≡ true). inr (inr (same_lower text (codes "sp") h)))
    (λ (h : numbered General 120 31 text ≡ Some r). inl (inl (numbered_head General 120 31 text r h)))
    (either (str_eq_ignore_ascii_case text (codes "sp")) _ (numbered General 120 31 text) r e'))
    (either (str_eq_ignore_ascii_case text (codes "xzr")) _ _ r e)
odd_head letter.R text r p e =
    ⊎_elim (λ (h : str_eq_ignore_ascii_case text (codes "lr") ≡ true). inr (inl (head_as text (codes "lr") h)))
    (λ e'. ⊎_elim (λ (h : str_eq_ignore_ascii_case text (codes "sp") ≡ true). inr (inr (same_lower text (codes "sp") h)))
    (λ (h : unless_r13 (numbered General 114 15 text) ≡ Some r). inl (inr (unless_r13_head (numbered General 114 15 text) text r (λ q. numbered_head General 114 15 text q) h)))
    (either (str_eq_ignore_ascii_case text (codes "sp")) _ (unless_r13 (numbered General 114 15 text)) r e'))
    (either (str_eq_ignore_ascii_case text (codes "lr")) _ _ r e)
odd_head letter.W text r p e = absurd cc
odd_head letter.V text r p e = absurd cc
odd_head letter.Q text r p e = absurd cc
odd_head letter.D text r p e = absurd cc
odd_head letter.S text r p e = absurd cc

-- letters with differing spellings name no common word
not_same : (a b : ℕ) → not (a == b) ≡ true → a ≡ b → ⊥
not_same a b e h = grind (arith, nat_tests)

plain_code : (a : Letter) → is_plain a ≡ true → (letter_code a ≡ 120 → ⊥) × (letter_code a ≡ 114 → ⊥) × (letter_code a ≡ 108 → ⊥)
plain_code letter.X p = absurd cc
plain_code letter.R p = absurd cc
plain_code letter.W p = (λ h. omega (arith, h), λ h. omega (arith, h), λ h. omega (arith, h))
plain_code letter.V p = (λ h. omega (arith, h), λ h. omega (arith, h), λ h. omega (arith, h))
plain_code letter.Q p = (λ h. omega (arith, h), λ h. omega (arith, h), λ h. omega (arith, h))
plain_code letter.D p = (λ h. omega (arith, h), λ h. omega (arith, h), λ h. omega (arith, h))
plain_code letter.S p = (λ h. omega (arith, h), λ h. omega (arith, h), λ h. omega (arith, h))

plain_or_odd : (a b : Letter) (text : List ℕ) (r q : Reg) → is_plain a ≡ true → is_plain b ≡ false → register_of a text ≡ Some r → register_of b text ≡ Some q → ⊥
plain_or_odd a b text r q p o e f =
    let h = plain_head a text r p e in
    let far = plain_code a p in
    ⊎_elim
    (λ x. ⊎_elim (λ (k : head_of text ≡ 120). far.0 (sym h ∙ k)) (λ (k : head_of text ≡ 114). far.1 (sym h ∙ k)) x)
    (λ x. ⊎_elim (λ (k : head_of text ≡ 108). far.2 (sym h ∙ k)) (λ (k : str_to_ascii_lowercase text ≡ codes "sp"). plain_no_sp a text r p e k) x)
    (odd_head b text q o f)

pub cond_true : (b : Bool) (x y : Bool) → b ≡ true → cond b x y ≡ x
cond_true true x y e = refl
cond_true false x y e = absurd cc

pub cond_false : (b : Bool) (x y : Bool) → b ≡ false → cond b x y ≡ y
cond_false true x y e = absurd cc
cond_false false x y e = refl

letters_clash : (a b : Letter) (text : List ℕ) (r q : Reg) → letters_differ a b ≡ true → register_of a text ≡ Some r → register_of b text ≡ Some q → ⊥
letters_clash a b text r q d e f =
    let test : Bool = not (letter_code a == letter_code b) in
    ⊎_elim
    (λ (p : is_plain a ≡ true).
    let differ : not (letter_code a == letter_code b) ≡ true = sym (cond_true (is_plain a) test (cond (is_plain b) test false) p) ∙ d in
    ⊎_elim
    (λ (o : is_plain b ≡ true). not_same (letter_code a) (letter_code b) differ (sym (plain_head a text r p e) ∙ plain_head b text q o f))
    (λ (o : is_plain b ≡ false). plain_or_odd a b text r q p o e f)
    (cases_Bool (is_plain b)))
    (λ (p : is_plain a ≡ false).
    let second : cond (is_plain b) test false ≡ true = sym (cond_false (is_plain a) test (cond (is_plain b) test false) p) ∙ d in
    ⊎_elim
    (λ (o : is_plain b ≡ true). plain_or_odd b a text q r o p f e)
    (λ (o : is_plain b ≡ false). false≢true (sym (cond_false (is_plain b) test false o) ∙ second))
    (cases_Bool (is_plain b)))
    (cases_Bool (is_plain a))

-- the kind of an item
abbrev pub item_kind : Item → ℕ
item_kind blank = 0
item_kind (mark c) = 1
item_kind (word text) = 2
item_kind (symbol l n) = 2
item_kind (numeral n) = 3

-- a slot takes items of its kind
put_kind : (held next : Held) (s : Slot) (item : Item) → put held s item ≡ Some next → item_kind item ≡ slot_kind s
unfolding put item_register
put_kind held next slot.Gap blank e = refl
put_kind held next slot.Gap (mark c) e = absurd cc
put_kind held next slot.Gap (word text) e = absurd cc
put_kind held next slot.Gap (symbol l n) e = absurd cc
put_kind held next slot.Gap (numeral n) e = absurd cc
put_kind held next (slot.Mark code) blank e = absurd cc
put_kind held next (slot.Mark code) (mark c) e = refl
put_kind held next (slot.Mark code) (word text) e = absurd cc
put_kind held next (slot.Mark code) (symbol l n) e = absurd cc
put_kind held next (slot.Mark code) (numeral n) e = absurd cc
put_kind held next (slot.Name name) blank e = absurd cc
put_kind held next (slot.Name name) (mark c) e = absurd cc
put_kind held next (slot.Name name) (word text) e = refl
put_kind held next (slot.Name name) (symbol l n) e = absurd cc
put_kind held next (slot.Name name) (numeral n) e = absurd cc
put_kind held next (slot.Register letter) blank e = absurd cc
put_kind held next (slot.Register letter) (mark c) e = absurd cc
put_kind held next (slot.Register letter) (word text) e = refl
put_kind held next (slot.Register letter) (symbol l n) e = refl
put_kind held next (slot.Register letter) (numeral n) e = absurd cc
put_kind held next slot.Number blank e = absurd cc
put_kind held next slot.Number (mark c) e = absurd cc
put_kind held next slot.Number (word text) e = absurd cc
put_kind held next slot.Number (symbol l n) e = absurd cc
put_kind held next slot.Number (numeral n) e = refl
put_kind held next slot.Index blank e = absurd cc
put_kind held next slot.Index (mark c) e = absurd cc
put_kind held next slot.Index (word text) e = absurd cc
put_kind held next slot.Index (symbol l n) e = absurd cc
put_kind held next slot.Index (numeral n) e = refl
put_kind held next slot.Condition blank e = absurd cc
put_kind held next slot.Condition (mark c) e = absurd cc
put_kind held next slot.Condition (word text) e = refl
put_kind held next slot.Condition (symbol l n) e = absurd cc
put_kind held next slot.Condition (numeral n) e = absurd cc

-- what slots of marks, names and registers took
put_mark : (held next : Held) (code : ℕ) (item : Item) → put held (slot.Mark code) item ≡ Some next → item ≡ mark code
unfolding put
put_mark held next code blank e = absurd cc
put_mark held next code (mark c) e = ap mark ((Decides-eqb c code).0 (cond_some (c == code) held next e).0)
put_mark held next code (word text) e = absurd cc
put_mark held next code (symbol l n) e = absurd cc
put_mark held next code (numeral n) e = absurd cc

-- the word of an item
abbrev pub text_of : Item → List ℕ
text_of blank = []
text_of (mark c) = []
text_of (word text) = text
text_of (symbol l n) = []
text_of (numeral n) = []

put_name : (held next : Held) (name : Name) (item : Item) → put held (slot.Name name) item ≡ Some next → str_eq_ignore_ascii_case (text_of item) (name_text name) ≡ true
unfolding put
put_name held next name blank e = absurd cc
put_name held next name (mark c) e = absurd cc
put_name held next name (word text) e = (cond_some (str_eq_ignore_ascii_case text (name_text name)) held next e).0
put_name held next name (symbol l n) e = absurd cc
put_name held next name (numeral n) e = absurd cc

-- An item is a register, where registers are spelled with a letter.
record IsNamed (letter : Letter) (item : Item) : Type 0 where
  register : Reg
  found : item_register letter item ≡ Some register

put_register : (held next : Held) (letter : Letter) (item : Item) → put held (slot.Register letter) item ≡ Some next → IsNamed letter item
unfolding put
put_register held next letter item e =
    option_and_then_some (λ r. Some (record { register = Some r; number = held.number })) (item_register letter item) next e
    (λ r found made. record { register = r; found = found })

-- letters that differ have differing codes
codes_differ : (a b : Letter) → letters_differ a b ≡ true → not (letter_code a == letter_code b) ≡ true
codes_differ a b d = by (is_plain a) (is_plain b) d
  where
    by : (p q : Bool) → cond p (not (letter_code a == letter_code b)) (cond q (not (letter_code a == letter_code b)) false) ≡ true → not (letter_code a == letter_code b) ≡ true
    by true q e = e
    by false true e = e
    by false false e = absurd cc

-- letters with differing spellings take no common item
items_clash : (a b : Letter) (item : Item) (r q : Reg) → letters_differ a b ≡ true → item_register a item ≡ Some r → item_register b item ≡ Some q → ⊥
unfolding item_register
items_clash a b blank r q d e f = no_some r e
items_clash a b (mark c) r q d e f = no_some r e
items_clash a b (word text) r q d e f = letters_clash a b text r q d e f
items_clash a b (symbol l n) r q d e f =
    let one = (Decides-eqb (letter_code l) (letter_code a)).0 (cond_some (letter_code l == letter_code a) (symbolic_reg a n) r e).0 in
    let two = (Decides-eqb (letter_code l) (letter_code b)).0 (cond_some (letter_code l == letter_code b) (symbolic_reg b n) q f).0 in
    not_same (letter_code a) (letter_code b) (codes_differ a b d) (sym one ∙ two)
items_clash a b (numeral n) r q d e f = no_some r e

mark_code : (a b : ℕ) → mark a ≡ mark b → a ≡ b
mark_code a b e = cc

-- slots of one kind that differ take no common item
same_kind_clash : (a b : Slot) (h k x y : Held) (item : Item) → same_kind_differ a b ≡ true → put h a item ≡ Some x → put k b item ≡ Some y → ⊥
same_kind_clash (slot.Mark code) (slot.Mark other) h k x y item d e f =
    not_same code other d (mark_code code other (sym (put_mark h x code item e) ∙ put_mark k y other item f))
same_kind_clash (slot.Name name) (slot.Name other) h k x y item d e f =
    let both = lower_same (name_text name) (name_text other) (sym (same_lower (text_of item) (name_text name) (put_name h x name item e)) ∙ same_lower (text_of item) (name_text other) (put_name k y other item f)) in
    false≢true (sym (ap not both) ∙ d)
same_kind_clash (slot.Register letter) (slot.Register other) h k x y item d e f =
    let one = put_register h x letter item e in
    let two = put_register k y other item f in
    items_clash letter other item one.register two.register d one.found two.found
same_kind_clash _ _ h k x y item d e f = false≢true d

slots_clash : (a b : Slot) (h k x y : Held) (item : Item) → slots_differ a b ≡ true → put h a item ≡ Some x → put k b item ≡ Some y → ⊥
slots_clash a b h k x y item d e f =
    let same : slot_kind a ≡ slot_kind b = sym (put_kind h x a item e) ∙ put_kind k y b item f in
    let test : (slot_kind a == slot_kind b) ≡ true = (Decides-eqb (slot_kind a) (slot_kind b)).1 same in
    same_kind_clash a b h k x y item (sym (cond_true (slot_kind a == slot_kind b) (same_kind_differ a b) true test) ∙ d) e f

-- items that fit slots, one each
abbrev pub Fitting : List Slot → List Item → Type 0
Fitting [] [] = Unit {0}
Fitting [] (item ∷ items) = ⊥
Fitting (s ∷ slots) [] = ⊥
Fitting (s ∷ slots) (item ∷ items) = ((held : Held) × (next : Held) × (put held s item ≡ Some next)) × Fitting slots items

fitting_clash : (first second : List Slot) (items : List Item) → spellings_differ first second ≡ true → Fitting first items → Fitting second items → ⊥
fitting_clash [] [] items d f g = false≢true d
fitting_clash [] (b ∷ bs) [] d f g = g
fitting_clash [] (b ∷ bs) (item ∷ items) d f g = f
fitting_clash (a ∷ rest) [] [] d f g = f
fitting_clash (a ∷ rest) [] (item ∷ items) d f g = g
fitting_clash (a ∷ rest) (b ∷ bs) [] d f g = f
fitting_clash (a ∷ rest) (b ∷ bs) (item ∷ items) d f g =
    ⊎_elim
    (λ (t : slots_differ a b ≡ true). slots_clash a b f.0.0 g.0.0 f.0.1 g.0.1 item t f.0.2 g.0.2)
    (λ (t : slots_differ a b ≡ false). fitting_clash rest bs items (sym (cond_false (slots_differ a b) true (spellings_differ rest bs) t) ∙ d) f.1 g.1)
    (cases_Bool (slots_differ a b))

append_nil : {A : Type 0} (xs : List A) → xs ++ [] ≡ xs
append_nil [] = refl
append_nil (x ∷ xs) = ap (λ ys. x ∷ ys) (append_nil xs)

-- what the slots of an operand take leaves what fits the slots behind them
front_fitting : (held : Held) (slots more : List Slot) (items : List Item) (t : Taken) → front held slots items ≡ Some t → Fitting more t.rest → Fitting (slots ++ more) items
unfolding front
front_fitting held [] more items t e f =
    let made : Taken = record { held = held; rest = items } in
    let same : made ≡ t = same_Some made t e in
    subst (λ (v : Taken). Fitting more v.rest) (sym same) f
front_fitting held (s ∷ slots) more [] t e f = absurd cc
front_fitting held (s ∷ slots) more (item ∷ items) t e f =
    option_and_then_some (λ next. front next slots items) (put held s item) t e
    (λ next took rest. ((held, next, took), front_fitting next slots more items t rest f))

ended_is : (items : List Item) (helds kept : List Held) → ended items helds ≡ Some kept → Fitting [] items
ended_is [] helds kept e = tt
ended_is (item ∷ items) helds kept e = absurd cc

last_fitting : (held : Held) (slots : List Slot) (items : List Item) (t : Taken) → front held slots items ≡ Some t → Fitting [] t.rest → Fitting slots items
last_fitting held slots items t e f = subst (λ (v : List Slot). Fitting v items) (append_nil slots) (front_fitting held slots [] items t e f)

-- what fills a row fits its slots
pub fill_fitting : (row : Row) (items : List Item) (helds : List Held) → fill row items ≡ Some helds → Fitting (row_slots row) items
unfolding fill
fill_fitting row items helds e =
    option_and_then_some _ (front empty (slots_of slot.Gap row.first.shape) items) helds e
    (λ first e1 r1. option_and_then_some _ (front empty (slots_of comma row.second.shape) first.rest) helds r1
    (λ second e2 r2. option_and_then_some _ (front empty (slots_of comma row.third.shape) second.rest) helds r2
    (λ third e3 r3. option_and_then_some _ (front empty (slots_of comma row.fourth.shape) third.rest) helds r3
    (λ fourth e4 r4. option_and_then_some _ (front empty (slots_of comma row.fifth.shape) fourth.rest) helds r4
    (λ fifth e5 r5.
    let end : Fitting [] fifth.rest = ended_is fifth.rest _ helds r5 in
    front_fitting empty (slots_of slot.Gap row.first.shape) _ items first e1
    (front_fitting empty (slots_of comma row.second.shape) _ first.rest second e2
    (front_fitting empty (slots_of comma row.third.shape) _ second.rest third e3
    (front_fitting empty (slots_of comma row.fourth.shape) _ third.rest fourth e4
    (last_fitting empty (slots_of comma row.fifth.shape) fourth.rest fifth e5 end)))))))))

-- a row that takes the items of a mnemonic
pub record IsFit (text : List ℕ) (items : List Item) (row : Row) (helds : List Held) : Type 0 where
  pub named : has_mnemonic text row ≡ true
  pub filled : fill row items ≡ Some helds

pub fit_row_is : (text : List ℕ) (items : List Item) (row : Row) (helds : List Held) → fit_row text items row ≡ Some helds → IsFit text items row helds
fit_row_is text items row helds e =
    let parts = test_then (has_mnemonic text row) (fill row items) helds e in
    record { named = parts.0; filled = parts.1 }

-- rows that differ take no common words
rows_clash : (row other : Row) (text : List ℕ) (items : List Item) (helds others : List Held) → rows_differ row other ≡ true →
    fit_row text items row ≡ Some helds → fit_row text items other ≡ Some others → ⊥
rows_clash row other text items helds others d e f =
    let one = fit_row_is text items row helds e in
    let two = fit_row_is text items other others f in
    let named : str_eq_ignore_ascii_case (mnemonic_text row) (mnemonic_text other) ≡ true =
    lower_same (mnemonic_text row) (mnemonic_text other) (sym (same_lower text (mnemonic_text row) one.named) ∙ same_lower text (mnemonic_text other) two.named) in
    fitting_clash (row_slots row) (row_slots other) items
    (sym (cond_true (str_eq_ignore_ascii_case (mnemonic_text row) (mnemonic_text other)) (spellings_differ (row_slots row) (row_slots other)) true named) ∙ d)
    (fill_fitting row items helds one.filled) (fill_fitting other items others two.filled)

differs_at : (row : Row) (rows : List Row) (k : ℕ) (other : Row) → differs_from row rows ≡ true → slice_get rows k ≡ Some other → rows_differ row other ≡ true
differs_at row [] k other d at = absurd cc
differs_at row (r ∷ rows) zero other d at =
    subst (λ v. rows_differ row v ≡ true) (same_Some r other at) (then_parts (rows_differ row r) (differs_from row rows) d).0
differs_at row (r ∷ rows) (suc k) other d at = differs_at row rows k other (then_parts (rows_differ row r) (differs_from row rows) d).1 at

pub none_or_some : {A : Type 0} (o : Option A) → (o ≡ None) ⊎ ((x : A) × (o ≡ Some x))
none_or_some None = inl refl
none_or_some (Some x) = inr (x, refl)

-- The row that fits is the one that is found, whatever its place.
pub fit_is_found : (form : ℕ) (table : List Row) (k : ℕ) (row : Row) (text : List ℕ) (items : List Item) (helds : List Held) → all_differ table ≡ true →
    slice_get table k ≡ Some row → fit_row text items row ≡ Some helds → fit_from form table text items ≡ Some (record { form = form + k; helds = helds })
unfolding fit_from
fit_is_found form [] k row text items helds d at fit = absurd cc
fit_is_found form (r ∷ rows) zero row text items helds d at fit =
    let here : fit_row text items r ≡ Some helds = subst (λ v. fit_row text items v ≡ Some helds) (sym (same_Some r row at)) fit in
    let same : form ≡ form + 0 = omega arith in
    ap (λ o. fit_or form o (fit_from (form + 1) rows text items)) here ∙ ap (λ n. Some (record { form = n; helds = helds })) same
fit_is_found form (r ∷ rows) (suc k) row text items helds d at fit =
    let parts = then_parts (differs_from r rows) (all_differ rows) d in
    let none : fit_row text items r ≡ None =
    ⊎_elim (λ e. e) (λ found. absurd (rows_clash r row text items found.0 helds (differs_at r rows k row parts.0 at) found.1 fit)) (none_or_some (fit_row text items r)) in
    let later = fit_is_found (form + 1) rows k row text items helds parts.1 at fit in
    let same : form + 1 + k ≡ form + suc k = omega arith in
    ap (λ o. fit_or form o (fit_from (form + 1) rows text items)) none ∙ (later ∙ ap (λ n. Some (record { form = n; helds = helds })) same)
