-- The names of symbolic registers: a number's pair has a word for a name, and is the first of its kind.
use Rattle.std.proofs.Common.{◌≡◌, ◌∙◌, ap, refl, ℕ, ◌==◌, Bool, true, false, cond, List, eqb-true, eq-eqb}
use Rattle.std.specs.Prelude.{Option, Some, None, slice_get}
use Rattle.sl_model.specs.declared.register.Bank.{Bank}
use Rattle.sl_model.specs.declared.register.Reg.{Reg}
use Rattle.sl_model.specs.Register.{bank_number}
use Rattle.sl_isa.specs.Symbols.{Pair, has_pair, number_of}
use Rattle.sl_isa.proofs.ForCallers.{number_of-at}
use Rattle.form_table.specs.Symbols.{letter_bank, is_word_text}
use Rattle.form_table.specs.Items.{Item, blank, mark, word, symbol, numeral}
use Rattle.form_table.specs.declared.spells.Held.{Held}
use Rattle.sl_laws.proofs.Tests.{then_parts}

-- Is there a pair of a bank, whose name is a word, and is a number the pair's?
abbrev pub knows_pair : List Pair → Bank → ℕ → Option Pair → Bool
knows_pair pairs bank n None = false
knows_pair pairs bank n (Some pair) =
    cond (bank_number pair.0 == bank_number bank)
    (cond (is_word_text pair.1) (cond (has_pair bank pair.1 pairs) (number_of bank pair.1 pairs == n) false) false) false

-- Is a register one of the machine, or has it the number of such a pair?
abbrev pub knows_register : List Pair → Reg → Bool
knows_register pairs r = cond r.symbolic (knows_pair pairs r.bank r.number (slice_get pairs r.number)) true

abbrev pub knows_item : List Pair → Item → Bool
knows_item pairs blank = true
knows_item pairs (mark c) = true
knows_item pairs (word text) = true
knows_item pairs (symbol letter n) = knows_pair pairs (letter_bank letter) n (slice_get pairs n)
knows_item pairs (numeral n) = true

abbrev pub knows_optional : List Pair → Option Reg → Bool
knows_optional pairs None = true
knows_optional pairs (Some r) = knows_register pairs r

abbrev pub knows_held : List Pair → Held → Bool
knows_held pairs held = knows_optional pairs held.register

-- What is known of a number.
pub record HasName (pairs : List Pair) (bank : Bank) (n : ℕ) : Type 0 where
  pub pair : Pair
  pub at : slice_get pairs n ≡ Some pair
  pub same_bank : bank_number pair.0 ≡ bank_number bank
  pub is_word : is_word_text pair.1 ≡ true
  pub has : has_pair bank pair.1 pairs ≡ true
  pub number : number_of bank pair.1 pairs ≡ n

pub name_of_number : (pairs : List Pair) (bank : Bank) (n : ℕ) → knows_pair pairs bank n (slice_get pairs n) ≡ true → HasName pairs bank n
name_of_number pairs bank n e = by (slice_get pairs n) refl e
  where
    by : (o : Option Pair) → slice_get pairs n ≡ o → knows_pair pairs bank n o ≡ true → HasName pairs bank n
    by None at e = absurd cc
    by (Some pair) at e =
        let numbers : Bool = number_of bank pair.1 pairs == n in
        let has : Bool = cond (has_pair bank pair.1 pairs) numbers false in
        let words : Bool = cond (is_word_text pair.1) has false in
        let one = then_parts (bank_number pair.0 == bank_number bank) words e in
        let two = then_parts (is_word_text pair.1) has one.1 in
        let three = then_parts (has_pair bank pair.1 pairs) numbers two.1 in
        record {
          pair = pair;
          at = at;
          same_bank = eqb-true _ _ one.0;
          is_word = two.0;
          has = three.0;
          number = eqb-true _ _ three.1;
        }

pub name_known : (pairs : List Pair) (bank : Bank) (n : ℕ) → HasName pairs bank n → knows_pair pairs bank n (slice_get pairs n) ≡ true
name_known pairs bank n h =
    let pair : Pair = h.pair in
    let numbers : Bool = number_of bank pair.1 pairs == n in
    let has : Bool = cond (has_pair bank pair.1 pairs) numbers false in
    let words : Bool = cond (is_word_text pair.1) has false in
    ap (knows_pair pairs bank n) h.at
    ∙ (ap (λ b. cond b words false) (eq-eqb _ _ h.same_bank)
    ∙ (ap (λ b. cond b has false) h.is_word
    ∙ (ap (λ b. cond b numbers false) h.has ∙ eq-eqb _ _ h.number)))

-- a word that is among pairs is known by its number
pub word_known : (pairs : List Pair) (bank : Bank) (name : List ℕ) → is_word_text name ≡ true → has_pair bank name pairs ≡ true
    → HasName pairs bank (number_of bank name pairs)
word_known pairs bank name is_word has =
    let f = number_of-at bank name pairs has in
    record {
      pair = f.pair;
      at = f.at;
      same_bank = f.bank_same;
      is_word = ap is_word_text f.name_same ∙ is_word;
      has = ap (λ text. has_pair bank text pairs) f.name_same ∙ has;
      number = ap (λ text. number_of bank text pairs) f.name_same;
    }
