-- What was read of a row is read too with other registers of the operands' classes: there are words for it.
use Rattle.std.proofs.Common.{◌≡◌, ◌∙◌, sym, ap, refl, ℕ, ◌-◌, ◌==◌, ◌&&◌, Bool, true, false, not, cond, List, [], ◌∷◌}
use Rattle.std.specs.Prelude.{pos, Option, Some, None, is_some, slice_get, unwrap_or, Result, Ok, Err}
use Rattle.std.specs.List.{list_all}
use Rattle.std.proofs.lemmas.Bool.{and_parts, not-true}
use Rattle.sl_model.specs.declared.text.Comments.TheVariants.{Slash}
use Rattle.sl_model.specs.declared.register.Reg.{Reg}
use Rattle.sl_model.specs.declared.instruction.Instr.{Instr}
use Rattle.sl_model.specs.Token.{Lexeme}
use Rattle.sl_isa.specs.Symbols.{Pair, have_pairs}
use Rattle.form_table.specs.Symbols.{pairs_in}
use Rattle.sl_isa.specs.declared.reasons.FormReason.{FormReason}
use Rattle.sl_isa.specs.declared.reasons.FormReason.TheVariants.{ImmediateRange, RegisterClass, SameRegister}
use Rattle.form_table.specs.Rows.{row_operands}
use Rattle.form_table.specs.Reads.{settled, number_suits, numbers_suit, sum_suits, register_suits, registers_suit, number_at, repeats, results, shares_base, instr_of, judged, reads}
use Rattle.form_table.specs.Printed.{helds_in}
use Rattle.form_table.specs.Tables.{all_differ, all_kept, is_row, all_rows, is_table, all_led, is_readable, spells_class, spell_classes}
use Rattle.form_table.specs.declared.rows.Operand.{Operand}
use Rattle.form_table.specs.declared.rows.Row.{Row}
use Rattle.form_table.specs.declared.spells.Held.{Held}
use Rattle.form_table.specs.declared.reader.Fit.{Fit}
use Rattle.form_table.proofs.Again.{Shaped, helds_again}
use Rattle.form_table.proofs.Filled.{Filled}
use Rattle.form_table.proofs.Printable.{filled_places}
use Rattle.form_table.proofs.ReadAgain.{IsReadAgain, IsReadBy, not_refused, judged_is, rows_at, kept_again}
use Rattle.form_table.proofs.PrintedWords.{GivesWords, row_words}
use Rattle.form_table.proofs.Spelled.{led_at}
use Rattle.form_table.proofs.Names.{knows_pair, knows_optional, knows_held}
use Rattle.form_table.proofs.Swapped.{is_plain_register, is_plain, renamed_fills}
use Rattle.sl_laws.proofs.Tests.{then_parts}

-- Operands hold the same numbers as others.
abbrev pub SameNumbers : List Held → List Held → Type 0
SameNumbers [] [] = Unit {0}
SameNumbers [] (new ∷ news) = ⊥
SameNumbers (old ∷ olds) [] = ⊥
SameNumbers (old ∷ olds) (new ∷ news) = (new.number ≡ old.number) × SameNumbers olds news

renamed_filled : (operands : List Operand) (olds news : List Held) → spell_classes operands ≡ true → Filled operands olds → Shaped operands news
    → SameNumbers olds news → registers_suit operands news ≡ true → list_all is_plain news ≡ true → Filled operands news
unfolding registers_suit
renamed_filled [] [] [] spell f shaped same suit plain = tt
renamed_filled [] [] (new ∷ news) spell f shaped same suit plain = absurd same
renamed_filled [] (old ∷ olds) news spell f shaped same suit plain = absurd f
renamed_filled (operand ∷ operands) [] news spell f shaped same suit plain = absurd f
renamed_filled (operand ∷ operands) (old ∷ olds) [] spell f shaped same suit plain = absurd same
renamed_filled (operand ∷ operands) (old ∷ olds) (new ∷ news) spell f shaped same suit plain =
    let one = then_parts (spells_class operand.shape operand.class) (spell_classes operands) spell in
    let two = then_parts (register_suits operand new.register) (registers_suit operands news) suit in
    let three = and_parts (is_plain new) (list_all is_plain news) plain in
    (renamed_fills operand old new one.0 f.0 shaped.0 same.0 two.0 three.0, renamed_filled operands olds news one.1 f.1 shaped.1 same.1 two.1 three.1)

-- the numbers are taken
same_suit : (operands : List Operand) (olds news : List Held) → SameNumbers olds news → numbers_suit operands news ≡ numbers_suit operands olds
unfolding numbers_suit
same_suit [] olds news same = refl
same_suit (operand ∷ operands) [] [] same = refl
same_suit (operand ∷ operands) [] (new ∷ news) same = absurd same
same_suit (operand ∷ operands) (old ∷ olds) [] same = absurd same
same_suit (operand ∷ operands) (old ∷ olds) (new ∷ news) same =
    ap (λ n. cond (number_suits operand n) (numbers_suit operands news) false) same.0
    ∙ ap (λ b. cond (number_suits operand old.number) b false) (same_suit operands olds news same.1)

-- each number is the same
pub same_number : (place : ℕ) (olds news : List Held) → SameNumbers olds news → number_at place news ≡ number_at place olds
unfolding number_at
same_number place [] [] same = refl
same_number place [] (new ∷ news) same = absurd same
same_number place (old ∷ olds) [] same = absurd same
same_number place (old ∷ olds) (new ∷ news) same =
    ap (λ n. cond (is_some n) (cond (place == 0) (unwrap_or n (pos 0)) (number_at (place - 1) news)) (number_at place news)) same.0
    ∙ ap (λ n. cond (is_some old.number) (cond (place == 0) (unwrap_or old.number (pos 0)) n) (number_at place news)) (same_number (place - 1) olds news same.1)
    ∙ ap (λ n. cond (is_some old.number) (cond (place == 0) (unwrap_or old.number (pos 0)) (number_at (place - 1) olds)) n) (same_number place olds news same.1)

-- Operands of a row hold other registers of their classes, the machine's, with which it makes an instruction, and the same numbers.
pub record IsRenamed (row : Row) (olds news : List Held) : Type 0 where
  pub numbers : SameNumbers olds news
  pub shaped : Shaped (row_operands row) news
  pub registers : registers_suit (row_operands row) news ≡ true
  pub plain : list_all is_plain news ≡ true
  pub distinct : repeats (results row news) ≡ false
  pub apart : shares_base row news ≡ false

-- a test that is passed, and one that doesn't refuse
passes : (b : Bool) (reason : FormReason) (x y : Result Instr FormReason) → b ≡ true → x ≡ y → cond (not b) (Err reason) x ≡ y
passes b reason x y e f = ap (λ t. cond (not t) (Err reason) x) e ∙ f

passes_by : (b : Bool) (reason : FormReason) (x y : Result Instr FormReason) → b ≡ false → x ≡ y → cond b (Err reason) x ≡ y
passes_by b reason x y e f = ap (λ t. cond t (Err reason) x) e ∙ f

-- the tests of numbers that were passed
judged_numbers : (form : ℕ) (row : Row) (helds : List Held) (i : Instr) → judged form row helds ≡ Ok i
    → (numbers_suit (row_operands row) helds ≡ true) × (sum_suits row.sum (number_at 0 helds) (number_at 1 helds) ≡ true)
unfolding judged
judged_numbers form row helds i e =
    let one = not_refused (numbers_suit (row_operands row) helds) ImmediateRange _ i e in
    let two = not_refused (sum_suits row.sum (number_at 0 helds) (number_at 1 helds)) ImmediateRange _ i one.1 in
    (one.0, two.0)

same_sum : (row : Row) (olds news : List Held) → SameNumbers olds news
    → sum_suits row.sum (number_at 0 news) (number_at 1 news) ≡ sum_suits row.sum (number_at 0 olds) (number_at 1 olds)
same_sum row olds news same =
    ap (λ n. sum_suits row.sum n (number_at 1 news)) (same_number 0 olds news same)
    ∙ ap (λ n. sum_suits row.sum (number_at 0 olds) n) (same_number 1 olds news same)

-- what is held anew is judged to be an instruction
judged_anew : (form : ℕ) (row : Row) (olds news : List Held) (i : Instr) → IsRenamed row olds news → judged form row olds ≡ Ok i
    → judged form row news ≡ Ok (instr_of form row news)
unfolding judged
judged_anew form row olds news i renamed e =
    let old = judged_numbers form row olds i e in
    passes (numbers_suit (row_operands row) news) ImmediateRange _ _ (same_suit (row_operands row) olds news renamed.numbers ∙ old.0)
    (passes (sum_suits row.sum (number_at 0 news) (number_at 1 news)) ImmediateRange _ _ (same_sum row olds news renamed.numbers ∙ old.1)
    (passes (registers_suit (row_operands row) news) RegisterClass _ _ renamed.registers
    (passes_by (repeats (results row news)) SameRegister _ _ renamed.distinct
    (passes_by (shares_base row news) SameRegister _ _ renamed.apart refl))))

-- a form with what its operands hold
abbrev pub fit_with : ℕ → List Held → Fit
fit_with form helds = record { form = form; helds = helds }

-- registers of the machine need no names
plain_known : (o : Option Reg) → is_plain_register o ≡ true → knows_optional [] o ≡ true
plain_known None e = refl
plain_known (Some r) e = ap (λ b. cond b (knows_pair [] r.bank r.number (slice_get [] r.number)) true) (not-true r.symbolic e)

all_plain_known : (helds : List Held) → list_all is_plain helds ≡ true → list_all (knows_held []) helds ≡ true
all_plain_known [] e = refl
all_plain_known (held ∷ helds) e =
    let parts = and_parts (is_plain held) (list_all is_plain helds) e in
    ap (λ b. b && list_all (knows_held []) helds) (plain_known held.register parts.0) ∙ all_plain_known helds parts.1

-- The instruction of a row that was read is read with other registers of the operands' classes.
pub renamed_read : (table : List Row) (pairs : List Pair) (i : Instr) (r : IsReadBy table pairs i) (news : List Held) → spell_classes (row_operands r.kept.row) ≡ true
    → IsRenamed r.kept.row r.fit.helds news → settled r.kept.row.alias (fit_with r.fit.form news) ≡ fit_with r.fit.form news
    → IsReadBy table [] (instr_of r.fit.form r.kept.row news)
renamed_read table pairs i r news spell renamed stays = record {
  fit = fit_with r.fit.form news;
  kept = record {
    row = r.kept.row;
    at = r.kept.at;
    filled = renamed_filled (row_operands r.kept.row) r.fit.helds news spell r.kept.filled renamed.shaped renamed.numbers renamed.registers renamed.plain;
    stays = stays;
  };
  judges = judged_anew r.fit.form r.kept.row r.fit.helds news i renamed r.judges;
  known = all_plain_known news renamed.plain;
}

-- The operands of an instruction that was read hold what they held when it was made.
pub held_again : (table : List Row) (pairs : List Pair) (i : Instr) (r : IsReadBy table pairs i) → is_table table ≡ true → helds_in i (row_operands r.kept.row) 0 0 0 ≡ r.fit.helds
held_again table pairs i r tests =
    let row : Row = r.kept.row in
    let one = then_parts (all_differ table) (cond (all_kept table table) (all_rows table) false) tests in
    let two = then_parts (all_kept table table) (all_rows table) one.1 in
    let fine : is_row row ≡ true = rows_at table r.fit.form row two.1 r.kept.at in
    ap (λ (j : Instr). helds_in j (row_operands row) 0 0 0) (sym (judged_is r.fit.form row r.fit.helds i r.judges).1)
    ∙ helds_again r.fit.form row r.fit.helds (filled_places row r.fit.helds fine r.kept.filled)

-- Words that are read as an instruction, with the symbolic registers of these pairs alone.
pub record HasWords (table : List Row) (pairs : List Pair) (i : Instr) : Type 0 where
  pub words : List Lexeme
  pub known : have_pairs (pairs_in words) pairs ≡ true
  pub read : reads table pairs words ≡ Ok i

-- There are words for what is read so.
pub words_of : (table : List Row) (pairs : List Pair) (i : Instr) → is_readable table ≡ true → IsReadBy table pairs i → HasWords table pairs i
unfolding pairs_in
words_of table pairs i tests r =
    let parts = then_parts (is_table table) (all_led table) tests in
    let again : IsReadAgain table pairs i = kept_again table pairs r.fit i parts.0 r.kept r.judges r.known in
    let led = led_at table i.form again.row parts.1 again.at in
    let given : GivesWords pairs again.row again.helds Slash 0 [] = row_words pairs again.row again.helds Slash 0 [] led again.printable refl in
    record {
      words = given.first ∷ given.rest;
      known = given.known;
      read = again.again given.first given.rest given.kind given.text given.whole given.items;
    }
