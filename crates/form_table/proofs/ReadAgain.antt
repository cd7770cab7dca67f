-- What is printed of an instruction that was read is read as the same instruction again, from the items that it gives.
use Rattle.std.proofs.Common.{◌≡◌, ◌∙◌, sym, ap, subst, ℕ, zero, suc, ◌+◌, Bool, true, false, not, cond, List, [], ◌∷◌, arith, refl, ◌⊎◌, inl, inr}
use Rattle.std.specs.Prelude.{Option, Some, None, Result, Ok, Err, slice_get}
use Rattle.std.specs.List.{list_all, list_any}
use Rattle.std.specs.Str.{str_to_ascii_lowercase}
use Rattle.std.proofs.Math.Logic.{⊎_elim}
use Rattle.std.proofs.lemmas.Bool.{or_left, or_right}
use Rattle.sl_model.specs.declared.text.TokenKind.TheVariants as kind
use Rattle.sl_model.specs.declared.instruction.Instr.{Instr}
use Rattle.sl_model.specs.Token.{Lexeme}
use Rattle.sl_isa.specs.Symbols.{Pair}
use Rattle.sl_isa.specs.declared.reasons.FormReason.{FormReason}
use Rattle.sl_isa.specs.declared.reasons.FormReason.TheVariants.{UnknownMnemonic, ImmediateRange, RegisterClass, SameRegister}
use Rattle.form_table.specs.Items.{Item, items_from}
use Rattle.sl_model.specs.TokenTests.{is_word}
use Rattle.form_table.specs.Rows.{row_operands, mnemonic_text}
use Rattle.form_table.specs.Spells.{fill}
use Rattle.form_table.specs.Reads.{has_mnemonic, fit_row, fit_or, fit_from, settled, numbers_suit, sum_suits, registers_suit, number_at, repeats, results, shares_base, instr_of, judged, judged_at, settled_at, with_fit, is_suffixed, knows, reads}
use Rattle.form_table.specs.Printed.{row_text, row_printed, printed}
use Rattle.form_table.specs.Tables.{all_differ, all_kept, is_row, all_rows, is_table}
use Rattle.form_table.specs.declared.rows.Slot.TheVariants as slot
use Rattle.form_table.specs.declared.rows.Row.{Row}
use Rattle.form_table.specs.declared.spells.Held.{Held}
use Rattle.form_table.specs.declared.reader.Fit.{Fit}
use Rattle.form_table.proofs.Unique.{lower_same, fit_row_is, fit_is_found}
use Rattle.form_table.proofs.Again.{helds_again}
use Rattle.form_table.proofs.SlotItems.{operand_items, IsPrintable}
use Rattle.form_table.proofs.Filled.{Filled, fill_filled, filled_again}
use Rattle.form_table.proofs.Kept.{IsSettled, settled_is}
use Rattle.form_table.proofs.Printable.{filled_printable, filled_places}
use Rattle.form_table.proofs.Names.{knows_item, knows_held}
use Rattle.form_table.proofs.Known.{items_known, fill_known, settled_known}
use Rattle.sl_laws.proofs.Tests.{then_parts}

-- An instruction is printed by a row, with what its operands hold; and tokens that begin with its mnemonic and give its
-- items are read as the instruction.
pub record IsReadAgain (table : List Row) (pairs : List Pair) (i : Instr) : Type 0 where
  pub row : Row
  pub helds : List Held
  pub at : slice_get table i.form ≡ Some row
  pub text : printed table pairs i ≡ row_text pairs row helds
  pub printable : IsPrintable pairs row helds
  pub again : (first : Lexeme) (rest : List Lexeme) → first.kind ≡ kind.Word → first.text ≡ mnemonic_text row → is_suffixed first rest ≡ false →
      items_from pairs first 0 rest ≡ operand_items slot.Gap (row_operands row) helds → reads table pairs (first ∷ rest) ≡ Ok i

-- the row that was found
record IsFound (form : ℕ) (rows : List Row) (text : List ℕ) (items : List Item) (fit : Fit) : Type 0 where
  place : ℕ
  row : Row
  at : slice_get rows place ≡ Some row
  form_is : form + place ≡ fit.form
  took : fit_row text items row ≡ Some fit.helds

found_here : (form : ℕ) (row : Row) (rows : List Row) (text : List ℕ) (items : List Item) (helds : List Held) (fit : Fit) → fit_row text items row ≡ Some helds →
    (let here : Fit = record { form = form; helds = helds } in here ≡ fit) → IsFound form (row ∷ rows) text items fit
found_here form row rows text items helds fit took e =
    let start : form + 0 ≡ form = omega arith in
    record {
      place = 0;
      row = row;
      at = refl;
      form_is = start ∙ ap (λ (f : Fit). f.form) e;
      took = took ∙ ap (λ (f : Fit). Some f.helds) e;
    }

found_later : (form : ℕ) (row : Row) (rows : List Row) (text : List ℕ) (items : List Item) (fit : Fit) → IsFound (form + 1) rows text items fit → IsFound form (row ∷ rows) text items fit
found_later form row rows text items fit f =
    let place : ℕ = f.place in
    let next : form + suc place ≡ form + 1 + place = omega arith in
    record { place = suc f.place; row = f.row; at = f.at; form_is = next ∙ f.form_is; took = f.took }

-- the row that fits is here or further down
fit_or_cases : (form : ℕ) (o : Option (List Held)) (later : Option Fit) (fit : Fit) → fit_or form o later ≡ Some fit →
    ((helds : List Held) × ((o ≡ Some helds) × (let here : Fit = record { form = form; helds = helds } in here ≡ fit))) ⊎ (later ≡ Some fit)
fit_or_cases form None later fit e = inr e
fit_or_cases form (Some helds) later fit e = inl (helds, (refl, let here : Fit = record { form = form; helds = helds } in let same : here ≡ fit = cc in same))

fit_from_is : (form : ℕ) (rows : List Row) (text : List ℕ) (items : List Item) (fit : Fit) → fit_from form rows text items ≡ Some fit → IsFound form rows text items fit
unfolding fit_from
fit_from_is form [] text items fit e = absurd cc
fit_from_is form (row ∷ rows) text items fit e =
    ⊎_elim
    (λ found. found_here form row rows text items found.0 fit found.1.0 found.1.1)
    (λ later. found_later form row rows text items fit (fit_from_is (form + 1) rows text items fit later))
    (fit_or_cases form (fit_row text items row) (fit_from (form + 1) rows text items) fit e)

-- an answer is given where no test refuses
pub not_refused : (b : Bool) (reason : FormReason) (x : Result Instr FormReason) (i : Instr) → cond (not b) (Err reason) x ≡ Ok i → (b ≡ true) × (x ≡ Ok i)
not_refused true reason x i e = (refl, e)
not_refused false reason x i e = absurd cc

-- and where no test passes over it
pub passed : (b : Bool) (reason : FormReason) (x : Result Instr FormReason) (i : Instr) → cond b (Err reason) x ≡ Ok i → x ≡ Ok i
passed true reason x i e = absurd cc
passed false reason x i e = e

-- equal answers
pub same_Ok : (i j : Instr) → (let a : Result Instr FormReason = Ok i in a ≡ Ok j) → i ≡ j
same_Ok i j e = cc

pub judged_is : (form : ℕ) (row : Row) (helds : List Held) (i : Instr) → judged form row helds ≡ Ok i → (numbers_suit (row_operands row) helds ≡ true) × (instr_of form row helds ≡ i)
unfolding judged
judged_is form row helds i e =
    let one = not_refused (numbers_suit (row_operands row) helds) ImmediateRange _ i e in
    let two = not_refused (sum_suits row.sum (number_at 0 helds) (number_at 1 helds)) ImmediateRange _ i one.1 in
    let three = not_refused (registers_suit (row_operands row) helds) RegisterClass _ i two.1 in
    let four = passed (repeats (results row helds)) SameRegister _ i three.1 in
    let five = passed (shares_base row helds) SameRegister _ i four in
    (one.0, same_Ok (instr_of form row helds) i five)

-- the form of an instruction that was made
pub form_of : (form : ℕ) (row : Row) (helds : List Held) → (instr_of form row helds).form ≡ form
unfolding instr_of
form_of form row helds = refl

any_at : {A : Type 0} (test : A → Bool) (xs : List A) (k : ℕ) (x : A) → slice_get xs k ≡ Some x → test x ≡ true → list_any test xs ≡ true
any_at test [] k x at e = absurd cc
any_at test (y ∷ ys) zero x at e = or_left (test y) (list_any test ys) (subst (λ v. test v ≡ true) (let same : x ≡ y = cc in same) e)
any_at test (y ∷ ys) (suc k) x at e = or_right (test y) (list_any test ys) (any_at test ys k x at e)

-- a mnemonic that begins a line is known
known : (table : List Row) (k : ℕ) (row : Row) (first : Lexeme) (rest : List Lexeme) → slice_get table k ≡ Some row → has_mnemonic first.text row ≡ true →
    first.kind ≡ kind.Word → is_suffixed first rest ≡ false → knows table first rest ≡ true
known table k row first rest at named word plain =
    let any : list_any (has_mnemonic first.text) table ≡ true = any_at (has_mnemonic first.text) table k row at named in
    ap (λ b. cond b (cond (is_suffixed first rest) false (list_any (has_mnemonic first.text) table)) false) (ap is_word word)
    ∙ (ap (λ b. cond b false (list_any (has_mnemonic first.text) table)) plain ∙ any)

-- a form that is kept is judged as it is
kept_judged : (table : List Row) (fit : Fit) → (s : IsSettled table fit) → with_fit table (Some fit) ≡ judged fit.form s.row fit.helds
kept_judged table fit s =
    let stays : settled_at (slice_get table fit.form) fit ≡ fit = ap (λ o. settled_at o fit) s.at ∙ s.stays in
    ap (λ (f : Fit). judged_at (slice_get table f.form) f) stays ∙ ap (λ o. judged_at o fit) s.at

-- its items are read as it is judged
kept_read : (table : List Row) (pairs : List Pair) (fit : Fit) (first : Lexeme) (rest : List Lexeme) → all_differ table ≡ true → (s : IsSettled table fit) →
    first.kind ≡ kind.Word → first.text ≡ mnemonic_text s.row → is_suffixed first rest ≡ false → items_from pairs first 0 rest ≡ operand_items slot.Gap (row_operands s.row) fit.helds →
    reads table pairs (first ∷ rest) ≡ judged fit.form s.row fit.helds
unfolding reads
kept_read table pairs fit first rest differ s word text plain items =
    let named : has_mnemonic first.text s.row ≡ true = lower_same first.text (mnemonic_text s.row) (ap str_to_ascii_lowercase text) in
    let filled : fill s.row (items_from pairs first 0 rest) ≡ Some fit.helds = ap (λ v. fill s.row v) items ∙ filled_again s.row fit.helds s.filled in
    let fits : fit_row first.text (items_from pairs first 0 rest) s.row ≡ Some fit.helds = ap (λ b. cond b (fill s.row (items_from pairs first 0 rest)) None) named ∙ filled in
    let found = fit_is_found 0 table fit.form s.row first.text (items_from pairs first 0 rest) fit.helds differ s.at fits in
    let start : 0 + fit.form ≡ fit.form = omega arith in
    let found_fit : fit_from 0 table first.text (items_from pairs first 0 rest) ≡ Some fit = found ∙ ap (λ n. Some (let f : Fit = record { form = n; helds = fit.helds } in f)) start in
    ap (λ b. cond b (with_fit table (fit_from 0 table first.text (items_from pairs first 0 rest))) (Err UnknownMnemonic)) (known table fit.form s.row first rest s.at named word plain)
    ∙ (ap (λ o. with_fit table o) found_fit ∙ kept_judged table fit s)

pub rows_at : (rows : List Row) (k : ℕ) (row : Row) → all_rows rows ≡ true → slice_get rows k ≡ Some row → is_row row ≡ true
rows_at [] k row e at = absurd cc
rows_at (r ∷ rows) zero row e at = subst (λ v. is_row v ≡ true) (let same : r ≡ row = cc in same) (then_parts (is_row r) (all_rows rows) e).0
rows_at (r ∷ rows) (suc k) row e at = rows_at rows k row (then_parts (is_row r) (all_rows rows) e).1 at

-- an instruction is printed by its row
printed_is : (table : List Row) (pairs : List Pair) (form : ℕ) (row : Row) (helds : List Held) → slice_get table form ≡ Some row → is_row row ≡ true → Filled (row_operands row) helds →
    printed table pairs (instr_of form row helds) ≡ row_text pairs row helds
unfolding printed
printed_is table pairs form row helds at fine f =
    let there : slice_get table (instr_of form row helds).form ≡ Some row = ap (λ n. slice_get table n) (form_of form row helds) ∙ at in
    ap (λ o. row_printed pairs o (instr_of form row helds)) there ∙ ap (λ v. row_text pairs row v) (helds_again form row helds (filled_places row helds fine f))

pub kept_again : (table : List Row) (pairs : List Pair) (fit : Fit) (i : Instr) → is_table table ≡ true → (s : IsSettled table fit) → judged fit.form s.row fit.helds ≡ Ok i
    → list_all (knows_held pairs) fit.helds ≡ true → IsReadAgain table pairs i
kept_again table pairs fit i tests s e known =
    let one = then_parts (all_differ table) (cond (all_kept table table) (all_rows table) false) tests in
    let two = then_parts (all_kept table table) (all_rows table) one.1 in
    let fine : is_row s.row ≡ true = rows_at table fit.form s.row two.1 s.at in
    let parts = judged_is fit.form s.row fit.helds i e in
    let made : instr_of fit.form s.row fit.helds ≡ i = parts.1 in
    let form : i.form ≡ fit.form = ap (λ (j : Instr). j.form) (sym made) ∙ form_of fit.form s.row fit.helds in
    record {
      row = s.row;
      helds = fit.helds;
      at = ap (λ n. slice_get table n) form ∙ s.at;
      text = ap (λ (j : Instr). printed table pairs j) (sym made) ∙ printed_is table pairs fit.form s.row fit.helds s.at fine s.filled;
      printable = filled_printable pairs s.row fit.helds fine parts.0 s.filled known;
      again = λ first rest word text plain items. kept_read table pairs fit first rest one.0 s word text plain items ∙ e;
    }

-- What was read: a form of the table that keeps what its operands hold was judged to be the instruction, and the names of
-- these are known.
pub record IsReadBy (table : List Row) (pairs : List Pair) (i : Instr) : Type 0 where
  pub fit : Fit
  pub kept : IsSettled table fit
  pub judges : judged fit.form kept.row fit.helds ≡ Ok i
  pub known : list_all (knows_held pairs) fit.helds ≡ true

-- what fits is kept, and judged
fit_kept : (table : List Row) (pairs : List Pair) (text : List ℕ) (items : List Item) (o : Option Fit) (i : Instr) → is_table table ≡ true → fit_from 0 table text items ≡ o →
    with_fit table o ≡ Ok i → list_all (knows_item pairs) items ≡ true → IsReadBy table pairs i
fit_kept table pairs text items None i tests found e known = absurd cc
fit_kept table pairs text items (Some fit) i tests found e known =
    let one = then_parts (all_differ table) (cond (all_kept table table) (all_rows table) false) tests in
    let two = then_parts (all_kept table table) (all_rows table) one.1 in
    let f = fit_from_is 0 table text items fit found in
    let place : ℕ = f.place in
    let start : place ≡ 0 + place = omega arith in
    let at : slice_get table fit.form ≡ Some f.row = ap (λ n. slice_get table n) (sym (start ∙ f.form_is)) ∙ f.at in
    let fills : fill f.row items ≡ Some fit.helds = (fit_row_is text items f.row fit.helds f.took).filled in
    let filled : Filled (row_operands f.row) fit.helds = fill_filled f.row items fit.helds fills in
    let kept : Fit = settled f.row.alias fit in
    let s : IsSettled table kept = settled_is table fit f.row two.0 at filled in
    let settles : settled_at (slice_get table fit.form) fit ≡ kept = ap (λ o. settled_at o fit) at in
    let judges : judged kept.form s.row kept.helds ≡ Ok i =
    ap (λ o. judged_at o kept) (sym s.at) ∙ (ap (λ (v : Fit). judged_at (slice_get table v.form) v) (sym settles) ∙ e) in
    record { fit = kept; kept = s; judges = judges; known = settled_known pairs f.row.alias fit (fill_known pairs f.row items fit.helds fills known) }

pub known_fits : (b : Bool) (x : Result Instr FormReason) (i : Instr) → cond b x (Err UnknownMnemonic) ≡ Ok i → x ≡ Ok i
known_fits true x i e = e
known_fits false x i e = absurd cc

pub read_kept : (table : List Row) (pairs : List Pair) (words : List Lexeme) (i : Instr) → is_table table ≡ true → reads table pairs words ≡ Ok i → IsReadBy table pairs i
unfolding reads
read_kept table pairs [] i tests e = absurd cc
read_kept table pairs (first ∷ rest) i tests e =
    fit_kept table pairs first.text (items_from pairs first 0 rest) (fit_from 0 table first.text (items_from pairs first 0 rest)) i tests refl
    (known_fits (knows table first rest) (with_fit table (fit_from 0 table first.text (items_from pairs first 0 rest))) i e)
    (items_known pairs first 0 rest)

-- What is printed of an instruction that was read is read as it again.
pub read_again : (table : List Row) (pairs : List Pair) (words : List Lexeme) (i : Instr) → is_table table ≡ true → reads table pairs words ≡ Ok i → IsReadAgain table pairs i
read_again table pairs words i tests e = let r = read_kept table pairs words i tests e in kept_again table pairs r.fit i tests r.kept r.judges r.known
