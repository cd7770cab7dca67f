-- What is printed of an instruction that was read has no line end.
use Rattle.std.proofs.Common.{◌≡◌, ◌∙◌, ap, refl, ℕ, suc, ◌<◌, ◌^◌, ◌==◌, Bool, true, false, not, ◌&&◌, cond, List, [], ◌∷◌, ◌++◌, sym, subst, arith}
use Rattle.std.specs.Prelude.{ℤ, pos, negsuc, slice_get, Option, Some, None, Ok}
use Rattle.sl_model.specs.declared.register.Reg.{Reg}
use Rattle.sl_isa.specs.Symbols.{Pair}
use Rattle.form_table.specs.declared.rows.Letter.{Letter}
use Rattle.form_table.specs.declared.rows.Letter.TheVariants as letter
use Rattle.std.specs.Char.{is_ascii_alphanumeric, is_ascii_digit}
use Rattle.std.specs.Fmt.{decimal}
use Rattle.std.specs.List.{list_all}
use Rattle.std.proofs.lemmas.Bool.Decides.{nat_tests}
use Rattle.sl_model.specs.declared.instruction.Instr.{Instr}
use Rattle.sl_model.specs.Token.{Lexeme, begins_word, is_word_byte}
use Rattle.form_table.specs.Rows.{name_text, row_operands, mnemonic_text}
use Rattle.form_table.specs.Reads.{reads}
use Rattle.form_table.specs.Printed.{register_name, symbol_name, register_text, number_text, condition_text, slot_text, operands_text, row_text, printed}
use Rattle.form_table.specs.Symbols.{letter_code, is_word_text}
use Rattle.form_table.specs.Tables.{is_table, all_led, is_readable}
use Rattle.form_table.specs.declared.rows.Name.{Name}
use Rattle.form_table.specs.declared.rows.Slot.{Slot}
use Rattle.form_table.specs.declared.rows.Slot.TheVariants as slot
use Rattle.form_table.specs.declared.rows.Row.{Row}
use Rattle.form_table.specs.declared.spells.Held.{Held}
use Rattle.form_table.proofs.SlotItems.{IsPrintable}
use Rattle.form_table.proofs.PrintedRuns.{is_run}
use Rattle.form_table.proofs.PrintedNames.{all_more, decimal_run}
use Rattle.form_table.proofs.PrintedPieces.{IsSmall, IsIndex, Piece, row_pieces, pieces_text, text_is, FitsBy, FitsRegister, Fits, AllFit, row_fits}
use Rattle.form_table.proofs.PrintedTokens.{mark_cases, each_name}
use Rattle.form_table.proofs.ReadAgain.{IsReadAgain, read_again}
use Rattle.sl_laws.proofs.Tests.{then_parts}
use Rattle.std.proofs.lemmas.Bool.{and_parts}

-- a byte that ends no line
abbrev goes_on : ℕ → Bool
goes_on c = not (c == 10)

-- ---- bytes

word_goes_on : (c : ℕ) → is_word_byte c ≡ true → goes_on c ≡ true
word_goes_on c e = grind (arith, nat_tests)

first_goes_on : (c : ℕ) → begins_word c ≡ true → goes_on c ≡ true
first_goes_on c e = grind (arith, nat_tests)

letter_goes_on : (c : ℕ) → is_ascii_alphanumeric c ≡ true → goes_on c ≡ true
letter_goes_on c e = grind (arith, nat_tests)

digit_goes_on : (c : ℕ) → is_ascii_digit c ≡ true → goes_on c ≡ true
digit_goes_on c e = grind (arith, nat_tests)

-- bytes that pass one test pass another
all_pass : (p q : ℕ → Bool) (text : List ℕ) → ((c : ℕ) → p c ≡ true → q c ≡ true) → list_all p text ≡ true →
    list_all q text ≡ true
all_pass p q [] pass e = refl
all_pass p q (c ∷ text) pass e =
    let parts = and_parts (p c) (list_all p text) e in
    ap (λ b. b && list_all q text) (pass c parts.0) ∙ all_pass p q text pass parts.1

-- ---- words and numbers

name_goes_on : (w : List ℕ) → is_word_text w ≡ true → list_all goes_on w ≡ true
name_goes_on [] e = refl
name_goes_on (c ∷ w) e =
    let parts = then_parts (begins_word c) (list_all is_word_byte w) e in
    ap (λ b. b && list_all goes_on w) (first_goes_on c parts.0) ∙ all_pass is_word_byte goes_on w word_goes_on parts.1

run_goes_on : (w : List ℕ) → is_run w ≡ true → list_all goes_on w ≡ true
run_goes_on [] e = refl
run_goes_on (c ∷ w) e =
    let parts = then_parts (is_ascii_digit c) (list_all is_ascii_alphanumeric w) e in
    ap (λ b. b && list_all goes_on w) (digit_goes_on c parts.0) ∙ all_pass is_ascii_alphanumeric goes_on w letter_goes_on parts.1

digits_go_on : (n : ℕ) → n < 2 ^ 32 → list_all goes_on (decimal n) ≡ true
digits_go_on n h = let bound : n < 2 ^ 64 = omega (arith, h) in run_goes_on (decimal n) (decimal_run n bound)

number_goes_on : (o : Option ℤ) → IsSmall o → list_all goes_on (number_text o) ≡ true
number_goes_on None small = absurd small
number_goes_on (Some (pos n)) small = digits_go_on n small
number_goes_on (Some (negsuc n)) small = digits_go_on (suc n) small

index_goes_on : (o : Option ℤ) → IsIndex o → list_all goes_on (number_text o) ≡ true
index_goes_on None index = absurd index
index_goes_on (Some (pos n)) index = digits_go_on n index
index_goes_on (Some (negsuc n)) index = absurd index

-- ---- what a slot prints

fixed_goes_on : (n : Name) → list_all goes_on (name_text n) ≡ true
fixed_goes_on n = each_name (λ n. list_all goes_on (name_text n) ≡ true) refl refl refl refl refl refl refl refl refl refl refl refl refl refl refl n

letter_code_goes_on : (l : Letter) → goes_on (letter_code l) ≡ true
letter_code_goes_on letter.X = refl
letter_code_goes_on letter.W = refl
letter_code_goes_on letter.V = refl
letter_code_goes_on letter.Q = refl
letter_code_goes_on letter.D = refl
letter_code_goes_on letter.S = refl
letter_code_goes_on letter.R = refl

symbol_goes_on : (l : Letter) (pair : Pair) → is_word_text pair.1 ≡ true → list_all goes_on (symbol_name l (Some pair)) ≡ true
unfolding symbol_name
symbol_goes_on l pair is_word =
    ap (λ b. b && list_all goes_on (pair.1 ++ 62 ∷ [])) (letter_code_goes_on l)
    ∙ all_more goes_on pair.1 (62 ∷ []) (name_goes_on pair.1 is_word) refl

register_goes_on : (pairs : List Pair) (l : Letter) (o : Option Reg) → FitsRegister pairs l o → list_all goes_on (register_text pairs l o) ≡ true
register_goes_on pairs l None fit = absurd fit
register_goes_on pairs l (Some r) fit = by r.symbolic fit
  where
    by : (b : Bool) → FitsBy pairs l r b → list_all goes_on (cond b (symbol_name l (slice_get pairs r.number)) (register_name l r)) ≡ true
    by true fit = subst (λ o. list_all goes_on (symbol_name l o) ≡ true) (sym fit.at) (symbol_goes_on l fit.pair fit.is_word)
    by false fit = name_goes_on (register_name l r) fit

slot_goes_on : (pairs : List Pair) (held : Held) (s : Slot) → Fits pairs held s → list_all goes_on (slot_text pairs held s) ≡ true
unfolding slot_text
slot_goes_on pairs held slot.Gap fit = refl
slot_goes_on pairs held (slot.Mark code) fit =
    mark_cases (λ c. list_all goes_on (slot_text pairs held (slot.Mark c)) ≡ true) refl refl refl refl refl code fit
slot_goes_on pairs held (slot.Name n) fit = fixed_goes_on n
slot_goes_on pairs held (slot.Register l) fit = register_goes_on pairs l held.register fit
slot_goes_on pairs held slot.Number fit = number_goes_on held.number fit
slot_goes_on pairs held slot.Index fit = index_goes_on held.number fit
slot_goes_on pairs held slot.Condition fit = name_goes_on (condition_text held.number) fit

pieces_go_on : (pairs : List Pair) (ps : List Piece) → AllFit pairs ps → list_all goes_on (pieces_text pairs ps) ≡ true
pieces_go_on pairs [] fit = refl
pieces_go_on pairs (p ∷ ps) fit =
    all_more goes_on (slot_text pairs p.held p.slot) (pieces_text pairs ps) (slot_goes_on pairs p.held p.slot fit.0) (pieces_go_on pairs ps fit.1)

-- ---- a whole row

operands_go_on : (pairs : List Pair) (row : Row) (helds : List Held) → IsPrintable pairs row helds →
    list_all goes_on (operands_text pairs slot.Gap (row_operands row) helds) ≡ true
operands_go_on pairs row helds printable =
    ap (list_all goes_on) (text_is pairs slot.Gap (row_operands row) helds)
    ∙ pieces_go_on pairs (row_pieces slot.Gap (row_operands row) helds) (row_fits pairs row helds printable)

row_goes_on : (pairs : List Pair) (row : Row) (helds : List Held) → IsPrintable pairs row helds → list_all goes_on (row_text pairs row helds) ≡ true
unfolding row_text
row_goes_on pairs row helds printable =
    all_more goes_on (mnemonic_text row) (operands_text pairs slot.Gap (row_operands row) helds) (name_goes_on (mnemonic_text row) printable.mnemonic)
    (operands_go_on pairs row helds printable)

-- What is printed of an instruction that was read stands on one line.
pub one_line : (table : List Row) → is_readable table ≡ true → (pairs : List Pair) (words : List Lexeme) (i : Instr) → reads table pairs words ≡ Ok i →
    list_all (λ c. not (c == 10)) (printed table pairs i) ≡ true
one_line table tests pairs words i e =
    let parts = then_parts (is_table table) (all_led table) tests in
    let again : IsReadAgain table pairs i = read_again table pairs words i parts.0 e in
    ap (list_all goes_on) again.text ∙ row_goes_on pairs again.row again.helds again.printable
