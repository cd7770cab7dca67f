-- What is printed of an instruction that was read is read as the same, wherever it stands on a line.
use Rattle.std.proofs.Common.{◌≡◌, ℕ, zero, suc, ◌+◌, true, false, List, [], ◌∷◌, ◌++◌, length, subst, sym}
use Rattle.std.specs.List.{list_all}
use Rattle.std.specs.Prelude.{Some, slice_get, Ok}
use Rattle.sl_model.specs.declared.instruction.Instr.{Instr}
use Rattle.sl_model.specs.declared.text.Comments.{Comments}
use Rattle.sl_model.specs.Token.{Lexeme, tokens_at}
use Rattle.sl_isa.specs.Symbols.{Pair, have_pairs}
use Rattle.sl_isa.specs.Language.{is_behind, is_instruction_token}
use Rattle.form_table.specs.Symbols.{pairs_in}
use Rattle.form_table.specs.Reads.{reads}
use Rattle.form_table.specs.Printed.{printed}
use Rattle.form_table.specs.Tables.{is_led, all_led, is_table, is_readable}
use Rattle.form_table.specs.declared.rows.Row.{Row}
use Rattle.form_table.proofs.ReadAgain.{IsReadAgain, read_again}
use Rattle.form_table.proofs.PrintedWords.{GivesWords, row_words}
use Rattle.sl_laws.proofs.Tests.{then_parts}

pub led_at : (rows : List Row) (k : ℕ) (row : Row) → all_led rows ≡ true → slice_get rows k ≡ Some row → is_led row.first.shape ≡ true
led_at [] k row e at = absurd cc
led_at (r ∷ rows) zero row e at = subst (λ (v : Row). is_led v.first.shape ≡ true) (let same : r ≡ row = cc in same) (then_parts (is_led r.first.shape) (all_led rows) e).0
led_at (r ∷ rows) (suc k) row e at = led_at rows k row (then_parts (is_led r.first.shape) (all_led rows) e).1 at

-- A text at a place of a line, with another one behind it, gives words of its own, and these are read as an instruction.
pub record GivesInstr (table : List Row) (pairs : List Pair) (comments : Comments) (text : List ℕ) (place : ℕ) (behind : List ℕ) (i : Instr) : Type 0 where
  pub words : List Lexeme
  pub tokens : tokens_at comments false place (text ++ behind) ≡ words ++ tokens_at comments false (place + length text) behind
  pub plain : list_all is_instruction_token words ≡ true
  pub known : have_pairs (pairs_in words) pairs ≡ true
  pub read : reads table pairs words ≡ Ok i

pub spelled_at : (table : List Row) → is_readable table ≡ true → (pairs : List Pair) (words : List Lexeme) (i : Instr) → reads table pairs words ≡ Ok i →
    (comments : Comments) (place : ℕ) (behind : List ℕ) → is_behind behind ≡ true → GivesInstr table pairs comments (printed table pairs i) place behind i
unfolding pairs_in
spelled_at table tests pairs words i e comments place behind quiet =
    let parts = then_parts (is_table table) (all_led table) tests in
    let again : IsReadAgain table pairs i = read_again table pairs words i parts.0 e in
    let led = led_at table i.form again.row parts.1 again.at in
    let given : GivesWords pairs again.row again.helds comments place behind = row_words pairs again.row again.helds comments place behind led again.printable quiet in
    subst (λ text. GivesInstr table pairs comments text place behind i) (sym again.text) (record {
      words = given.first ∷ given.rest;
      tokens = given.tokens;
      plain = given.plain;
      known = given.known;
      read = again.again given.first given.rest given.kind given.text given.whole given.items;
    })
