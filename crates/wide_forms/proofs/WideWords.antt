-- The words of an instruction with `.w`: what is read without it is spelled with it too, wherever it stands on a line.
use Rattle.std.proofs.Common.{◌≡◌, ◌∙◌, sym, ap, subst, refl, ℕ, ◌+◌, ◌-◌, ◌≤◌, Bool, true, false, cond, not, List, [], ◌∷◌, ◌++◌, length, length-append, append_assoc, codes, arith}
use Rattle.std.specs.Prelude.{nat_le, is_some, Option, Some, None, Result, Ok, Err}
use Rattle.std.specs.List.{list_all, list_any}
use Rattle.std.specs.Str.{str_eq_ignore_ascii_case}
use Rattle.std.proofs.lemmas.Bool.{and_parts, le-leb, false≢true}
use Rattle.std.proofs.lemmas.Bool.Decides.{nat_tests}
use Rattle.sl_model.specs.declared.text.Comments.{Comments}
use Rattle.sl_model.specs.declared.text.TokenKind.TheVariants.{Word, Mark}
use Rattle.sl_model.specs.declared.instruction.Instr.{Instr}
use Rattle.sl_model.specs.Text.{is_blank}
use Rattle.sl_model.specs.Token.{Lexeme, is_word_byte, tokens_from, tokens_at}
use Rattle.sl_model.specs.TokenTests.{is_word}
use Rattle.sl_isa.specs.Symbols.{Pair, have_pairs}
use Rattle.sl_isa.specs.Language.{is_instruction_token, is_behind}
use Rattle.sl_isa.specs.declared.reasons.FormReason.{FormReason}
use Rattle.sl_isa.specs.declared.reasons.FormReason.TheVariants.{UnknownMnemonic}
use Rattle.form_table.specs.Items.{items_from}
use Rattle.form_table.specs.Rows.{row_operands, mnemonic_text}
use Rattle.form_table.specs.Symbols.{is_word_text, pairs_in}
use Rattle.form_table.specs.Reads.{has_mnemonic, fit_from, with_fit, is_suffixed, knows, reads}
use Rattle.form_table.specs.Printed.{has_number, one_if, among_ins, among_outs, held_in, helds_in, operands_text, row_text, row_printed, printed}
use Rattle.form_table.specs.Tables.{is_led, all_led, is_table, is_readable}
use Rattle.form_table.specs.declared.rows.Operand.{Operand}
use Rattle.form_table.specs.declared.rows.Slot.TheVariants as slot
use Rattle.form_table.specs.declared.rows.Row.{Row}
use Rattle.form_table.specs.declared.spells.Held.{Held}
use Rattle.form_table.proofs.PrintedPieces.{Piece, row_pieces, text_is, Good, row_good}
use Rattle.form_table.proofs.PrintedPieces as before
use Rattle.form_table.proofs.PrintedRuns.{stops, token, IsMark, word_read, mark_read}
use Rattle.form_table.proofs.PrintedTokens.{pieces_stop}
use Rattle.form_table.proofs.PrintedWords.{GivesWords, row_words}
use Rattle.form_table.proofs.ReadAgain.{IsReadAgain, read_again}
use Rattle.form_table.proofs.Spelled.{GivesInstr, led_at, spelled_at}
use Rattle.wide_forms.specs.Wide.{behind_wide, narrowed, narrow, is_wide, with_wide, wide_pairs_in, suffix, wide_row_printed, wide_printed}
use Rattle.sl_laws.proofs.Tests.{then_parts}

-- ---- what is read has no `.w`

unsuffixed : (first : Lexeme) (tokens : List Lexeme) → is_suffixed first tokens ≡ false → behind_wide first tokens ≡ None
unfolding behind_wide
unsuffixed first [] e = refl
unsuffixed first (dot ∷ []) e = refl
unsuffixed first (dot ∷ word ∷ tokens) e =
    ap (λ b. cond b (cond (str_eq_ignore_ascii_case word.text (codes "w")) (Some (word, tokens)) None) None) e

known-whole : (table : List Row) (first : Lexeme) (tokens : List Lexeme) → knows table first tokens ≡ true → is_suffixed first tokens ≡ false
known-whole table first tokens e =
    whole (is_suffixed first tokens) _
    (then_parts (is_word first.kind) (cond (is_suffixed first tokens) false (list_any (has_mnemonic first.text) table)) e).1
  where
    whole : (b named : Bool) → cond b false named ≡ true → b ≡ false
    whole true named e = absurd (false≢true e)
    whole false named e = refl

known-of : (b : Bool) (x : Result Instr FormReason) (i : Instr) → cond b x (Err UnknownMnemonic) ≡ Ok i → b ≡ true
known-of true x i e = refl
known-of false x i e = absurd cc

-- Words that are read are narrow.
pub record IsNarrow (words : List Lexeme) : Type 0 where
  pub same : narrow words ≡ words
  pub wide : is_wide words ≡ false

pub read-narrow : (table : List Row) (pairs : List Pair) (words : List Lexeme) (i : Instr) → reads table pairs words ≡ Ok i → IsNarrow words
unfolding reads narrow is_wide
read-narrow table pairs [] i e = absurd cc
read-narrow table pairs (first ∷ tokens) i e =
    let known : knows table first tokens ≡ true =
    known-of (knows table first tokens) (with_fit table (fit_from 0 table first.text (items_from pairs first 0 tokens))) i e in
    let none : behind_wide first tokens ≡ None = unsuffixed first tokens (known-whole table first tokens known) in
    record {
      same = ap (narrowed first tokens) none;
      wide = ap is_some none;
    }

-- ---- what is printed

-- what operands hold has nothing to do with `.w`, line, tag and marks
pub helds-with : (i : Instr) (wide : Bool) (tag : Option ℕ) (early late : Bool) (line : ℕ) (operands : List Operand) (ins outs numbers : ℕ) →
    helds_in (record i { wide = wide; tag = tag; early = early; late = late; line = line }) operands ins outs numbers
    ≡ helds_in i operands ins outs numbers
unfolding helds_in held_in
helds-with i wide tag early late line [] ins outs numbers = refl
helds-with i wide tag early late line (operand ∷ operands) ins outs numbers =
    ap (λ more. held_in i operand ins outs numbers ∷ more)
    (helds-with i wide tag early late line operands (ins + one_if (among_ins operand)) (outs + one_if (among_outs operand))
    (numbers + one_if (has_number operand.shape)))

-- what stands behind the same front is the same
pub behind_same : (front a b : List ℕ) → front ++ a ≡ front ++ b → a ≡ b
behind_same [] a b e = e
behind_same (x ∷ front) a b e = behind_same front a b (let same : front ++ a ≡ front ++ b = cc in same)

-- the text of an instruction of a row whose operands hold these
abbrev wide_text : List Pair → Row → List Held → Bool → List ℕ
wide_text pairs row helds wide = mnemonic_text row ++ (suffix wide ++ operands_text pairs slot.Gap (row_operands row) helds)

text-is : (table : List Row) (pairs : List Pair) (i : Instr) (again : IsReadAgain table pairs i) (wide : Bool) →
    wide_printed table pairs (with_wide wide i) ≡ wide_text pairs again.row again.helds wide
unfolding wide_printed printed row_text
text-is table pairs i again wide =
    let row : Row = again.row in
    let made : List Held = helds_in i (row_operands row) 0 0 0 in
    let ops : List Held → List ℕ = λ helds. operands_text pairs slot.Gap (row_operands row) helds in
    let whole : mnemonic_text row ++ ops made ≡ mnemonic_text row ++ ops again.helds =
    ap (λ o. row_printed pairs o i) (sym again.at) ∙ again.text in
    let same : ops made ≡ ops again.helds = behind_same (mnemonic_text row) (ops made) (ops again.helds) whole in
    ap (λ o. wide_row_printed pairs o (with_wide wide i)) again.at
    ∙ (ap (λ helds. mnemonic_text row ++ (suffix wide ++ ops helds)) (helds-with i wide i.tag i.early i.late i.line (row_operands row) 0 0 0)
    ∙ ap (λ text. mnemonic_text row ++ (suffix wide ++ text)) same)

-- ---- the words of what is printed

-- A text at a place of a line, with another one behind it, gives words of its own, and these are read as an instruction,
-- with `.w` or without.
pub record GivesWide (table : List Row) (pairs : List Pair) (comments : Comments) (text : List ℕ) (place : ℕ) (behind : List ℕ) (wide : Bool) (i : Instr) : Type 0 where
  pub words : List Lexeme
  pub tokens : tokens_at comments false place (text ++ behind) ≡ words ++ tokens_at comments false (place + length text) behind
  pub plain : list_all is_instruction_token words ≡ true
  pub known : have_pairs (wide_pairs_in words) pairs ≡ true
  pub is : is_wide words ≡ wide
  pub read : reads table pairs (narrow words) ≡ Ok i

-- without it
narrow-given : (table : List Row) (pairs : List Pair) (comments : Comments) (text : List ℕ) (place : ℕ) (behind : List ℕ) (i : Instr) →
    GivesInstr table pairs comments text place behind i → GivesWide table pairs comments text place behind false i
unfolding wide_pairs_in
narrow-given table pairs comments text place behind i given =
    let is : IsNarrow given.words = read-narrow table pairs given.words i given.read in
    record {
      words = given.words;
      tokens = given.tokens;
      plain = given.plain;
      known = ap (λ words. have_pairs (pairs_in words) pairs) is.same ∙ given.known;
      is = is.wide;
      read = ap (reads table pairs) is.same ∙ given.read;
    }

behind_stops : (more : List ℕ) → is_behind more ≡ true → stops more ≡ true
behind_stops [] e = refl
behind_stops (c ∷ more) e = no_word c e
  where
    no_word : (c : ℕ) → is_blank c ≡ true → not (is_word_byte c) ≡ true
    no_word c e = grind (arith, nat_tests)

dot : IsMark 46
dot = record {
  opens = record { ascii = omega arith; slash = refl; at = refl; blank = refl };
  no_word = refl;
  no_digit = refl;
}

-- the words of `.w` behind a mnemonic
abbrev wide_words : List ℕ → ℕ → List Lexeme → List Lexeme
wide_words w place rest =
    token Word w place ∷ token Mark (codes ".") (place + length w) ∷ token Word (codes "w") (place + length w + 1) ∷ rest

same-le : (n : ℕ) → nat_le n n ≡ true
same-le n = le-leb n n (let le : n ≤ n = omega arith in le)

behind-is : (w : List ℕ) (place : ℕ) (rest : List Lexeme) →
    behind_wide (token Word w place) (token Mark (codes ".") (place + length w) ∷ token Word (codes "w") (place + length w + 1) ∷ rest)
    ≡ Some (token Word (codes "w") (place + length w + 1), rest)
unfolding behind_wide is_suffixed
behind-is w place rest =
    let found : Option (Lexeme × List Lexeme) = Some (token Word (codes "w") (place + length w + 1), rest) in
    ap (λ b. cond (cond b (nat_le (place + length w + 1) (place + length w + 1)) false) found None) (same-le (place + length w))
    ∙ ap (λ b. cond b found None) (same-le (place + length w + 1))

-- a word has letters
some-letters : (w : List ℕ) → is_word_text w ≡ true → 1 ≤ length w
some-letters [] e = absurd cc
some-letters (c ∷ w) e = omega arith

narrow-is : (w : List ℕ) (place : ℕ) (rest : List Lexeme) → is_word_text w ≡ true →
    narrow (wide_words w place rest) ≡ token Word w (place + 2) ∷ rest
unfolding narrow
narrow-is w place rest named =
    let some : 1 ≤ length w = some-letters w named in
    let start : place + length w + 1 - (length w - 1) ≡ place + 2 = omega (arith, some) in
    ap (narrowed (token Word w place) (token Mark (codes ".") (place + length w) ∷ token Word (codes "w") (place + length w + 1) ∷ rest)) (behind-is w place rest)
    ∙ ap (λ n. token Word w n ∷ rest) start

wide-is : (w : List ℕ) (place : ℕ) (rest : List Lexeme) → is_wide (wide_words w place rest) ≡ true
unfolding is_wide
wide-is w place rest = ap is_some (behind-is w place rest)

-- a text with `.w` behind a word gives these words, and then what stands behind them
words-with : (comments : Comments) (w ops : List ℕ) (place : ℕ) (rest : List Lexeme) → is_word_text w ≡ true → stops ops ≡ true →
    tokens_from comments (place + 2 + length w) 0 ops ≡ rest →
    tokens_from comments place 0 (w ++ (46 ∷ 119 ∷ ops)) ≡ wide_words w place rest
words-with comments w ops place rest named ends e =
    let end : ℕ = place + length w in
    let same : end + 1 + 1 ≡ place + 2 + length w = omega arith in
    word_read comments place w (46 ∷ 119 ∷ ops) named refl
    ∙ ap (λ tokens. token Word w place ∷ tokens)
    (mark_read comments end 46 (119 ∷ ops) dot
    ∙ ap (λ tokens. token Mark (codes ".") end ∷ tokens)
    (word_read comments (end + 1) (codes "w") ops refl ends
    ∙ ap (λ tokens. token Word (codes "w") (end + 1) ∷ tokens) (ap (λ n. tokens_from comments n 0 ops) same ∙ e)))

head-is : (a b : Lexeme) (xs ys : List Lexeme) → a ∷ xs ≡ b ∷ ys → a ≡ b
head-is a b xs ys e = cc

tail-is : (a b : Lexeme) (xs ys : List Lexeme) → a ∷ xs ≡ b ∷ ys → xs ≡ ys
tail-is a b xs ys e = cc

-- with it
wide-given : (table : List Row) (pairs : List Pair) (i : Instr) (again : IsReadAgain table pairs i) (comments : Comments) (place : ℕ) (behind : List ℕ) →
    is_led again.row.first.shape ≡ true → is_behind behind ≡ true →
    GivesWide table pairs comments (wide_text pairs again.row again.helds true) place behind true i
unfolding tokens_at row_text wide_pairs_in pairs_in
wide-given table pairs i again comments place behind led quiet =
    let row : Row = again.row in
    let w : List ℕ = mnemonic_text row in
    let ops : List ℕ = operands_text pairs slot.Gap (row_operands row) again.helds in
    let given : GivesWords pairs row again.helds comments (place + 2) behind =
    row_words pairs row again.helds comments (place + 2) behind led again.printable quiet in
    let ends : stops (ops ++ behind) ≡ true =
    ap (λ text. stops (text ++ behind)) (text_is pairs slot.Gap (row_operands row) again.helds)
    ∙ pieces_stop pairs before.name (row_pieces slot.Gap (row_operands row) again.helds) behind (row_good pairs row again.helds led again.printable) (behind_stops behind quiet) in
    let tail : List Lexeme = tokens_from comments (place + 2 + length (w ++ ops)) 0 behind in
    let whole : token Word w (place + 2) ∷ tokens_from comments (place + 2 + length w) 0 (ops ++ behind) ≡ given.first ∷ (given.rest ++ tail) =
    sym (ap (λ text. tokens_from comments (place + 2) 0 text) (append_assoc w ops behind)
    ∙ word_read comments (place + 2) w (ops ++ behind) again.printable.mnemonic ends)
    ∙ given.tokens in
    let first : token Word w (place + 2) ≡ given.first = head-is _ _ _ _ whole in
    let rest : tokens_from comments (place + 2 + length w) 0 (ops ++ behind) ≡ given.rest ++ tail = tail-is _ _ _ _ whole in
    let long : length (w ++ (46 ∷ 119 ∷ ops)) ≡ length w + length (46 ∷ 119 ∷ ops) = length-append w (46 ∷ 119 ∷ ops) in
    let two : length (46 ∷ 119 ∷ ops) ≡ length ops + 2 = omega arith in
    let short : length (w ++ ops) ≡ length w + length ops = length-append w ops in
    let end : place + 2 + length (w ++ ops) ≡ place + length (w ++ (46 ∷ 119 ∷ ops)) = omega (arith, long, two, short) in
    let words : List Lexeme = wide_words w place given.rest in
    let same : narrow words ≡ given.first ∷ given.rest =
    narrow-is w place given.rest again.printable.mnemonic ∙ ap (λ t. t ∷ given.rest) first in
    record {
      words = words;
      tokens =
          ap (λ text. tokens_from comments place 0 text) (append_assoc w (46 ∷ 119 ∷ ops) behind)
          ∙ (words-with comments w (ops ++ behind) place (given.rest ++ tail) again.printable.mnemonic ends rest
          ∙ ap (λ n. words ++ tokens_from comments n 0 behind) end);
      plain = (and_parts (is_instruction_token given.first) (list_all is_instruction_token given.rest) given.plain).1;
      known = ap (λ ts. have_pairs (pairs_in ts) pairs) same ∙ given.known;
      is = wide-is w place given.rest;
      read = ap (reads table pairs) same ∙ again.again given.first given.rest given.kind given.text given.whole given.items;
    }

-- What was read without `.w` is printed with it or without, and that is read again, wherever it stands on a line.
pub wide_spelled_at : (table : List Row) → is_readable table ≡ true → (pairs : List Pair) (words : List Lexeme) (i : Instr) → reads table pairs words ≡ Ok i →
    (wide : Bool) (comments : Comments) (place : ℕ) (behind : List ℕ) → is_behind behind ≡ true →
    GivesWide table pairs comments (wide_printed table pairs (with_wide wide i)) place behind wide i
unfolding row_text
wide_spelled_at table tests pairs words i e wide comments place behind quiet = by wide
  where
    again : IsReadAgain table pairs i
    again = read_again table pairs words i (then_parts (is_table table) (all_led table) tests).0 e

    narrow_text : wide_printed table pairs (with_wide false i) ≡ printed table pairs i
    narrow_text = text-is table pairs i again false ∙ sym again.text

    by : (wide : Bool) → GivesWide table pairs comments (wide_printed table pairs (with_wide wide i)) place behind wide i
    by false =
        subst (λ text. GivesWide table pairs comments text place behind false i) (sym narrow_text)
        (narrow-given table pairs comments (printed table pairs i) place behind i (spelled_at table tests pairs words i e comments place behind quiet))
    by true =
        subst (λ text. GivesWide table pairs comments text place behind true i) (sym (text-is table pairs i again true))
        (wide-given table pairs i again comments place behind
        (led_at table i.form again.row (then_parts (is_table table) (all_led table) tests).1 again.at) quiet)
