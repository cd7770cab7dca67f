-- What the names of registers and conditions and the digits of numbers are made of.
use Rattle.std.proofs.Common.{◌≡◌, ◌∙◌, ap, refl, ℕ, zero, suc, ◌+◌, ◌<◌, ◌^◌, ◌%◌, ◌==◌, ◌&&◌, Bool, true, false, cond, List, [], ◌∷◌, ◌++◌, length, codes, arith}
use Rattle.std.specs.Prelude.{pos, Some, slice_index_or}
use Rattle.std.specs.Char.{is_ascii_alphanumeric, is_ascii_digit}
use Rattle.std.specs.Fmt.{decimal}
use Rattle.std.specs.List.{list_all}
use Rattle.std.proofs.lemmas.Fmt.{decimal_by_steps}
use Rattle.std.proofs.lemmas.Bool.Decides.{nat_tests}
use Rattle.sl_model.specs.declared.register.Reg.{Reg}
use Rattle.sl_model.specs.Token.{is_word_byte}
use Rattle.form_table.specs.Symbols.{is_word_text}
use Rattle.form_table.specs.Spells.{condition_names}
use Rattle.form_table.specs.Printed.{is_stack, register_name, condition_text}
use Rattle.form_table.specs.declared.rows.Letter.{Letter}
use Rattle.form_table.specs.declared.rows.Letter.TheVariants as letter
use Rattle.form_table.proofs.PrintedRuns.{is_run}
use Rattle.sl_laws.proofs.Tests.{then_parts}
use Rattle.std.proofs.lemmas.Bool.{and_parts}

-- ---- digits

pub all_more : {X : Type 0} (p : X → Bool) (w more : List X) → list_all p w ≡ true → list_all p more ≡ true →
    list_all p (w ++ more) ≡ true
all_more p [] more e f = f
all_more p (c ∷ w) more e f =
    let parts = and_parts (p c) (list_all p w) e in
    ap (λ b. b && list_all p (w ++ more)) parts.0 ∙ all_more p w more parts.1 f

run_digit : (d : ℕ) → d < 10 → is_run ((48 + d) ∷ []) ≡ true
run_digit d h = grind (arith, nat_tests)

digit_alphanumeric : (d : ℕ) → d < 10 → list_all is_ascii_alphanumeric ((48 + d) ∷ []) ≡ true
digit_alphanumeric d h = grind (arith, nat_tests)

run_more : (ds more : List ℕ) → is_run ds ≡ true → list_all is_ascii_alphanumeric more ≡ true → is_run (ds ++ more) ≡ true
run_more [] more e f = absurd cc
run_more (c ∷ ds) more e f =
    let parts = then_parts (is_ascii_digit c) (list_all is_ascii_alphanumeric ds) e in
    ap (λ b. cond b (list_all is_ascii_alphanumeric (ds ++ more)) false) parts.0 ∙ all_more is_ascii_alphanumeric ds more parts.1 f

pub decimal_run : (n : ℕ) → n < 2 ^ 64 → is_run (decimal n) ≡ true
decimal_run n h =
    decimal_by_steps (λ n ds. is_run ds ≡ true) run_digit
    (λ n ds some front. run_more ds ((48 + n % 10) ∷ []) front (digit_alphanumeric (n % 10) (omega arith))) n h

-- ---- names of registers

digit_word : (d : ℕ) → d < 10 → list_all is_word_byte ((48 + d) ∷ []) ≡ true
digit_word d h = grind (arith, nat_tests)

decimal_word : (n : ℕ) → n < 2 ^ 64 → list_all is_word_byte (decimal n) ≡ true
decimal_word n h =
    decimal_by_steps (λ n ds. list_all is_word_byte ds ≡ true) digit_word
    (λ n ds some front. all_more is_word_byte ds ((48 + n % 10) ∷ []) front (digit_word (n % 10) (omega arith))) n h

-- where a name is one of two
name_if : (test : Bool) (a b : List ℕ) → is_word_text a ≡ true → is_word_text b ≡ true → is_word_text (cond test a b) ≡ true
name_if true a b e f = e
name_if false a b e f = f

-- Each register's name is a word.
pub register_named : (l : Letter) (r : Reg) → r.number < 2 ^ 64 → is_word_text (register_name l r) ≡ true
unfolding register_name
register_named letter.X r h =
    name_if (is_stack r.bank) (codes "sp") _ refl
    (name_if (r.number == 31) (codes "xzr") (120 ∷ decimal r.number) refl (decimal_word r.number h))
register_named letter.W r h = name_if (r.number == 31) (codes "wzr") (119 ∷ decimal r.number) refl (decimal_word r.number h)
register_named letter.V r h = decimal_word r.number h
register_named letter.Q r h = decimal_word r.number h
register_named letter.D r h = decimal_word r.number h
register_named letter.S r h = decimal_word r.number h
register_named letter.R r h =
    name_if (is_stack r.bank) (codes "sp") _ refl
    (name_if (r.number == 14) (codes "lr") (114 ∷ decimal r.number) refl (decimal_word r.number h))

-- ---- names of conditions

name_at : (names : List (List ℕ)) (n : ℕ) → list_all is_word_text names ≡ true → n < length names →
    is_word_text (slice_index_or names n []) ≡ true
name_at [] n e h = absurd (omega arith)
name_at (w ∷ names) zero e h = (and_parts (is_word_text w) (list_all is_word_text names) e).0
name_at (w ∷ names) (suc n) e h = name_at names n (and_parts (is_word_text w) (list_all is_word_text names) e).1 (omega arith)

-- Each condition's name is a word.
pub condition_named : (n : ℕ) → n < 14 → is_word_text (condition_text (Some (pos n))) ≡ true
condition_named n h = name_at condition_names n refl h
