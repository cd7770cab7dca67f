-- The tokens of a printed instruction have no other symbolic registers than those whose names were printed.
use Rattle.std.proofs.Common.{◌≡◌, ◌∙◌, sym, ap, subst, refl, ℕ, ◌+◌, suc, ◌&&◌, Bool, true, false, List, [], ◌∷◌, ◌++◌, length}
use Rattle.std.specs.Prelude.{ℤ, pos, negsuc, Option, Some, None}
use Rattle.std.specs.Fmt.{decimal}
use Rattle.sl_model.specs.declared.register.Reg.{Reg}
use Rattle.sl_model.specs.declared.text.TokenKind.TheVariants.{Word, Number, Mark}
use Rattle.sl_model.specs.Token.{Lexeme}
use Rattle.sl_isa.specs.Symbols.{Pair, has_pair, have_pairs}
use Rattle.form_table.specs.Symbols.{letter_bank, is_word_text, pair_if, pairs_from}
use Rattle.form_table.specs.Rows.{name_text}
use Rattle.form_table.specs.Printed.{register_name, condition_text, slot_text}
use Rattle.form_table.specs.declared.rows.Letter.{Letter}
use Rattle.form_table.specs.declared.rows.Slot.{Slot}
use Rattle.form_table.specs.declared.rows.Slot.TheVariants as slot
use Rattle.form_table.specs.declared.spells.Held.{Held}
use Rattle.form_table.proofs.PrintedRuns.{token}
use Rattle.form_table.proofs.PrintedPieces.{Piece, FitsBy, FitsRegister, Fits, AllFit}
use Rattle.form_table.proofs.PrintedTokens.{name_kind, number_tokens, symbol_tokens, named_tokens, tokens_by, register_tokens, slot_tokens, pieces_tokens}
use Rattle.form_table.proofs.PrintedItems.{is_unopened, no_symbol, symbol_found, pieces_unopened}

-- before what isn't opened no symbolic register begins
quiet_pairs : (t : Lexeme) (tokens : List Lexeme) → is_unopened tokens ≡ true → pairs_from (t ∷ tokens) ≡ pairs_from tokens
unfolding pairs_from
quiet_pairs t tokens quiet = ap (λ o. pair_if o ++ pairs_from tokens) (no_symbol t tokens quiet)

-- Pairs have those of tokens.
abbrev Have : List Pair → List Lexeme → Type 0
Have pairs tokens = have_pairs (pairs_from tokens) pairs ≡ true

quiet_have : (pairs : List Pair) (t : Lexeme) (tokens : List Lexeme) → is_unopened tokens ≡ true → Have pairs tokens → Have pairs (t ∷ tokens)
quiet_have pairs t tokens quiet have = ap (λ others. have_pairs others pairs) (quiet_pairs t tokens quiet) ∙ have

symbol_have : (pairs : List Pair) (place : ℕ) (l : Letter) (pair : Pair) (tokens : List Lexeme) → is_word_text pair.1 ≡ true → has_pair (letter_bank l) pair.1 pairs ≡ true
    → is_unopened tokens ≡ true → Have pairs tokens → Have pairs (symbol_tokens place l pair.1 ++ tokens)
unfolding pairs_from
symbol_have pairs place l pair tokens is_word has quiet have =
    let close : Lexeme = token Mark (62 ∷ []) (place + 1 + 1 + length pair.1) in
    let name : Lexeme = token Word pair.1 (place + 1 + 1) in
    let opening : Lexeme = token Mark (60 ∷ []) (place + 1) in
    let rest : Have pairs (opening ∷ name ∷ close ∷ tokens) =
    quiet_have pairs opening (name ∷ close ∷ tokens) refl (quiet_have pairs name (close ∷ tokens) refl (quiet_have pairs close tokens quiet have)) in
    ap (λ o. have_pairs (pair_if o ++ pairs_from (opening ∷ name ∷ close ∷ tokens)) pairs) (symbol_found place l pair.1 tokens is_word)
    ∙ (ap (λ b. b && have_pairs (pairs_from (opening ∷ name ∷ close ∷ tokens)) pairs) has ∙ rest)

register_have : (pairs : List Pair) (place : ℕ) (l : Letter) (o : Option Reg) (tokens : List Lexeme) → FitsRegister pairs l o → is_unopened tokens ≡ true → Have pairs tokens
    → Have pairs (register_tokens pairs place l o ++ tokens)
register_have pairs place l None tokens fit quiet have = absurd fit
register_have pairs place l (Some r) tokens fit quiet have = by r.symbolic fit
  where
    by : (b : Bool) → FitsBy pairs l r b → Have pairs (tokens_by pairs place l r b ++ tokens)
    by true fit =
        subst (λ o. Have pairs (named_tokens place l o ++ tokens)) (sym fit.at) (symbol_have pairs place l fit.pair tokens fit.is_word fit.has quiet have)
    by false fit = quiet_have pairs (token Word (register_name l r) place) tokens quiet have

number_have : (pairs : List Pair) (place : ℕ) (o : Option ℤ) (tokens : List Lexeme) → is_unopened tokens ≡ true → Have pairs tokens → Have pairs (number_tokens place o ++ tokens)
number_have pairs place None tokens quiet have = have
number_have pairs place (Some (pos n)) tokens quiet have = quiet_have pairs (token Number (decimal n) place) tokens quiet have
number_have pairs place (Some (negsuc n)) tokens quiet have =
    let digits : Lexeme = token Number (decimal (suc n)) (place + 1) in
    quiet_have pairs (token Mark (45 ∷ []) place) (digits ∷ tokens) refl (quiet_have pairs digits tokens quiet have)

number_unopened : (place : ℕ) (o : Option ℤ) (tokens : List Lexeme) → is_unopened tokens ≡ true → is_unopened (number_tokens place o ++ tokens) ≡ true
number_unopened place None tokens quiet = quiet
number_unopened place (Some (pos n)) tokens quiet = refl
number_unopened place (Some (negsuc n)) tokens quiet = refl

slot_have : (pairs : List Pair) (place : ℕ) (held : Held) (s : Slot) (tokens : List Lexeme) → Fits pairs held s → is_unopened tokens ≡ true → Have pairs tokens
    → Have pairs (slot_tokens pairs place held s ++ tokens)
slot_have pairs place held slot.Gap tokens fit quiet have = have
slot_have pairs place held (slot.Mark code) tokens fit quiet have = quiet_have pairs (token Mark (code ∷ []) place) tokens quiet have
slot_have pairs place held (slot.Name n) tokens fit quiet have = quiet_have pairs (token (name_kind n) (name_text n) place) tokens quiet have
slot_have pairs place held (slot.Register l) tokens fit quiet have = register_have pairs place l held.register tokens fit quiet have
slot_have pairs place held slot.Number tokens fit quiet have =
    quiet_have pairs (token Mark (35 ∷ []) place) (number_tokens (place + 1) held.number ++ tokens) (number_unopened (place + 1) held.number tokens quiet)
    (number_have pairs (place + 1) held.number tokens quiet have)
slot_have pairs place held slot.Index tokens fit quiet have = number_have pairs place held.number tokens quiet have
slot_have pairs place held slot.Condition tokens fit quiet have = quiet_have pairs (token Word (condition_text held.number) place) tokens quiet have

-- Pairs have all names of what is printed with them.
pub pieces_have : (pairs : List Pair) (place : ℕ) (ps : List Piece) → AllFit pairs ps → have_pairs (pairs_from (pieces_tokens pairs place ps)) pairs ≡ true
unfolding pairs_from
pieces_have pairs place [] fit = refl
pieces_have pairs place (p ∷ ps) fit =
    let next : ℕ = place + length (slot_text pairs p.held p.slot) in
    slot_have pairs place p.held p.slot (pieces_tokens pairs next ps) fit.0 (pieces_unopened pairs next ps fit.1) (pieces_have pairs next ps fit.1)
