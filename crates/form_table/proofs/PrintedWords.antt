-- The text of a printed instruction gives, on a line, exactly the words that its slots say.
use Rattle.std.proofs.Common.{◌≡◌, ◌∙◌, sym, ap, refl, ℕ, ◌+◌, ◌==◌, Bool, true, false, cond, not, List, [], ◌∷◌, ◌++◌, length, length-append, append_assoc, subst, arith}
use Rattle.std.specs.Prelude.{ℤ, pos, negsuc, slice_get, Option, Some, None}
use Rattle.sl_model.specs.declared.register.Reg.{Reg}
use Rattle.sl_isa.specs.Symbols.{Pair, have_pairs}
use Rattle.form_table.specs.Symbols.{pairs_from}
use Rattle.form_table.specs.declared.rows.Letter.{Letter}
use Rattle.form_table.proofs.PrintedPairs.{pieces_have}
use Rattle.std.specs.List.{list_all}
use Rattle.std.proofs.lemmas.Bool.Decides.{nat_tests}
use Rattle.sl_model.specs.declared.text.Comments.{Comments}
use Rattle.sl_model.specs.declared.text.TokenKind.TheVariants.{Word, Mark}
use Rattle.sl_model.specs.Text.{is_blank}
use Rattle.sl_model.specs.Token.{Lexeme, is_word_byte, tokens_from, tokens_at}
use Rattle.sl_isa.specs.Language.{is_instruction_token, is_behind}
use Rattle.form_table.specs.Symbols.{is_word_text}
use Rattle.form_table.specs.Tables.{is_led}
use Rattle.sl_model.specs.TokenTests.{marks}
use Rattle.form_table.specs.Items.{items_from}
use Rattle.form_table.specs.Rows.{name_text, row_operands, mnemonic_text, slots_of}
use Rattle.form_table.specs.Spells.{comma}
use Rattle.form_table.specs.Reads.{is_suffixed}
use Rattle.form_table.specs.Printed.{slot_text, row_text}
use Rattle.form_table.specs.declared.rows.Name.{Name}
use Rattle.form_table.specs.declared.rows.Slot.{Slot}
use Rattle.form_table.specs.declared.rows.Slot.TheVariants as slot
use Rattle.form_table.specs.declared.rows.Shape.{Shape}
use Rattle.form_table.specs.declared.rows.Shape.TheVariants as shape
use Rattle.form_table.specs.declared.rows.Operand.{Operand}
use Rattle.form_table.specs.declared.rows.Row.{Row}
use Rattle.form_table.specs.declared.spells.Held.{Held}
use Rattle.form_table.proofs.SlotItems.{operand_items, IsPrintable}
use Rattle.form_table.proofs.PrintedRuns.{stops, token, word_read}
use Rattle.form_table.proofs.PrintedNames.{all_more}
use Rattle.form_table.proofs.PrintedPieces.{IsSmall, IsIndex, Piece, pieces_of, row_pieces, pieces_text, pieces_items, text_is, items_are, Before, behind, flows, is_printed_mark, FitsBy, FitsRegister, Fits, AllFit, Good, row_good}
use Rattle.form_table.proofs.PrintedPieces as before
use Rattle.form_table.proofs.PrintedTokens.{name_kind, number_tokens, named_tokens, tokens_by, register_tokens, slot_tokens, pieces_tokens, mark_cases, pieces_stop, pieces_give, each_name}
use Rattle.form_table.proofs.PrintedItems.{word_pieces}
use Rattle.sl_laws.proofs.Tests.{then_parts}

-- ---- all are tokens of instructions

number_plain : (place : ℕ) (o : Option ℤ) → list_all is_instruction_token (number_tokens place o) ≡ true
number_plain place None = refl
number_plain place (Some (pos n)) = refl
number_plain place (Some (negsuc n)) = refl

name_plain : (n : Name) (place : ℕ) → list_all is_instruction_token (token (name_kind n) (name_text n) place ∷ []) ≡ true
name_plain n place = each_name (λ n. list_all is_instruction_token (token (name_kind n) (name_text n) place ∷ []) ≡ true) refl refl refl refl refl refl refl refl refl refl refl refl refl refl refl n

register_plain : (pairs : List Pair) (place : ℕ) (l : Letter) (o : Option Reg) → list_all is_instruction_token (register_tokens pairs place l o) ≡ true
register_plain pairs place l None = refl
register_plain pairs place l (Some r) = by r.symbolic
  where
    named : (o : Option Pair) → list_all is_instruction_token (named_tokens place l o) ≡ true
    named None = refl
    named (Some pair) = refl

    by : (b : Bool) → list_all is_instruction_token (tokens_by pairs place l r b) ≡ true
    by true = named (slice_get pairs r.number)
    by false = refl

slot_plain : (pairs : List Pair) (place : ℕ) (held : Held) (s : Slot) → Fits pairs held s → list_all is_instruction_token (slot_tokens pairs place held s) ≡ true
slot_plain pairs place held slot.Gap fit = refl
slot_plain pairs place held (slot.Mark code) fit =
    mark_cases (λ c. list_all is_instruction_token (token Mark (c ∷ []) place ∷ []) ≡ true) refl refl refl refl refl code fit
slot_plain pairs place held (slot.Name n) fit = name_plain n place
slot_plain pairs place held (slot.Register l) fit = register_plain pairs place l held.register
slot_plain pairs place held slot.Number fit = number_plain (place + 1) held.number
slot_plain pairs place held slot.Index fit = number_plain place held.number
slot_plain pairs place held slot.Condition fit = refl

pieces_plain : (pairs : List Pair) (place : ℕ) (ps : List Piece) → AllFit pairs ps → list_all is_instruction_token (pieces_tokens pairs place ps) ≡ true
pieces_plain pairs place [] fit = refl
pieces_plain pairs place (p ∷ ps) fit =
    let next : ℕ = place + length (slot_text pairs p.held p.slot) in
    all_more is_instruction_token (slot_tokens pairs place p.held p.slot) (pieces_tokens pairs next ps) (slot_plain pairs place p.held p.slot fit.0)
    (pieces_plain pairs next ps fit.1)

-- ---- no dot stands behind the mnemonic

abbrev is_dotless : List Lexeme → Bool
is_dotless [] = true
is_dotless (t ∷ tokens) = not (marks 46 t)

no_suffix : (first : Lexeme) (tokens : List Lexeme) → is_dotless tokens ≡ true → is_suffixed first tokens ≡ false
unfolding is_suffixed
no_suffix first [] e = refl
no_suffix first (t ∷ []) e = refl
no_suffix first (t ∷ u ∷ tokens) e = no_dot (marks 46 t) _ e
  where
    no_dot : (b more : Bool) → not b ≡ true → cond b more false ≡ false
    no_dot true more e = absurd cc
    no_dot false more e = refl

name_dotless : (n : Name) (place : ℕ) (tokens : List Lexeme) → is_dotless (token (name_kind n) (name_text n) place ∷ tokens) ≡ true
name_dotless n place tokens = each_name (λ n. is_dotless (token (name_kind n) (name_text n) place ∷ tokens) ≡ true) refl refl refl refl refl refl refl refl refl refl refl refl refl refl refl n

index_dotless : (o : Option ℤ) (place : ℕ) (tokens : List Lexeme) → IsIndex o → is_dotless (number_tokens place o ++ tokens) ≡ true
index_dotless None place tokens index = absurd index
index_dotless (Some (pos n)) place tokens index = refl
index_dotless (Some (negsuc n)) place tokens index = absurd index

-- no dot begins what stands behind a blank
register_dotless : (pairs : List Pair) (place : ℕ) (l : Letter) (o : Option Reg) (tokens : List Lexeme) → FitsRegister pairs l o →
    is_dotless (register_tokens pairs place l o ++ tokens) ≡ true
register_dotless pairs place l None tokens fit = absurd fit
register_dotless pairs place l (Some r) tokens fit = by r.symbolic fit
  where
    by : (b : Bool) → FitsBy pairs l r b → is_dotless (tokens_by pairs place l r b ++ tokens) ≡ true
    by true fit = subst (λ o. is_dotless (named_tokens place l o ++ tokens) ≡ true) (sym fit.at) refl
    by false fit = refl

behind_blank_dotless : (pairs : List Pair) (place : ℕ) (held : Held) (s : Slot) (tokens : List Lexeme) →
    before.may_follow before.blank (behind s) ≡ true → Fits pairs held s →
    is_dotless (slot_tokens pairs place held s ++ tokens) ≡ true
behind_blank_dotless pairs place held slot.Gap tokens may fit = absurd cc
behind_blank_dotless pairs place held (slot.Mark code) tokens may fit = absurd cc
behind_blank_dotless pairs place held (slot.Name n) tokens may fit = name_dotless n place tokens
behind_blank_dotless pairs place held (slot.Register l) tokens may fit = register_dotless pairs place l held.register tokens fit
behind_blank_dotless pairs place held slot.Number tokens may fit = refl
behind_blank_dotless pairs place held slot.Index tokens may fit = index_dotless held.number place tokens fit
behind_blank_dotless pairs place held slot.Condition tokens may fit = refl

blank_dotless : (pairs : List Pair) (place : ℕ) (ps : List Piece) → Good pairs before.blank ps → is_dotless (pieces_tokens pairs place ps) ≡ true
blank_dotless pairs place [] good = let none : false ≡ true = good.flow in absurd cc
blank_dotless pairs place (p ∷ ps) good =
    let parts = then_parts (before.may_follow before.blank (behind p.slot)) (flows (behind p.slot) ps) good.flow in
    behind_blank_dotless pairs place p.held p.slot _ parts.0 good.fit.0

-- Do pieces begin with a blank or a comma, if there are any?
abbrev is_lead : Slot → Bool
is_lead slot.Gap = true
is_lead (slot.Mark code) = code == 44
is_lead (slot.Name n) = false
is_lead (slot.Register letter) = false
is_lead slot.Number = false
is_lead slot.Index = false
is_lead slot.Condition = false

abbrev are_led : List Piece → Bool
are_led [] = true
are_led (p ∷ ps) = is_lead p.slot

no_dot_code : (code : ℕ) → (code == 44) ≡ true → not (code == 46) ≡ true
no_dot_code code e = grind (arith, nat_tests)

lead_dotless : (pairs : List Pair) (place : ℕ) (held : Held) (s : Slot) (ps : List Piece) → is_lead s ≡ true → Good pairs (behind s) ps →
    is_dotless (slot_tokens pairs place held s ++ pieces_tokens pairs (place + length (slot_text pairs held s)) ps) ≡ true
lead_dotless pairs place held slot.Gap ps led good = blank_dotless pairs (place + length (slot_text pairs held slot.Gap)) ps good
lead_dotless pairs place held (slot.Mark code) ps led good = no_dot_code code led
lead_dotless pairs place held (slot.Name n) ps led good = absurd cc
lead_dotless pairs place held (slot.Register letter) ps led good = absurd cc
lead_dotless pairs place held slot.Number ps led good = absurd cc
lead_dotless pairs place held slot.Index ps led good = absurd cc
lead_dotless pairs place held slot.Condition ps led good = absurd cc

pieces_dotless : (pairs : List Pair) (place : ℕ) (ps : List Piece) → are_led ps ≡ true → Good pairs before.name ps → is_dotless (pieces_tokens pairs place ps) ≡ true
pieces_dotless pairs place [] led good = refl
pieces_dotless pairs place (p ∷ ps) led good =
    let parts = then_parts (before.may_follow before.name (behind p.slot)) (flows (behind p.slot) ps) good.flow in
    lead_dotless pairs place p.held p.slot ps led (record { flow = parts.1; fit = good.fit.1 })

shape_led : (lead : Slot) (s : Shape) (held : Held) (ps : List Piece) → is_lead lead ≡ true → are_led ps ≡ true →
    are_led (pieces_of held (slots_of lead s) ++ ps) ≡ true
shape_led lead shape.Nothing held ps e more = more
shape_led lead (shape.Register letter) held ps e more = e
shape_led lead shape.Number held ps e more = e
shape_led lead shape.Condition held ps e more = e
shape_led lead (shape.Shift n) held ps e more = e
shape_led lead (shape.Lanes n) held ps e more = e
shape_led lead (shape.Lane n) held ps e more = e
shape_led lead (shape.Base letter) held ps e more = e
shape_led lead (shape.Offset letter) held ps e more = e
shape_led lead (shape.Before letter) held ps e more = e

row_led : (lead : Slot) (operands : List Operand) (helds : List Held) → is_lead lead ≡ true →
    are_led (row_pieces lead operands helds) ≡ true
row_led lead [] helds e = refl
row_led lead (operand ∷ operands) [] e = refl
row_led lead (operand ∷ operands) (held ∷ helds) e =
    shape_led lead operand.shape held (row_pieces comma operands helds) e (row_led comma operands helds refl)

-- ---- the words

-- What is printed for a row gives, with a text behind it at a place of a line, words of its own: the mnemonic, and those
-- that give the items of its slots.
pub record GivesWords (pairs : List Pair) (row : Row) (helds : List Held) (comments : Comments) (place : ℕ) (more : List ℕ) : Type 0 where
  pub first : Lexeme
  pub rest : List Lexeme
  pub tokens : tokens_at comments false place (row_text pairs row helds ++ more)
      ≡ (first ∷ rest) ++ tokens_at comments false (place + length (row_text pairs row helds)) more
  pub kind : first.kind ≡ Word
  pub text : first.text ≡ mnemonic_text row
  pub whole : is_suffixed first rest ≡ false
  pub items : items_from pairs first 0 rest ≡ operand_items slot.Gap (row_operands row) helds
  pub plain : list_all is_instruction_token (first ∷ rest) ≡ true
  pub known : have_pairs (pairs_from rest) pairs ≡ true

behind_stops : (more : List ℕ) → is_behind more ≡ true → stops more ≡ true
behind_stops [] e = refl
behind_stops (c ∷ more) e = no_word c e
  where
    no_word : (c : ℕ) → is_blank c ≡ true → not (is_word_byte c) ≡ true
    no_word c e = grind (arith, nat_tests)

-- a word with pieces behind it gives its tokens
word_tokens : (comments : Comments) (pairs : List Pair) (place : ℕ) (w : List ℕ) (ps : List Piece) (more : List ℕ) → is_word_text w ≡ true →
    Good pairs before.name ps → stops more ≡ true →
    tokens_from comments place 0 ((w ++ pieces_text pairs ps) ++ more)
    ≡ (token Word w place ∷ pieces_tokens pairs (place + length w) ps) ++ tokens_from comments (place + length (w ++ pieces_text pairs ps)) 0 more
word_tokens comments pairs place w ps more named good ends =
    let text : List ℕ = pieces_text pairs ps in
    let sum : length (w ++ text) ≡ length w + length text = length-append w text in
    let same : place + length w + length text ≡ place + length (w ++ text) = omega (arith, sum) in
    ap (λ text. tokens_from comments place 0 text) (append_assoc w text more)
    ∙ (word_read comments place w (text ++ more) named (pieces_stop pairs before.name ps more good ends)
    ∙ ap (λ tokens. token Word w place ∷ tokens)
    (pieces_give comments pairs (place + length w) before.name ps more good ends
    ∙ ap (λ end. pieces_tokens pairs (place + length w) ps ++ tokens_from comments end 0 more) same))

row_tokens : (pairs : List Pair) (row : Row) (helds : List Held) (comments : Comments) (place : ℕ) (more : List ℕ) → is_led row.first.shape ≡ true →
    IsPrintable pairs row helds → stops more ≡ true →
    tokens_from comments place 0 (row_text pairs row helds ++ more)
    ≡ (token Word (mnemonic_text row) place ∷ pieces_tokens pairs (place + length (mnemonic_text row)) (row_pieces slot.Gap (row_operands row) helds))
    ++ tokens_from comments (place + length (row_text pairs row helds)) 0 more
unfolding row_text
row_tokens pairs row helds comments place more led printable ends =
    let ps : List Piece = row_pieces slot.Gap (row_operands row) helds in
    let w : List ℕ = mnemonic_text row in
    subst (λ text. tokens_from comments place 0 ((w ++ text) ++ more)
    ≡ (token Word w place ∷ pieces_tokens pairs (place + length w) ps) ++ tokens_from comments (place + length (w ++ text)) 0 more)
    (sym (text_is pairs slot.Gap (row_operands row) helds))
    (word_tokens comments pairs place w ps more printable.mnemonic (row_good pairs row helds led printable) ends)

-- A printed instruction gives its words, whatever stands behind it.
pub row_words : (pairs : List Pair) (row : Row) (helds : List Held) (comments : Comments) (place : ℕ) (more : List ℕ) → is_led row.first.shape ≡ true →
    IsPrintable pairs row helds → is_behind more ≡ true → GivesWords pairs row helds comments place more
unfolding tokens_at
row_words pairs row helds comments place more led printable behind =
    let ps : List Piece = row_pieces slot.Gap (row_operands row) helds in
    let w : List ℕ = mnemonic_text row in
    let good : Good pairs before.name ps = row_good pairs row helds led printable in
    let first : Lexeme = token Word w place in
    let rest : List Lexeme = pieces_tokens pairs (place + length w) ps in
    record {
      first = first;
      rest = rest;
      tokens = row_tokens pairs row helds comments place more led printable (behind_stops more behind);
      kind = refl;
      text = refl;
      whole = no_suffix first rest (pieces_dotless pairs (place + length w) ps (row_led slot.Gap (row_operands row) helds refl) good);
      items = word_pieces pairs w place ps good ∙ sym (items_are slot.Gap (row_operands row) helds);
      plain = pieces_plain pairs (place + length w) ps good.fit;
      known = pieces_have pairs (place + length w) ps good.fit;
    }
