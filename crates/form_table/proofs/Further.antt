-- Further pairs change nothing of what is read, and names nothing of an instruction without symbolic registers.
use Rattle.std.proofs.Common.{◌≡◌, ◌∙◌, sym, ap, refl, ℕ, zero, suc, ◌+◌, ◌-◌, ◌&&◌, Bool, true, false, cond, not, List, [], ◌∷◌, ◌++◌}
use Rattle.std.specs.Prelude.{Option, Some, None, slice_get, slice_index_or, Err}
use Rattle.std.specs.List.{list_all, filter_map}
use Rattle.std.proofs.lemmas.Bool.{and_parts}
use Rattle.sl_model.specs.declared.register.Reg.{Reg}
use Rattle.sl_model.specs.declared.instruction.Instr.{Instr}
use Rattle.sl_model.specs.Source.{operands}
use Rattle.sl_model.specs.Token.{Lexeme}
use Rattle.sl_isa.specs.Symbols.{Pair, has_pair, number_of, have_pairs}
use Rattle.sl_isa.specs.Language.{is_concrete, IsConcrete}
use Rattle.sl_isa.specs.declared.reasons.FormReason.TheVariants.{UnknownMnemonic}
use Rattle.sl_isa.proofs.ForCallers.{has_pair-longer, number_of-longer}
use Rattle.form_table.specs.Symbols.{letter_bank, Symbol, symbol_at, pair_if, first_pairs, pairs_from, pairs_in}
use Rattle.form_table.specs.Items.{Item, symbol, found_number, item_or, symbol_or, first_item, is_apart, behind_blank, items_from}
use Rattle.form_table.specs.Rows.{row_operands, mnemonic_text, slots_of}
use Rattle.form_table.specs.Spells.{comma}
use Rattle.form_table.specs.Reads.{fit_from, knows, with_fit, reads}
use Rattle.form_table.specs.Printed.{register_name, symbol_name, register_text, slot_text, slots_text, has_number, one_if, among_outs, among_ins, register_in, held_in, helds_in, operands_text, row_text, row_printed, printed}
use Rattle.form_table.specs.declared.rows.Letter.{Letter}
use Rattle.form_table.specs.declared.rows.Slot.{Slot}
use Rattle.form_table.specs.declared.rows.Slot.TheVariants as slot
use Rattle.form_table.specs.declared.rows.Operand.{Operand}
use Rattle.form_table.specs.declared.rows.Row.{Row}
use Rattle.form_table.specs.declared.spells.Held.{Held}
use Rattle.form_table.proofs.Few.{have_parts}

-- ---- further pairs

found_further : (pairs others : List Pair) (o : Option Symbol) (other : Item × ℕ) → have_pairs (pair_if o) pairs ≡ true → symbol_or (pairs ++ others) o other ≡ symbol_or pairs o other
found_further pairs others None other have = refl
found_further pairs others (Some s) other have =
    let has : has_pair (letter_bank s.letter) s.name pairs ≡ true = (and_parts (has_pair (letter_bank s.letter) s.name pairs) true have).0 in
    let found : ℕ → Item × ℕ = λ n. (symbol s.letter n, 4) in
    ap (λ b. cond b (symbol s.letter (number_of (letter_bank s.letter) s.name (pairs ++ others)), 4) other) (has_pair-longer (letter_bank s.letter) s.name pairs others has)
    ∙ (ap (λ n. (symbol s.letter n, 4)) (number_of-longer (letter_bank s.letter) s.name pairs others has)
    ∙ sym (ap (λ b. cond b (symbol s.letter (number_of (letter_bank s.letter) s.name pairs), 4) other) has))

first_further : (pairs others : List Pair) (t : Lexeme) (tokens : List Lexeme) → have_pairs (first_pairs (t ∷ tokens)) pairs ≡ true
    → first_item (pairs ++ others) (t ∷ tokens) ≡ first_item pairs (t ∷ tokens)
unfolding first_item
first_further pairs others t tokens have = found_further pairs others (symbol_at (t ∷ tokens)) (item_or (found_number (t ∷ tokens)) t) have

items_further : (pairs others : List Pair) (before : Lexeme) (taken : ℕ) (tokens : List Lexeme) → have_pairs (pairs_from tokens) pairs ≡ true
    → items_from (pairs ++ others) before taken tokens ≡ items_from pairs before taken tokens
unfolding items_from pairs_from
items_further pairs others before taken [] have = refl
items_further pairs others before (suc taken) (t ∷ tokens) have =
    items_further pairs others t taken tokens (have_parts (first_pairs (t ∷ tokens)) (pairs_from tokens) pairs have).1
items_further pairs others before zero (t ∷ tokens) have =
    let parts = have_parts (first_pairs (t ∷ tokens)) (pairs_from tokens) pairs have in
    ap (λ (f : Item × ℕ). behind_blank (is_apart before t) f.0 ++ items_from (pairs ++ others) t (f.1 - 1) tokens) (first_further pairs others t tokens parts.0)
    ∙ ap (λ items. behind_blank (is_apart before t) (first_item pairs (t ∷ tokens)).0 ++ items)
    (items_further pairs others t ((first_item pairs (t ∷ tokens)).1 - 1) tokens parts.1)

-- Further pairs change nothing of what is read.
pub reads_further : (table : List Row) (pairs others : List Pair) (words : List Lexeme) → have_pairs (pairs_in words) pairs ≡ true
    → reads table (pairs ++ others) words ≡ reads table pairs words
unfolding reads pairs_in
reads_further table pairs others [] have = refl
reads_further table pairs others (first ∷ tokens) have =
    ap (λ items. cond (knows table first tokens) (with_fit table (fit_from 0 table first.text items)) (Err UnknownMnemonic))
    (items_further pairs others first 0 tokens have)

-- ---- no symbolic registers

-- Is a register one of the machine, if there is one?
abbrev is_plain : Option Reg → Bool
is_plain None = true
is_plain (Some r) = is_concrete r

plain_at : (places : List (Option Reg)) (k : ℕ) → list_all is_concrete (filter_map (λ r. r) places) ≡ true → is_plain (slice_index_or places k None) ≡ true
plain_at [] k e = refl
plain_at (None ∷ places) zero e = refl
plain_at (None ∷ places) (suc k) e = plain_at places k e
plain_at (Some r ∷ places) zero e = (and_parts (is_concrete r) (list_all is_concrete (filter_map (λ r. r) places)) e).0
plain_at (Some r ∷ places) (suc k) e = plain_at places k (and_parts (is_concrete r) (list_all is_concrete (filter_map (λ r. r) places)) e).1

plain_register : (i : Instr) (operand : Operand) (ins outs : ℕ) → IsConcrete i → is_plain (register_in i operand ins outs) ≡ true
plain_register i operand ins outs concrete = by (among_outs operand) (among_ins operand)
  where
    by : (a b : Bool) → is_plain (cond a (slice_index_or i.outs outs None) (cond b (slice_index_or i.ins ins None) None)) ≡ true
    by true b = plain_at i.outs outs concrete.outputs_concrete
    by false true = plain_at i.ins ins concrete.operands_concrete
    by false false = refl

plain_helds : (i : Instr) (operands : List Operand) (ins outs numbers : ℕ) → IsConcrete i → list_all (λ held. is_plain held.register) (helds_in i operands ins outs numbers) ≡ true
unfolding helds_in held_in
plain_helds i [] ins outs numbers concrete = refl
plain_helds i (operand ∷ operands) ins outs numbers concrete =
    let rest : List Held = helds_in i operands (ins + one_if (among_ins operand)) (outs + one_if (among_outs operand)) (numbers + one_if (has_number operand.shape)) in
    ap (λ b. b && list_all (λ (held : Held). is_plain held.register) rest) (plain_register i operand ins outs concrete)
    ∙ plain_helds i operands (ins + one_if (among_ins operand)) (outs + one_if (among_outs operand)) (numbers + one_if (has_number operand.shape)) concrete

register_alike : (pairs : List Pair) (l : Letter) (o : Option Reg) → is_plain o ≡ true → register_text pairs l o ≡ register_text [] l o
register_alike pairs l None e = refl
register_alike pairs l (Some r) e = by r.symbolic e
  where
    by : (b : Bool) → not b ≡ true → cond b (symbol_name l (slice_get pairs r.number)) (register_name l r) ≡ cond b (symbol_name l (slice_get [] r.number)) (register_name l r)
    by true e = absurd cc
    by false e = refl

slot_alike : (pairs : List Pair) (held : Held) (s : Slot) → is_plain held.register ≡ true → slot_text pairs held s ≡ slot_text [] held s
unfolding slot_text
slot_alike pairs held slot.Gap e = refl
slot_alike pairs held (slot.Mark code) e = refl
slot_alike pairs held (slot.Name name) e = refl
slot_alike pairs held (slot.Register l) e = register_alike pairs l held.register e
slot_alike pairs held slot.Number e = refl
slot_alike pairs held slot.Index e = refl
slot_alike pairs held slot.Condition e = refl

slots_alike : (pairs : List Pair) (held : Held) (slots : List Slot) → is_plain held.register ≡ true → slots_text pairs held slots ≡ slots_text [] held slots
unfolding slots_text
slots_alike pairs held [] e = refl
slots_alike pairs held (s ∷ slots) e =
    ap (λ text. text ++ slots_text pairs held slots) (slot_alike pairs held s e) ∙ ap (λ text. slot_text [] held s ++ text) (slots_alike pairs held slots e)

operands_alike : (pairs : List Pair) (lead : Slot) (operands : List Operand) (helds : List Held) → list_all (λ held. is_plain held.register) helds ≡ true
    → operands_text pairs lead operands helds ≡ operands_text [] lead operands helds
unfolding operands_text
operands_alike pairs lead [] helds e = refl
operands_alike pairs lead (operand ∷ operands) [] e = refl
operands_alike pairs lead (operand ∷ operands) (held ∷ helds) e =
    let parts = and_parts (is_plain held.register) (list_all (λ (held : Held). is_plain held.register) helds) e in
    ap (λ text. text ++ operands_text pairs comma operands helds) (slots_alike pairs held (slots_of lead operand.shape) parts.0)
    ∙ ap (λ text. slots_text [] held (slots_of lead operand.shape) ++ text) (operands_alike pairs comma operands helds parts.1)

row_alike : (pairs : List Pair) (o : Option Row) (i : Instr) → IsConcrete i → row_printed pairs o i ≡ row_printed [] o i
unfolding row_text
row_alike pairs None i concrete = refl
row_alike pairs (Some row) i concrete =
    ap (λ text. mnemonic_text row ++ text)
    (operands_alike pairs slot.Gap (row_operands row) (helds_in i (row_operands row) 0 0 0) (plain_helds i (row_operands row) 0 0 0 concrete))

-- An instruction without symbolic registers is printed alike with any names.
pub plain_printed : (table : List Row) (pairs : List Pair) (i : Instr) → IsConcrete i → printed table pairs i ≡ printed table [] i
unfolding printed
plain_printed table pairs i concrete = row_alike pairs (slice_get table i.form) i concrete
