-- The tokens that a printed instruction gives, slot by slot.
use Rattle.std.proofs.Common.{◌≡◌, ◌∙◌, sym, ap, refl, ℕ, suc, ◌+◌, ◌<◌, ◌^◌, ◌==◌, Bool, true, false, cond, List, [], ◌∷◌, ◌++◌, length, length-append, append_assoc, subst, eqb-true, arith}
use Rattle.std.specs.Prelude.{ℤ, pos, negsuc, slice_get, Option, Some, None}
use Rattle.std.specs.Fmt.{decimal}
use Rattle.sl_model.specs.declared.text.Comments.{Comments}
use Rattle.sl_model.specs.declared.text.TokenKind.{TokenKind}
use Rattle.sl_model.specs.declared.text.TokenKind.TheVariants.{Word, Number, Mark}
use Rattle.sl_model.specs.Token.{Lexeme, tokens_from}
use Rattle.form_table.specs.Rows.{name_text}
use Rattle.sl_model.specs.declared.register.Reg.{Reg}
use Rattle.sl_isa.specs.Symbols.{Pair}
use Rattle.form_table.specs.Symbols.{letter_code, is_word_text}
use Rattle.form_table.specs.Printed.{register_name, symbol_name, register_text, number_text, condition_text, slot_text}
use Rattle.form_table.specs.declared.rows.Letter.{Letter}
use Rattle.form_table.specs.declared.rows.Letter.TheVariants as letter
use Rattle.form_table.specs.declared.rows.Name.{Name}
use Rattle.form_table.specs.declared.rows.Name.TheVariants as word
use Rattle.form_table.specs.declared.rows.Slot.{Slot}
use Rattle.form_table.specs.declared.rows.Slot.TheVariants as slot
use Rattle.form_table.specs.declared.spells.Held.{Held}
use Rattle.form_table.proofs.PrintedRuns.{stops, token, IsMark, word_read, run_read, mark_read, blank_passed}
use Rattle.form_table.proofs.PrintedNames.{decimal_run}
use Rattle.form_table.proofs.PrintedPieces.{IsSmall, IsIndex, Piece, pieces_text, Before, name, mark, blank, behind, may_follow, flows, is_printed_mark, FitsBy, FitsRegister, Fits, Good}
use Rattle.sl_laws.proofs.Tests.{then_parts}

-- ---- the tokens

abbrev pub name_kind : Name → TokenKind
name_kind word.Lsl = Word
name_kind word.Lsr = Word
name_kind word.Asr = Word
name_kind word.Ror = Word
name_kind word.Lanes8b = Number
name_kind word.Lanes16b = Number
name_kind word.Lanes4h = Number
name_kind word.Lanes8h = Number
name_kind word.Lanes2s = Number
name_kind word.Lanes4s = Number
name_kind word.Lanes2d = Number
name_kind word.LaneB = Word
name_kind word.LaneH = Word
name_kind word.LaneS = Word
name_kind word.LaneD = Word

-- those of a number
abbrev pub number_tokens : ℕ → Option ℤ → List Lexeme
number_tokens place None = []
number_tokens place (Some (pos n)) = token Number (decimal n) place ∷ []
number_tokens place (Some (negsuc n)) = token Mark (45 ∷ []) place ∷ token Number (decimal (suc n)) (place + 1) ∷ []

-- those of a symbolic register with a name
abbrev pub symbol_tokens : ℕ → Letter → List ℕ → List Lexeme
symbol_tokens place letter text =
    token Word (letter_code letter ∷ []) place ∷ token Mark (60 ∷ []) (place + 1) ∷ token Word text (place + 1 + 1)
    ∷ token Mark (62 ∷ []) (place + 1 + 1 + length text) ∷ []

abbrev pub named_tokens : ℕ → Letter → Option Pair → List Lexeme
named_tokens place letter None = []
named_tokens place letter (Some pair) = symbol_tokens place letter pair.1

-- those of a register, which is symbolic or not
abbrev pub tokens_by : List Pair → ℕ → Letter → Reg → Bool → List Lexeme
tokens_by pairs place letter r true = named_tokens place letter (slice_get pairs r.number)
tokens_by pairs place letter r false = token Word (register_name letter r) place ∷ []

abbrev pub register_tokens : List Pair → ℕ → Letter → Option Reg → List Lexeme
register_tokens pairs place letter None = []
register_tokens pairs place letter (Some r) = tokens_by pairs place letter r r.symbolic

-- those of a slot at a place
abbrev pub slot_tokens : List Pair → ℕ → Held → Slot → List Lexeme
slot_tokens pairs place held slot.Gap = []
slot_tokens pairs place held (slot.Mark code) = token Mark (code ∷ []) place ∷ []
slot_tokens pairs place held (slot.Name n) = token (name_kind n) (name_text n) place ∷ []
slot_tokens pairs place held (slot.Register letter) = register_tokens pairs place letter held.register
slot_tokens pairs place held slot.Number = token Mark (35 ∷ []) place ∷ number_tokens (place + 1) held.number
slot_tokens pairs place held slot.Index = number_tokens place held.number
slot_tokens pairs place held slot.Condition = token Word (condition_text held.number) place ∷ []

abbrev pub pieces_tokens : List Pair → ℕ → List Piece → List Lexeme
pieces_tokens pairs place [] = []
pieces_tokens pairs place (p ∷ ps) = slot_tokens pairs place p.held p.slot ++ pieces_tokens pairs (place + length (slot_text pairs p.held p.slot)) ps

-- ---- from text to tokens

mark_case : (P : ℕ → Type 0) (code k : ℕ) (rest : Bool) → P k → (rest ≡ true → P code) →
    cond (code == k) true rest ≡ true → P code
mark_case P code k rest here more e = by (code == k) refl e
  where
    by : (b : Bool) → (code == k) ≡ b → cond b true rest ≡ true → P code
    by true is e = subst P (sym (eqb-true code k is)) here
    by false is e = more e

-- what holds of each printed mark
pub mark_cases : (P : ℕ → Type 0) → P 46 → P 44 → P 91 → P 93 → P 33 → (code : ℕ) → is_printed_mark code ≡ true → P code
mark_cases P a b c d e code is =
    mark_case P code 46 _ a (mark_case P code 44 _ b (mark_case P code 91 _ c (mark_case P code 93 _ d
    (λ last. subst P (sym (eqb-true code 33 last)) e)))) is

-- what holds of each name holds of all
pub each_name : (P : Name → Type 0) → P word.Lsl → P word.Lsr → P word.Asr → P word.Ror → P word.Lanes8b → P word.Lanes16b → P word.Lanes4h → P word.Lanes8h → P word.Lanes2s → P word.Lanes4s → P word.Lanes2d
    → P word.LaneB → P word.LaneH → P word.LaneS → P word.LaneD → (n : Name) → P n
each_name P a b c d e f g h i j k l m n o word.Lsl = a
each_name P a b c d e f g h i j k l m n o word.Lsr = b
each_name P a b c d e f g h i j k l m n o word.Asr = c
each_name P a b c d e f g h i j k l m n o word.Ror = d
each_name P a b c d e f g h i j k l m n o word.Lanes8b = e
each_name P a b c d e f g h i j k l m n o word.Lanes16b = f
each_name P a b c d e f g h i j k l m n o word.Lanes4h = g
each_name P a b c d e f g h i j k l m n o word.Lanes8h = h
each_name P a b c d e f g h i j k l m n o word.Lanes2s = i
each_name P a b c d e f g h i j k l m n o word.Lanes4s = j
each_name P a b c d e f g h i j k l m n o word.Lanes2d = k
each_name P a b c d e f g h i j k l m n o word.LaneB = l
each_name P a b c d e f g h i j k l m n o word.LaneH = m
each_name P a b c d e f g h i j k l m n o word.LaneS = n
each_name P a b c d e f g h i j k l m n o word.LaneD = o

is_46 : IsMark 46
is_46 = record { opens = record { ascii = omega arith; slash = refl; at = refl; blank = refl }; no_word = refl; no_digit = refl }

is_44 : IsMark 44
is_44 = record { opens = record { ascii = omega arith; slash = refl; at = refl; blank = refl }; no_word = refl; no_digit = refl }

is_91 : IsMark 91
is_91 = record { opens = record { ascii = omega arith; slash = refl; at = refl; blank = refl }; no_word = refl; no_digit = refl }

is_93 : IsMark 93
is_93 = record { opens = record { ascii = omega arith; slash = refl; at = refl; blank = refl }; no_word = refl; no_digit = refl }

is_33 : IsMark 33
is_33 = record { opens = record { ascii = omega arith; slash = refl; at = refl; blank = refl }; no_word = refl; no_digit = refl }

is_60 : IsMark 60
is_60 = record { opens = record { ascii = omega arith; slash = refl; at = refl; blank = refl }; no_word = refl; no_digit = refl }

is_62 : IsMark 62
is_62 = record { opens = record { ascii = omega arith; slash = refl; at = refl; blank = refl }; no_word = refl; no_digit = refl }

is_35 : IsMark 35
is_35 = record { opens = record { ascii = omega arith; slash = refl; at = refl; blank = refl }; no_word = refl; no_digit = refl }

is_45 : IsMark 45
is_45 = record { opens = record { ascii = omega arith; slash = refl; at = refl; blank = refl }; no_word = refl; no_digit = refl }

-- A text at a place gives these tokens, and then those behind it.
abbrev AreTokens : Comments → ℕ → List ℕ → List Lexeme → List ℕ → Type 0
AreTokens comments place text tokens more = tokens_from comments place 0 (text ++ more) ≡ tokens ++ tokens_from comments (place + length text) 0 more

number_gives : (comments : Comments) (place : ℕ) (o : Option ℤ) (more : List ℕ) → IsSmall o → stops more ≡ true →
    AreTokens comments place (number_text o) (number_tokens place o) more
number_gives comments place None more small ends = absurd small
number_gives comments place (Some (pos n)) more small ends = run_read comments place (decimal n) more (decimal_run n (omega arith)) ends
number_gives comments place (Some (negsuc n)) more small ends =
    let less : suc n < 2 ^ 64 = omega arith in
    let same : place + 1 + length (decimal (suc n)) ≡ place + suc (length (decimal (suc n))) = omega arith in
    mark_read comments place 45 (decimal (suc n) ++ more) is_45
    ∙ ap (λ rest. token Mark (45 ∷ []) place ∷ rest)
    (run_read comments (place + 1) (decimal (suc n)) more (decimal_run (suc n) less) ends
    ∙ ap (λ end. token Number (decimal (suc n)) (place + 1) ∷ tokens_from comments end 0 more) same)

index_small : (o : Option ℤ) → IsIndex o → IsSmall o
index_small None i = i
index_small (Some (pos n)) i = i
index_small (Some (negsuc n)) i = absurd i

hash_gives : (comments : Comments) (place : ℕ) (o : Option ℤ) (more : List ℕ) → IsSmall o → stops more ≡ true →
    AreTokens comments place (35 ∷ number_text o) (token Mark (35 ∷ []) place ∷ number_tokens (place + 1) o) more
hash_gives comments place o more small ends =
    let same : place + 1 + length (number_text o) ≡ place + suc (length (number_text o)) = omega arith in
    mark_read comments place 35 (number_text o ++ more) is_35
    ∙ ap (λ rest. token Mark (35 ∷ []) place ∷ rest)
    (number_gives comments (place + 1) o more small ends
    ∙ ap (λ end. number_tokens (place + 1) o ++ tokens_from comments end 0 more) same)

comma_gives : (comments : Comments) (place : ℕ) (more : List ℕ) →
    AreTokens comments place (44 ∷ 32 ∷ []) (token Mark (44 ∷ []) place ∷ []) more
comma_gives comments place more =
    let same : place + 1 + 1 ≡ place + 2 = omega arith in
    mark_read comments place 44 (32 ∷ more) is_44
    ∙ ap (λ rest. token Mark (44 ∷ []) place ∷ rest)
    (blank_passed comments (place + 1) more ∙ ap (λ end. tokens_from comments end 0 more) same)

mark_gives : (comments : Comments) (pairs : List Pair) (place : ℕ) (held : Held) (more : List ℕ) (code : ℕ) → is_printed_mark code ≡ true →
    AreTokens comments place (slot_text pairs held (slot.Mark code)) (token Mark (code ∷ []) place ∷ []) more
unfolding slot_text
mark_gives comments pairs place held more code is =
    mark_cases (λ c. AreTokens comments place (slot_text pairs held (slot.Mark c)) (token Mark (c ∷ []) place ∷ []) more)
    (mark_read comments place 46 more is_46) (comma_gives comments place more) (mark_read comments place 91 more is_91)
    (mark_read comments place 93 more is_93) (mark_read comments place 33 more is_33) code is

name_gives : (comments : Comments) (place : ℕ) (n : Name) (more : List ℕ) → stops more ≡ true →
    AreTokens comments place (name_text n) (token (name_kind n) (name_text n) place ∷ []) more
name_gives comments place word.Lsl more ends = word_read comments place (name_text word.Lsl) more refl ends
name_gives comments place word.Lsr more ends = word_read comments place (name_text word.Lsr) more refl ends
name_gives comments place word.Asr more ends = word_read comments place (name_text word.Asr) more refl ends
name_gives comments place word.Ror more ends = word_read comments place (name_text word.Ror) more refl ends
name_gives comments place word.Lanes8b more ends = run_read comments place (name_text word.Lanes8b) more refl ends
name_gives comments place word.Lanes16b more ends = run_read comments place (name_text word.Lanes16b) more refl ends
name_gives comments place word.Lanes4h more ends = run_read comments place (name_text word.Lanes4h) more refl ends
name_gives comments place word.Lanes8h more ends = run_read comments place (name_text word.Lanes8h) more refl ends
name_gives comments place word.Lanes2s more ends = run_read comments place (name_text word.Lanes2s) more refl ends
name_gives comments place word.Lanes4s more ends = run_read comments place (name_text word.Lanes4s) more refl ends
name_gives comments place word.Lanes2d more ends = run_read comments place (name_text word.Lanes2d) more refl ends
name_gives comments place word.LaneB more ends = word_read comments place (name_text word.LaneB) more refl ends
name_gives comments place word.LaneH more ends = word_read comments place (name_text word.LaneH) more refl ends
name_gives comments place word.LaneS more ends = word_read comments place (name_text word.LaneS) more refl ends
name_gives comments place word.LaneD more ends = word_read comments place (name_text word.LaneD) more refl ends

-- a letter is a word
letter_word : (l : Letter) → is_word_text (letter_code l ∷ []) ≡ true
letter_word letter.X = refl
letter_word letter.W = refl
letter_word letter.V = refl
letter_word letter.Q = refl
letter_word letter.D = refl
letter_word letter.S = refl
letter_word letter.R = refl

symbol_gives : (comments : Comments) (place : ℕ) (l : Letter) (pair : Pair) (more : List ℕ) → is_word_text pair.1 ≡ true →
    AreTokens comments place (symbol_name l (Some pair)) (symbol_tokens place l pair.1) more
unfolding symbol_name
symbol_gives comments place l pair more is_word =
    let text : List ℕ = pair.1 in
    let inner : List ℕ = text ++ 62 ∷ [] in
    let joined : inner ++ more ≡ text ++ 62 ∷ more = append_assoc text (62 ∷ []) more in
    let sum : length inner ≡ length text + 1 = length-append text (62 ∷ []) in
    let same : place + 1 + 1 + length text + 1 ≡ place + suc (suc (length inner)) = omega (arith, sum) in
    word_read comments place (letter_code l ∷ []) (60 ∷ (inner ++ more)) (letter_word l) refl
    ∙ ap (λ rest. token Word (letter_code l ∷ []) place ∷ rest)
    (mark_read comments (place + 1) 60 (inner ++ more) is_60
    ∙ ap (λ rest. token Mark (60 ∷ []) (place + 1) ∷ rest)
    (ap (tokens_from comments (place + 1 + 1) 0) joined
    ∙ (word_read comments (place + 1 + 1) text (62 ∷ more) is_word refl
    ∙ ap (λ rest. token Word text (place + 1 + 1) ∷ rest)
    (mark_read comments (place + 1 + 1 + length text) 62 more is_62
    ∙ ap (λ end. token Mark (62 ∷ []) (place + 1 + 1 + length text) ∷ tokens_from comments end 0 more) same))))

register_gives : (comments : Comments) (pairs : List Pair) (place : ℕ) (l : Letter) (o : Option Reg) (more : List ℕ) → FitsRegister pairs l o → stops more ≡ true →
    AreTokens comments place (register_text pairs l o) (register_tokens pairs place l o) more
register_gives comments pairs place l None more fit ends = absurd fit
register_gives comments pairs place l (Some r) more fit ends = by r.symbolic fit
  where
    by : (b : Bool) → FitsBy pairs l r b → AreTokens comments place (cond b (symbol_name l (slice_get pairs r.number)) (register_name l r)) (tokens_by pairs place l r b) more
    by true fit =
        subst (λ o. AreTokens comments place (symbol_name l o) (named_tokens place l o) more) (sym fit.at)
        (symbol_gives comments place l fit.pair more fit.is_word)
    by false fit = word_read comments place (register_name l r) more fit ends

-- Does what a slot prints end where a text begins?
abbrev ends_before : Before → List ℕ → Bool
ends_before name more = stops more
ends_before mark more = true
ends_before blank more = true

slot_gives : (comments : Comments) (pairs : List Pair) (place : ℕ) (held : Held) (s : Slot) (more : List ℕ) → Fits pairs held s →
    ends_before (behind s) more ≡ true →
    AreTokens comments place (slot_text pairs held s) (slot_tokens pairs place held s) more
unfolding slot_text
slot_gives comments pairs place held slot.Gap more fit ends = blank_passed comments place more
slot_gives comments pairs place held (slot.Mark code) more fit ends = mark_gives comments pairs place held more code fit
slot_gives comments pairs place held (slot.Name n) more fit ends = name_gives comments place n more ends
slot_gives comments pairs place held (slot.Register l) more fit ends = register_gives comments pairs place l held.register more fit ends
slot_gives comments pairs place held slot.Number more fit ends = hash_gives comments place held.number more fit ends
slot_gives comments pairs place held slot.Index more fit ends = number_gives comments place held.number more (index_small held.number fit) ends
slot_gives comments pairs place held slot.Condition more fit ends = word_read comments place (condition_text held.number) more fit ends

-- what stands behind a word or a number does not go on with it
slot_stops : (pairs : List Pair) (held : Held) (s : Slot) (more : List ℕ) → may_follow name (behind s) ≡ true → Fits pairs held s →
    stops (slot_text pairs held s ++ more) ≡ true
unfolding slot_text
slot_stops pairs held slot.Gap more may fit = refl
slot_stops pairs held (slot.Mark code) more may fit =
    mark_cases (λ c. stops (slot_text pairs held (slot.Mark c) ++ more) ≡ true) refl refl refl refl refl code fit
slot_stops pairs held (slot.Name n) more may fit = absurd cc
slot_stops pairs held (slot.Register letter) more may fit = absurd cc
slot_stops pairs held slot.Number more may fit = absurd cc
slot_stops pairs held slot.Index more may fit = absurd cc
slot_stops pairs held slot.Condition more may fit = absurd cc

pub pieces_stop : (pairs : List Pair) (before : Before) (ps : List Piece) (more : List ℕ) → Good pairs before ps → stops more ≡ true →
    ends_before before (pieces_text pairs ps ++ more) ≡ true
pieces_stop pairs mark ps more good ends = refl
pieces_stop pairs blank ps more good ends = refl
pieces_stop pairs name [] more good ends = ends
pieces_stop pairs name (p ∷ ps) more good ends =
    let parts = then_parts (may_follow name (behind p.slot)) (flows (behind p.slot) ps) good.flow in
    ap stops (append_assoc (slot_text pairs p.held p.slot) (pieces_text pairs ps) more)
    ∙ slot_stops pairs p.held p.slot (pieces_text pairs ps ++ more) parts.0 good.fit.0

-- pieces give their tokens
pub pieces_give : (comments : Comments) (pairs : List Pair) (place : ℕ) (before : Before) (ps : List Piece) (more : List ℕ) → Good pairs before ps →
    stops more ≡ true →
    tokens_from comments place 0 (pieces_text pairs ps ++ more) ≡ pieces_tokens pairs place ps ++ tokens_from comments (place + length (pieces_text pairs ps)) 0 more
pieces_give comments pairs place before [] more good ends = let same : place ≡ place + 0 = omega arith in ap (λ n. tokens_from comments n 0 more) same
pieces_give comments pairs place before (p ∷ ps) more good ends =
    let parts = then_parts (may_follow before (behind p.slot)) (flows (behind p.slot) ps) good.flow in
    let later : Good pairs (behind p.slot) ps = record { flow = parts.1; fit = good.fit.1 } in
    let text : List ℕ = slot_text pairs p.held p.slot in
    let others : List ℕ = pieces_text pairs ps in
    let next : ℕ = place + length text in
    let first = slot_gives comments pairs place p.held p.slot (others ++ more) good.fit.0 (pieces_stop pairs (behind p.slot) ps more later ends) in
    let rest = pieces_give comments pairs next (behind p.slot) ps more later ends in
    let sum : length (text ++ others) ≡ length text + length others = length-append text others in
    let same : place + length text + length others ≡ place + length (text ++ others) = omega (arith, sum) in
    ap (λ t. tokens_from comments place 0 t) (append_assoc text others more)
    ∙ (first ∙ (ap (λ tokens. slot_tokens pairs place p.held p.slot ++ tokens)
    (rest ∙ ap (λ end. pieces_tokens pairs next ps ++ tokens_from comments end 0 more) same)
    ∙ sym (append_assoc (slot_tokens pairs place p.held p.slot) (pieces_tokens pairs next ps)
    (tokens_from comments (place + length (text ++ others)) 0 more))))
