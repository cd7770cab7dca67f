-- The pieces that the rows of a printed region give, where the text before it is clear.
use Rattle.std.proofs.Common.{◌≡◌, ℕ, ◌+◌, ◌≤◌, Bool, true, false, cond, not, List, [], ◌∷◌, ◌++◌, map, codes, slice_range, is_some, Option, None, Some, Ok, refl, ap, sym, ◌∙◌, arith, append_assoc, append-nil, le-ltb}
use Rattle.std.specs.List.{list_all, AllByRecursion}
use Rattle.std.proofs.lemmas.Bool.{and_parts, and_from}
use Rattle.sl_model.specs.declared.limits.TheConstants.{EXPANSION_SUM, EXPANSION_DEPTH}
use Rattle.sl_model.specs.ResultSteps.{◌>>=◌}
use Rattle.sl_model.specs.Token.{Lexeme, tokens, tokens_at}
use Rattle.sl_model.specs.TokenTests.{is_word}
use Rattle.macro_expand.specs.Words.{byte_count, is_alias, is_directive, last_end, span, words, without_gaps}
use Rattle.macro_expand.specs.Source.{Row, Statement, Note, Piece, on_line}
use Rattle.macro_expand.specs.Expansion.{Known, Macro, count, give, give_statement, given_macro, invoked, is_label_alone, plain, refused, run, statement, uninvoked, with_alias, without_alias}
use Rattle.macro_expand.specs.Filled.{Names, replaced}
use Rattle.macro_expand.specs.declared.reasons.ExpandReason.TheVariants as reason
use Rattle.macro_expand.specs.Region.{Reading, knowing, or_in_open, read_all, region_one, region_statement, with_known, with_open, opening}
use Rattle.asm_printer.specs.Lines.{Printed}
use Rattle.in_place.specs.Clear.{IsStatement, is_undirected, is_unnamed, is_unnamed_text, sum_of}
use Rattle.in_place.proofs.Rows.{item_pieces, region_pieces}
use Rattle.in_place.proofs.Tiled.{AreTiled, is_no_alias, replaced-none}

-- what is known while no definition is open
abbrev pub state : Names Macro → Known → Reading
state macros known = record { macros = macros; opened = None; known = known }

-- ---- words without names

undirected-parts : (a b c d : Bool) → cond a false (cond b false (cond c false (not d))) ≡ true → (a ≡ false) × (b ≡ false) × (c ≡ false) × (d ≡ false)
undirected-parts true b c d e = cc
undirected-parts false true c d e = cc
undirected-parts false false true d e = cc
undirected-parts false false false true e = cc
undirected-parts false false false false e = (refl, refl, refl, refl)

-- no word of these is an alias
unnamed-alias : (reading : Reading) (tokens : List Lexeme) → list_all (is_unnamed reading) tokens ≡ true → list_all (is_no_alias reading.known.aliases) tokens ≡ true
unnamed-alias reading [] free = refl
unnamed-alias reading (token ∷ tokens) free =
    let both = and_parts (is_unnamed reading token) (list_all (is_unnamed reading) tokens) free in
    and_from (is_no_alias reading.known.aliases token) (list_all (is_no_alias reading.known.aliases) tokens)
    (one (is_word token.kind) (is_some (reading.macros token.text)) (is_some (reading.known.aliases token.text)) both.0) (unnamed-alias reading tokens both.1)
  where
    one : (word macro alias : Bool) → cond word (cond macro false (not alias)) true ≡ true → cond word (not alias) true ≡ true
    one true true alias e = cc
    one true false alias e = e
    one false macro alias e = refl

-- and they invoke no macro
none-of : {X : Type 0} (found : Option X) → is_some found ≡ false → found ≡ None
none-of None e = refl
none-of (Some x) e = cc

unnamed-invoked : (reading : Reading) (tokens : List Lexeme) → list_all (is_unnamed reading) tokens ≡ true → invoked reading.macros tokens ≡ None
unnamed-invoked reading [] free = refl
unnamed-invoked reading (first ∷ rest) free =
    let both = and_parts (is_unnamed reading first) (list_all (is_unnamed reading) rest) free in
    one (is_word first.kind) (is_label_alone first rest) (reading.macros first.text) (is_some (reading.known.aliases first.text)) both.0
  where
    one : (word label : Bool) (macro : Option Macro) (alias : Bool) → cond word (cond (is_some macro) false (not alias)) true ≡ true → cond word (cond label None macro) None ≡ None
    one true true macro alias e = refl
    one true false None alias e = refl
    one true false (Some macro) alias e = cc
    one false label macro alias e = refl

-- ---- a statement

-- there is room for what counts
counted : (line : ℕ) (text : List ℕ) (known : Known) → known.spent + (byte_count text + 1) ≤ EXPANSION_SUM → count line text known ≡ Ok (record known { spent = known.spent + (byte_count text + 1) })
counted line text known room =
    ap (λ b. cond b (refused line (reason.ExpansionSize EXPANSION_SUM)) (Ok (record known { spent = known.spent + (byte_count text + 1) })))
    (le-ltb EXPANSION_SUM (known.spent + (byte_count text + 1)) room)

-- the words of a statement reach over it
span-whole : (text : List ℕ) (first : Lexeme) (more : List Lexeme) → first.start ≡ 0 → span text (first ∷ more) ≡ text → slice_range text 0 (last_end first more) ≡ text
span-whole text first more start is = ap (λ n. slice_range text n (last_end first more)) (sym start) ∙ is

-- a text of which no word is an alias stays as it is
same-text : (reading : Reading) (text : List ℕ) (tokens : List Lexeme) → AreTiled text 0 tokens → ((first : Lexeme) (more : List Lexeme) → tokens ≡ first ∷ more → first.start ≡ 0)
    → span text tokens ≡ text → list_all (is_unnamed reading) tokens ≡ true → replaced reading.known.aliases text true [] 0 tokens ≡ text
unfolding replaced
same-text reading text [] tiled begins is free = is
same-text reading text (first ∷ more) tiled begins is free =
    replaced-none reading.known.aliases text true [] 0 first more tiled (unnamed-alias reading (first ∷ more) free)
    ∙ span-whole text first more (begins first more refl) is

-- a text that begins with no blank is some
some-text : (text : List ℕ) (known : Known) (line : ℕ) (tokens : List Lexeme) → Rattle.in_place.specs.Clear.begins_plain text ≡ true → is_directive (codes "endm") tokens ≡ false → give_statement line text tokens known ≡ give line (Statement text) known
some-text [] known line tokens begins endm = absurd cc
some-text (c ∷ text) known line tokens begins endm = ap (λ b. cond b known (give line (Statement (c ∷ text)) known)) endm

-- a printed instruction is a statement that is given as it stands
pub statement-given : (macros : Names Macro) (known : Known) (line : ℕ) (text : List ℕ) → IsStatement text → AreTiled text 0 (words text)
    → ((first : Lexeme) (more : List Lexeme) → words text ≡ first ∷ more → first.start ≡ 0)
    → is_unnamed_text (state macros known) text ≡ true → known.spent + (byte_count text + 1) ≤ EXPANSION_SUM
    → region_statement line text (words text) (state macros known)
    ≡ Ok (state macros (give line (Statement text) (record known { spent = known.spent + (byte_count text + 1) })))
unfolding statement
statement-given macros known line text is tiled begins free room =
    let reading = state macros known in
    let tokens = words text in
    let none = undirected-parts (is_directive (codes "macro") tokens) (is_directive (codes "endm") tokens) (is_directive (codes "unreq") tokens) (is_alias tokens) is.undirected in
    let deeper = run macros EXPANSION_DEPTH in
    let whole : replaced known.aliases text true [] 0 tokens ≡ text = same-text reading text tokens tiled begins is.whole free in
    let plainly : plain line text tokens known ≡ Ok (give line (Statement text) (record known { spent = known.spent + (byte_count text + 1) })) =
    ap (λ t. count line t known >>= λ k. Ok (give_statement line t tokens k)) whole
    ∙ ap (λ r. r >>= λ k. Ok (give_statement line text tokens k)) (counted line text known room)
    ∙ ap Ok (some-text text (record known { spent = known.spent + (byte_count text + 1) }) line tokens is.begins none.1) in
    let uninvoked-is : uninvoked line text tokens known ≡ plain line text tokens known =
    ap (λ b. cond b (with_alias line text tokens known) (cond (is_directive (codes "unreq") tokens) (without_alias true line text tokens known) (plain line text tokens known))) none.3
    ∙ ap (λ b. cond b (without_alias true line text tokens known) (plain line text tokens known)) none.2 in
    let stated : statement macros deeper line false text known ≡ plain line text tokens known =
    ap (λ b. cond b (refused line reason.NoEndm) (given_macro deeper line false text tokens (invoked macros tokens) known)) none.0
    ∙ ap (λ m. given_macro deeper line false text tokens m known) (unnamed-invoked reading tokens free)
    ∙ uninvoked-is in
    ap (λ b. cond b (Ok (with_open (opening true line text) (with_known reading (give line Row known)))) (knowing reading (statement macros deeper line false text known))) none.0
    ∙ ap (knowing reading) (stated ∙ plainly)

-- the empty statement of the first line gives nothing
pub empty-given : (macros : Names Macro) (known : Known) (line : ℕ) → known.spent + (byte_count [] + 1) ≤ EXPANSION_SUM
    → region_statement line [] (words []) (state macros known) ≡ Ok (state macros (record known { spent = known.spent + (byte_count [] + 1) }))
unfolding statement replaced without_gaps tokens_at Rattle.sl_model.specs.Token.tokens_from
empty-given macros known line room =
    ap (λ r. knowing (state macros known) (r >>= λ k. Ok k)) (counted line [] known room)

-- ---- one piece after the other

one-read : (piece : Piece) (pieces : List Piece) (macros : Names Macro) (known : Known) (next : Reading) → Rattle.macro_expand.specs.Region.read_one true piece.line piece.what (state macros known) ≡ Ok next
    → read_all true (piece ∷ pieces) (state macros known) ≡ read_all true pieces next
unfolding read_all
one-read piece pieces macros known next e = ap (λ r. r >>= read_all true pieces) e

none-read : (reading : Reading) → read_all true [] reading ≡ Ok reading
unfolding read_all
none-read reading = refl

-- All is given.
pub record IsGiven (macros : Names Macro) (known : Known) (pieces given : List Piece) : Type 0 where
  pub spent : ℕ
  pub is : read_all true pieces (state macros known) ≡ Ok (state macros (record known { spent = spent; given = known.given ++ given }))

-- What is asked of a printed instruction for this.
pub record IsReady (macros : Names Macro) (aliases : Names (List ℕ)) (printed : Printed) : Type 0 where
  pub statement : IsStatement printed.text
  pub tiled : AreTiled printed.text 0 (words printed.text)
  pub begins : (first : Lexeme) (more : List Lexeme) → words printed.text ≡ first ∷ more → first.start ≡ 0
  pub free : is_unnamed_text (state macros (record { aliases = aliases; spent = 0; given = [] })) printed.text ≡ true

three-given : (given : List Piece) (a b c : Piece) (rest : List Piece) → (((given ++ a ∷ []) ++ b ∷ []) ++ c ∷ []) ++ rest ≡ given ++ a ∷ b ∷ c ∷ rest
three-given given a b c rest = simp append_assoc refl

two-given : (given : List Piece) (a b : Piece) (rest : List Piece) → ((given ++ a ∷ []) ++ b ∷ []) ++ rest ≡ given ++ a ∷ b ∷ rest
two-given given a b rest = simp append_assoc refl

pub items-given : (macros : Names Macro) (known : Known) (number : ℕ) (printed : List Printed) → AllByRecursion (IsReady macros known.aliases) printed
    → known.spent + sum_of (map (λ (p : Printed). p.text) printed) ≤ EXPANSION_SUM → IsGiven macros known (item_pieces number printed) (item_pieces number printed)
unfolding item_pieces sum_of
items-given macros known number [] ready room = record {
  spent = known.spent;
  is = none-read (state macros known) ∙ ap (λ g. Ok (state macros (record known { given = g }))) (sym (append-nil known.given));
}
items-given macros known number (first ∷ more) ready room =
    let row = on_line number Row in
    let text = on_line number (Statement first.text) in
    let note = on_line number (Note first.note) in
    let behind = item_pieces (number + 1) more in
    let begun : Known = give number Row known in
    let stated : Known = give number (Statement first.text) (record begun { spent = known.spent + (byte_count first.text + 1) }) in
    let noted : Known = give number (Note first.note) stated in
    let here : known.spent + (byte_count first.text + 1) ≤ EXPANSION_SUM = omega arith in
    let rest : IsGiven macros noted behind behind = items-given macros noted (number + 1) more ready.1 (omega arith) in
    record {
      spent = rest.spent;
      is =
          one-read row (text ∷ note ∷ behind) macros known (state macros begun) refl
          ∙ one-read text (note ∷ behind) macros begun (state macros stated) (statement-given macros begun number first.text ready.0.statement ready.0.tiled ready.0.begins ready.0.free here)
          ∙ one-read note behind macros stated (state macros noted) refl
          ∙ rest.is
          ∙ ap (λ g. Ok (state macros (record known { spent = rest.spent; given = g }))) (three-given known.given row text note behind);
    }

-- what is given of a printed region
abbrev pub given_pieces : ℕ → List ℕ → List Printed → List Piece
given_pieces number note printed = on_line number Row ∷ on_line number (Note (codes "region" ++ note)) ∷ item_pieces (number + 1) printed

pub region-given : (macros : Names Macro) (known : Known) (number : ℕ) (note : List ℕ) (printed : List Printed) → AllByRecursion (IsReady macros known.aliases) printed
    → known.spent + sum_of ([] ∷ map (λ (p : Printed). p.text) printed) ≤ EXPANSION_SUM → IsGiven macros known (region_pieces number note printed) (given_pieces number note printed)
unfolding sum_of
region-given macros known number note printed ready room =
    let row = on_line number Row in
    let empty = on_line number (Statement []) in
    let first = on_line number (Note (codes "region" ++ note)) in
    let behind = item_pieces (number + 1) printed in
    let begun : Known = give number Row known in
    let stated : Known = record begun { spent = known.spent + (byte_count [] + 1) } in
    let noted : Known = give number (Note (codes "region" ++ note)) stated in
    let here : known.spent + (byte_count [] + 1) ≤ EXPANSION_SUM = omega arith in
    let rest : IsGiven macros noted behind behind = items-given macros noted (number + 1) printed ready (omega arith) in
    record {
      spent = rest.spent;
      is =
          one-read row (empty ∷ first ∷ behind) macros known (state macros begun) refl
          ∙ one-read empty (first ∷ behind) macros begun (state macros stated) (empty-given macros begun number here)
          ∙ one-read first behind macros stated (state macros noted) refl
          ∙ rest.is
          ∙ ap (λ g. Ok (state macros (record known { spent = rest.spent; given = g }))) (two-given known.given row first behind);
    }
