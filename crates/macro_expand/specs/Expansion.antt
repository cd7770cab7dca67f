-- A statement once its macros are expanded and its aliases replaced, by substitution of whole
-- texts.
-- Source: `.macro`, `.req` and `.unreq` of GNU as; the limits are the tool's own.
use Rattle.std.specs.Prelude.{ℕ, zero, suc, ◌+◌, ◌==◌, Bool, true, false, not, ◌&&◌, nat_lt, List, [], ◌∷◌, ◌++◌, codes, length, slice_range, bytes_eq, is_some, Option, None, Some, Result, Ok, Err, if◌then◌else◌}
use Rattle.std.specs.Map.{update}
use Rattle.sl_model.specs.declared.limits.TheConstants.{EXPANSION_SUM, EXPANSION_DEPTH}
use Rattle.sl_model.specs.ResultSteps.{◌>>=◌}
use Rattle.sl_model.specs.Token.{Lexeme}
use Rattle.sl_model.specs.TokenTests.{is_word, touches}
use Rattle.macro_expand.specs.Words.{is_label, is_directive, is_alias, is_empty, words, byte_count, arguments}
use Rattle.macro_expand.specs.Filled.{Names, filled, has_unknown, value_of, replaced}
use Rattle.macro_expand.specs.Source.{What, Row, Statement, Invoked, Note, Piece, on_line, parted}
use Rattle.macro_expand.specs.declared.reasons.ExpandReason.{ExpandReason}
use Rattle.macro_expand.specs.declared.reasons.ExpandReason.TheVariants as reason

-- why there is no expansion: a line and a reason
pub record Refusal : Type 0 where
  pub line : ℕ
  pub reason : ExpandReason

-- a refusal at a line
abbrev pub refused : {A : Type 0} → ℕ → ExpandReason → Result A Refusal
refused line reason = Err (record { line = line; reason = reason })

-- A macro: its parameters, None where no names were given, and what stands in its body.
pub record Macro : Type 0 where
  pub parameters : Option (List (List ℕ))
  pub body : List What

-- What is known so far: the aliases in force, the expansion sum, and the pieces given.
pub record Known : Type 0 where
  pub aliases : Names (List ℕ)
  pub spent : ℕ
  pub given : List Piece

-- a piece more
abbrev pub give : ℕ → What → Known → Known
give line what known = record known { given = known.given ++ on_line line what ∷ [] }

-- a statement counts with its bytes and one more
abbrev pub count : ℕ → List ℕ → Known → Result Known Refusal
count line text known =
    let spent = known.spent + (byte_count text + 1) in
    if nat_lt EXPANSION_SUM spent then refused line (reason.ExpansionSize EXPANSION_SUM)
    else Ok (record known { spent = spent })

-- counts where it is told to
abbrev pub count_if : Bool → ℕ → List ℕ → Known → Result Known Refusal
count_if true line text known = count line text known
count_if false line text known = Ok known

-- ---- aliases

-- Does a name, by what it stands for, stand for another text?
abbrev pub is_other : Option (List ℕ) → List ℕ → Bool
is_other None value = false
is_other (Some old) value = not (bytes_eq old value)

-- what is known, unless a name stands for another text
abbrev pub name_free : ℕ → List ℕ → Option (List ℕ) → Known → Result Known Refusal
name_free line value old known =
    if is_other old value then refused line reason.AliasTwice else Ok known

-- from now on a name stands for a text, or for none
abbrev pub set_alias : List ℕ → Option (List ℕ) → Known → Known
set_alias name value known =
    record known { aliases = update bytes_eq known.aliases name value }

-- `NAME .req TEXT`, given by its words: TEXT itself is replaced
abbrev pub with_alias : ℕ → List ℕ → List Lexeme → Known → Result Known Refusal
with_alias line text (name ∷ dot ∷ req ∷ next ∷ more) known =
    let value = replaced known.aliases text false [] next.start (next ∷ more) in
    name_free line value (known.aliases name.text) known
    >>= count line (slice_range text 0 next.start ++ value)
    >>= λ counted. Ok (set_alias name.text (Some value) counted)
with_alias line text words known = Ok known

-- a name stands for nothing once its statement is counted
abbrev pub ended : List ℕ → Result Known Refusal → Result Known Refusal
ended name counted = counted >>= λ known. Ok (set_alias name None known)

-- `.unreq NAME`, given by its words
abbrev pub without_alias : Bool → ℕ → List ℕ → List Lexeme → Known → Result Known Refusal
without_alias counts line text (dot ∷ unreq ∷ name ∷ []) known =
    if not (touches unreq name) && is_some (known.aliases name.text) then
    ended name.text (count_if counts line text known)
    else refused line reason.AliasUnknown
without_alias counts line text words known = refused line reason.AliasUnknown

-- ---- statements

-- Is a statement a label alone?
abbrev pub is_label_alone : Lexeme → List Lexeme → Bool
is_label_alone first (colon ∷ []) = is_label first colon
is_label_alone first rest = false

-- the macro that words invoke; a label invokes none
abbrev pub invoked : Names Macro → List Lexeme → Option Macro
invoked macros [] = None
invoked macros (first ∷ rest) =
    if is_word first.kind then
    (if is_label_alone first rest then None else macros first.text)
    else None

-- How a body is expanded: at a line, for an invocation's text, with its parameters' values.
abbrev pub Run : Type 0
Run = ℕ → List ℕ → Names (List ℕ) → List What → Known → Result Known Refusal

-- a macro run with arguments, as many as it has parameters
abbrev pub run_with : Run → ℕ → Bool → List ℕ → Macro → List (List ℕ) → List (List ℕ) → Known
    → Result Known Refusal
run_with run line unknown text macro names values known =
    if length values == length names then
    (if unknown then refused line reason.ParamUnknown
    else run line text (value_of names values) macro.body known)
    else refused line reason.ArgCount

-- a macro that has parameters
abbrev pub invoke : Run → ℕ → Bool → List ℕ → Macro → Option (List (List ℕ)) → List (List ℕ)
    → Known → Result Known Refusal
invoke run line unknown text macro None values known = refused line reason.MacroShape
invoke run line unknown text macro (Some names) values known =
    run_with run line unknown text macro names values known

-- what a plain statement gives; nothing and `.endm` are no piece
abbrev pub give_statement : ℕ → List ℕ → List Lexeme → Known → Known
give_statement line text words known =
    if is_empty text then known
    else (if is_directive (codes "endm") words then known
    else give line (Statement text) known)

-- a statement that is no definition, no invocation and no alias
abbrev pub plain : ℕ → List ℕ → List Lexeme → Known → Result Known Refusal
plain line text words known =
    let whole = replaced known.aliases text true [] 0 words in
    count line whole known >>= λ counted. Ok (give_statement line whole words counted)

-- a statement that invokes no macro
abbrev pub uninvoked : ℕ → List ℕ → List Lexeme → Known → Result Known Refusal
uninvoked line text words known =
    if is_alias words then with_alias line text words known
    else (if is_directive (codes "unreq") words then without_alias true line text words known
    else plain line text words known)

-- all but the first of some words
abbrev pub tail : List Lexeme → List Lexeme
tail [] = []
tail (first ∷ more) = more

-- A statement that invokes this macro, or none; `unknown` says that a `\` which names no parameter
-- stood in it.
abbrev pub given_macro : Run → ℕ → Bool → List ℕ → List Lexeme → Option Macro → Known
    → Result Known Refusal
given_macro run line unknown text words (Some macro) known =
    invoke run line unknown text macro macro.parameters (arguments text (tail words)) known
given_macro run line unknown text words None known =
    if unknown then refused line reason.ParamUnknown else uninvoked line text words known

-- Do words begin a definition?
abbrev pub is_macro_head : List Lexeme → Bool
is_macro_head words = is_directive (codes "macro") words

-- a statement of the region or of an expansion
unfoldable pub statement : Names Macro → Run → ℕ → Bool → List ℕ → Known → Result Known Refusal
statement macros run line unknown text known =
    if is_macro_head (words text) then refused line reason.NoEndm
    else given_macro run line unknown text (words text) (invoked macros (words text)) known

-- How a statement is read, if a `\` that names no parameter stood in it or not.
abbrev pub Step : Type 0
Step = Bool → List ℕ → Known → Result Known Refusal

-- the statements of a list, one after the other
unfoldable pub in_turn : (List ℕ → Known → Result Known Refusal) → List (List ℕ) → Known
    → Result Known Refusal
in_turn step [] known = Ok known
in_turn step (text ∷ texts) known = step text known >>= in_turn step texts

-- one thing that stands in a body, with these values for its parameters
abbrev pub expand_one : Step → ℕ → Names (List ℕ) → What → Known → Result Known Refusal
expand_one step line values (Statement text) known =
    in_turn (step (has_unknown values 0 text)) (parted (filled values 0 text)) known
expand_one step line values Row known = Ok (give line Row known)
expand_one step line values Invoked known = Ok known
expand_one step line values (Note note) known = Ok (give line (Note note) known)

-- all that stands in a body
unfoldable pub expand_all : Step → ℕ → Names (List ℕ) → List What → Known → Result Known Refusal
expand_all step line values [] known = Ok known
expand_all step line values (what ∷ body) known =
    expand_one step line values what known >>= expand_all step line values body

-- A body expanded, where it may go so much deeper. The depth falls with each invocation in it, and
-- at each depth the rest of the body.
unfoldable pub run : Names Macro → ℕ → Run
run macros zero line text values body known = refused line (reason.Depth EXPANSION_DEPTH)
run macros (suc deeper) line text values body known =
    count line text known
    >>= λ counted.
    expand_all (statement macros (run macros deeper) line) line values body (give line Row counted)
    >>= λ done.
    Ok (give line Invoked done)
