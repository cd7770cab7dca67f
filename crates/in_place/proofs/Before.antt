-- The text before a region gives no pieces.
use Rattle.std.proofs.Common.{◌≡◌, ℕ, ◌+◌, nat_lt, not, ◌&&◌, slice_range, Bool, true, false, cond, List, [], ◌∷◌, ◌++◌, codes, is_some, Option, None, Some, Result, Ok, Err, IfOk, IfSome, refl, ◌∙◌, subst, if◌then◌else◌}
use Rattle.sl_model.specs.ResultSteps.{◌>>=◌}
use Rattle.sl_model.specs.Token.{Lexeme}
use Rattle.sl_model.specs.TokenTests.{touches}
use Rattle.sl_model.specs.declared.limits.TheConstants.{EXPANSION_SUM}
use Rattle.macro_expand.specs.Words.{byte_count, is_alias, is_directive, is_empty, words}
use Rattle.macro_expand.specs.Source.{What, Row, Statement, Invoked, Note, Piece}
use Rattle.macro_expand.specs.Expansion.{Known, Macro, Refusal, count, invoked, is_other, name_free, refused, set_alias, with_alias, without_alias}
use Rattle.macro_expand.specs.Filled.{Names, kept, replaced}
use Rattle.macro_expand.specs.declared.reasons.ExpandReason.TheVariants as reason
use Rattle.macro_expand.specs.Region.{Open, Reading, before_one, before_statement, close, define, in_open, knowing, note_in_open, or_in_open, read_all, statement_in_open, with_known, with_more, with_open, nothing_known, opening}

-- Nothing was given yet, and no definition of the region is open.
pub record IsSilent (reading : Reading) : Type 0 where
  pub given : reading.known.given ≡ []
  pub quiet : IfSome reading.opened (λ (opened : Open). opened.counts ≡ false)

-- what holds of either of two answers
module _ {X E : Type 0} (P : X → Type 0) where
  either-ok : (b : Bool) (x y : Result X E) → IfOk x P → IfOk y P → IfOk (cond b x y) P
  either-ok true x y first second = first
  either-ok false x y first second = second

module _ {X Y E : Type 0} (P : X → Type 0) (Q : Y → Type 0) where
  -- and of a step behind another
  then-ok : (r : Result X E) (next : X → Result Y E) → IfOk r P → ((x : X) → P x → IfOk (next x) Q) → IfOk (r >>= next) Q
  then-ok (Ok x) next holds step = step x holds
  then-ok (Err e) next holds step = tt

-- ---- aliases give nothing

abbrev SameGiven : Known → Known → Type 0
SameGiven known new = new.given ≡ known.given

count-given : (line : ℕ) (text : List ℕ) (known : Known) → IfOk (count line text known) (SameGiven known)
count-given line text known =
    let spent = known.spent + (byte_count text + 1) in
    either-ok (SameGiven known) (nat_lt EXPANSION_SUM spent) (refused line (reason.ExpansionSize EXPANSION_SUM)) (Ok (record known { spent = spent })) tt refl

free-given : (line : ℕ) (value : List ℕ) (old : Option (List ℕ)) (known : Known) → IfOk (name_free line value old known) (SameGiven known)
free-given line value old known = either-ok (SameGiven known) (is_other old value) (refused line reason.AliasTwice) (Ok known) tt refl

more-given : (free known : Known) → SameGiven known free → (answer : Result Known Refusal) → IfOk answer (SameGiven free) → IfOk answer (SameGiven known)
more-given free known same (Ok new) more = more ∙ same
more-given free known same (Err refusal) more = tt

alias-given : (line : ℕ) (text : List ℕ) (tokens : List Lexeme) (known : Known) → IfOk (with_alias line text tokens known) (SameGiven known)
alias-given line text [] known = refl
alias-given line text (name ∷ []) known = refl
alias-given line text (name ∷ dot ∷ []) known = refl
alias-given line text (name ∷ dot ∷ req ∷ []) known = refl
alias-given line text (name ∷ dot ∷ req ∷ next ∷ more) known =
    let value = replaced known.aliases text false [] next.start (next ∷ more) in
    let whole = slice_range text 0 next.start ++ value in
    then-ok (SameGiven known) (SameGiven known) (name_free line value (known.aliases name.text) known >>= count line whole) (λ counted. Ok (set_alias name.text (Some value) counted))
    (then-ok (SameGiven known) (SameGiven known) (name_free line value (known.aliases name.text) known) (count line whole) (free-given line value (known.aliases name.text) known)
    (λ free same. more-given free known same (count line whole free) (count-given line whole free)))
    (λ counted same. same)

unalias-given : (line : ℕ) (text : List ℕ) (tokens : List Lexeme) (known : Known) → IfOk (without_alias false line text tokens known) (SameGiven known)
unalias-given line text [] known = tt
unalias-given line text (dot ∷ []) known = tt
unalias-given line text (dot ∷ unreq ∷ []) known = tt
unalias-given line text (dot ∷ unreq ∷ name ∷ []) known =
    either-ok (SameGiven known) (not (touches unreq name) && is_some (known.aliases name.text)) (Ok (set_alias name.text None known)) (refused line reason.AliasUnknown) refl tt
unalias-given line text (dot ∷ unreq ∷ name ∷ other ∷ more) known = tt

-- ---- what stands before a region

knowing-silent : (reading : Reading) (answer : Result Known Refusal) → IsSilent reading → IfOk answer (SameGiven reading.known) → IfOk (knowing reading answer) IsSilent
knowing-silent reading (Ok known) silent same = record { given = same ∙ silent.given; quiet = silent.quiet }
knowing-silent reading (Err refusal) silent same = tt

statement-silent : (line : ℕ) (text : List ℕ) (tokens : List Lexeme) (reading : Reading) → IsSilent reading → IfOk (before_statement line text tokens reading) IsSilent
statement-silent line text tokens reading silent =
    let begun = with_open (opening false line text) reading in
    let named = knowing reading (with_alias line text tokens reading.known) in
    let ends = knowing reading (without_alias false line text tokens reading.known) in
    let unnamed = if is_directive (codes "unreq") tokens then ends else Ok reading in
    let other = if is_alias tokens then named else unnamed in
    either-ok IsSilent (is_directive (codes "macro") tokens) (Ok begun) (if is_some (invoked reading.macros tokens) then Ok reading else other) (record { given = silent.given; quiet = refl })
    (either-ok IsSilent (is_some (invoked reading.macros tokens)) (Ok reading) other silent
    (either-ok IsSilent (is_alias tokens) named unnamed (knowing-silent reading (with_alias line text tokens reading.known) silent (alias-given line text tokens reading.known))
    (either-ok IsSilent (is_directive (codes "unreq") tokens) ends (Ok reading) (knowing-silent reading (without_alias false line text tokens reading.known) silent (unalias-given line text tokens reading.known)) silent)))

before-silent : (line : ℕ) (what : What) (reading : Reading) → IsSilent reading → IfOk (before_one line what reading) IsSilent
before-silent line (Statement text) reading silent = statement-silent line text (words text) reading silent
before-silent line Row reading silent = silent
before-silent line Invoked reading silent = silent
before-silent line (Note note) reading silent = silent

-- ---- a definition that is open

closing-silent : (opened : Open) (counts : Bool) (line : ℕ) (text : List ℕ) (reading : Reading) (macros : Names Macro) → counts ≡ false → IsSilent reading
    → IfOk (Rattle.macro_expand.specs.Region.closing counts opened.line opened.head line text reading.known >>= λ known. Ok (record { macros = macros; opened = None; known = known })) IsSilent
closing-silent opened true line text reading macros e silent = cc
closing-silent opened false line text reading macros e silent = record { given = silent.given; quiet = tt }

close-silent : (opened : Open) (line : ℕ) (text : List ℕ) (reading : Reading) → opened.counts ≡ false → IsSilent reading → IfOk (close opened line text reading) IsSilent
close-silent opened line text reading e silent = of (define opened.line (words opened.head) opened.body reading.macros)
  where
    of : (answer : Result (Names Macro) Refusal)
        → IfOk (answer >>= λ macros. Rattle.macro_expand.specs.Region.closing opened.counts opened.line opened.head line text reading.known >>= λ known. Ok (record { macros = macros; opened = None; known = known })) IsSilent
    of (Ok macros) = closing-silent opened opened.counts line text reading macros e silent
    of (Err refusal) = tt

note-silent : (opened : Open) (counts : Bool) (line : ℕ) (note : List ℕ) (reading : Reading) → counts ≡ false → opened.counts ≡ false → IsSilent reading
    → IsSilent (with_open opened (with_known reading (Rattle.macro_expand.specs.Region.note_if counts line note reading.known)))
note-silent opened true line note reading e f silent = cc
note-silent opened false line note reading e f silent = record { given = silent.given; quiet = f }

either-silent : (b : Bool) (x y : Reading) → IsSilent x → IsSilent y → IsSilent (cond b x y)
either-silent true x y first second = first
either-silent false x y first second = second

open-silent : (opened : Open) (line : ℕ) (what : What) (reading : Reading) → opened.counts ≡ false → IsSilent reading → IfOk (in_open opened line what reading) IsSilent
open-silent opened line (Statement text) reading e silent =
    either-ok IsSilent (is_directive (codes "endm") (words text)) (close opened line text reading)
    (Ok (with_open (with_more (is_empty text) (Statement (kept 0 text)) opened) reading)) (close-silent opened line text reading e silent) (record { given = silent.given; quiet = e })
open-silent opened line (Note note) reading e silent =
    either-silent opened.bare (with_open opened (with_known reading (Rattle.macro_expand.specs.Region.note_if opened.counts line note reading.known)))
    (with_open (with_more false (Note note) opened) reading) (note-silent opened opened.counts line note reading e e silent) (record { given = silent.given; quiet = e })
open-silent opened line Row reading e silent = record { given = silent.given; quiet = e }
open-silent opened line Invoked reading e silent = record { given = silent.given; quiet = e }

one-silent : (opened : Option Open) (piece : Piece) (reading : Reading) → IfSome opened (λ (o : Open). o.counts ≡ false) → IsSilent reading → IfOk (or_in_open false opened piece reading) IsSilent
one-silent None piece reading e silent = before-silent piece.line piece.what reading silent
one-silent (Some opened) piece reading e silent = open-silent opened piece.line piece.what reading e silent

all-silent : (pieces : List Piece) (reading : Reading) → IsSilent reading → IfOk (read_all false pieces reading) IsSilent
unfolding read_all
all-silent [] reading silent = silent
all-silent (piece ∷ pieces) reading silent =
    then-ok IsSilent IsSilent (or_in_open false reading.opened piece reading) (read_all false pieces) (one-silent reading.opened piece reading silent.quiet silent)
    (λ next holds. all-silent pieces next holds)

ok-silent : (answer : Result Reading Refusal) (reading : Reading) → answer ≡ Ok reading → IfOk answer IsSilent → IsSilent reading
ok-silent (Ok found) reading e silent = let same : found ≡ reading = cc in subst IsSilent same silent
ok-silent (Err refusal) reading e silent = absurd cc

-- Nothing is given before the region.
pub before-given : (pieces : List Piece) (reading : Reading) → read_all false pieces nothing_known ≡ Ok reading → reading.known.given ≡ []
before-given pieces reading is =
    let silent : IfOk (read_all false pieces nothing_known) IsSilent = all-silent pieces nothing_known (record { given = refl; quiet = tt }) in
    (ok-silent (read_all false pieces nothing_known) reading is silent).given
