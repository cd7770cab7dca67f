-- Statements read one by one, inside and outside definitions.
use Rattle.std.proofs.Common.{◌≡◌, ℕ, Bool, true, false, cond, List, [], ◌∷◌, ◌++◌, length, map, codes, Result, Ok, refl, ap, sym, ◌∙◌, subst, arith}
use Rattle.sl_model.specs.ResultSteps.{◌>>=◌}
use Rattle.macro_expand.specs.Words.{words, is_directive, is_empty}
use Rattle.macro_expand.specs.Filled.{kept}
use Rattle.macro_expand.specs.Source as source
use Rattle.macro_expand.specs.Source.{Statement}
use Rattle.macro_expand.specs.Expansion.{Refusal}
use Rattle.sl_model.specs.declared.text.Comments.{Comments}
use Rattle.sl_model.specs.Text.{Parts}
use Rattle.macro_expand.specs.Region.{Open, Reading, or_in_open, read_all, all_closed, expansion, before_rows, region_rows, nothing_known, close, statement_in_open, with_more, with_open}
use Rattle.macro_expand.specs.declared.reasons.ExpandErr.{ExpandErr}
use Rattle.macro_expand.proofs.CycleLemmas.{Refuses, fails-on}

read-step : (region : Bool) (rest below : List source.Piece) (piece : source.Piece) (reading : Reading) → rest ≡ piece ∷ below
    → read_all region rest reading ≡ (or_in_open region reading.opened piece reading >>= read_all region below)
unfolding read_all
read-step region rest below piece reading e = ap (λ ps. read_all region ps reading) e

-- a piece more is read
pub read-more : (region : Bool) (rest below : List source.Piece) (piece : source.Piece) (reading new : Reading) (all : Result Reading Refusal) → rest ≡ piece ∷ below
    → or_in_open region reading.opened piece reading ≡ Ok new → read_all region rest reading ≡ all → read_all region below new ≡ all
read-more region rest below piece reading new all e reads so_far =
    sym (ap (λ r. r >>= read_all region below) reads) ∙ sym (read-step region rest below piece reading e) ∙ so_far

-- one isn't
pub read-fails : (region : Bool) (rest below : List source.Piece) (piece : source.Piece) (reading : Reading) (all : Result Reading Refusal) (failure : ExpandErr) → rest ≡ piece ∷ below
    → Refuses failure (or_in_open region reading.opened piece reading) → read_all region rest reading ≡ all → Refuses failure all
read-fails region rest below piece reading all failure e fails so_far =
    subst (Refuses failure) (sym (read-step region rest below piece reading e) ∙ so_far) (fails-on failure (or_in_open region reading.opened piece reading) (read_all region below) fails)

pub none-left : {X Y : Type 0} (f : X → Y) (xs : List X) → length xs ≡ 0 → map f xs ≡ []
none-left f [] e = refl
none-left f (x ∷ xs) e = absurd (omega arith)

pub read-done : (region : Bool) (rest : List source.Piece) (reading : Reading) (all : Result Reading Refusal) → rest ≡ [] → read_all region rest reading ≡ all → all ≡ Ok reading
unfolding read_all
read-done region rest reading all none so_far = sym so_far ∙ ap (λ ps. read_all region ps reading) none

-- ---- the whole

pub rows-only : {X : Type 0} (xs : List X) (rows all : List source.Piece) (f : X → source.Piece) → xs ≡ [] → all ≡ map f xs ++ rows → all ≡ rows
rows-only xs rows all f none e = e ∙ ap (λ ys. map f ys ++ rows) none

-- what is read of the region once what stands before it is read
abbrev pub region-read : Comments → Parts → Reading → Result (List source.Piece) Refusal
region-read comments parts before = read_all true (region_rows comments parts) before >>= λ reading. all_closed reading.opened reading.known

pub before-fails : (comments : Comments) (parts : Parts) (failure : ExpandErr) (pieces : List source.Piece) (reading : Reading) → pieces ≡ before_rows comments parts → reading ≡ nothing_known
    → Refuses failure (read_all false pieces reading) → Refuses failure (expansion comments parts)
unfolding expansion
before-fails comments parts failure pieces reading pieces_are reading_is fails =
    fails-on failure (read_all false (before_rows comments parts) nothing_known) (region-read comments parts)
    (subst (λ r. Refuses failure (read_all false (before_rows comments parts) r)) reading_is (subst (λ ps. Refuses failure (read_all false ps reading)) pieces_are fails))

before-read : (comments : Comments) (parts : Parts) (pieces : List source.Piece) (reading before : Reading) → pieces ≡ before_rows comments parts → reading ≡ nothing_known
    → read_all false pieces reading ≡ Ok before → expansion comments parts ≡ region-read comments parts before
unfolding expansion
before-read comments parts pieces reading before pieces_are reading_is reads =
    ap (λ r. r >>= region-read comments parts)
    (ap (λ ps. read_all false ps nothing_known) (sym pieces_are) ∙ ap (read_all false pieces) (sym reading_is) ∙ reads)

pub region-fails : (comments : Comments) (parts : Parts) (failure : ExpandErr) (pieces more : List source.Piece) (reading before : Reading) → pieces ≡ before_rows comments parts → reading ≡ nothing_known
    → read_all false pieces reading ≡ Ok before → more ≡ region_rows comments parts
    → Refuses failure (read_all true more before) → Refuses failure (expansion comments parts)
region-fails comments parts failure pieces more reading before pieces_are reading_is reads more_is fails =
    subst (Refuses failure) (sym (before-read comments parts pieces reading before pieces_are reading_is reads))
    (fails-on failure (read_all true (region_rows comments parts) before) (λ reading. all_closed reading.opened reading.known)
    (subst (λ ps. Refuses failure (read_all true ps before)) more_is fails))

pub region-done : (comments : Comments) (parts : Parts) (pieces more : List source.Piece) (reading before after : Reading) → pieces ≡ before_rows comments parts → reading ≡ nothing_known
    → read_all false pieces reading ≡ Ok before → more ≡ region_rows comments parts
    → read_all true more before ≡ Ok after → expansion comments parts ≡ all_closed after.opened after.known
region-done comments parts pieces more reading before after pieces_are reading_is reads more_is done =
    before-read comments parts pieces reading before pieces_are reading_is reads
    ∙ ap (λ r. r >>= λ reading. all_closed reading.opened reading.known) (ap (λ ps. read_all true ps before) (sym more_is) ∙ done)

-- ---- definitions

-- a statement of an open definition is kept
pub open-kept : (opened : Open) (line : ℕ) (text spelt : List ℕ) (quiet : Bool) (reading new : Reading) → is_directive (codes "endm") (words text) ≡ false
    → spelt ≡ kept 0 text → quiet ≡ is_empty text → new ≡ with_open (with_more quiet (Statement spelt) opened) reading
    → statement_in_open opened line text reading ≡ Ok new
open-kept opened line text spelt quiet reading new goes kept_is quiet_is new_is =
    ap (λ b. cond b (close opened line text reading) (Ok (with_open (with_more (is_empty text) (Statement (kept 0 text)) opened) reading))) goes
    ∙ ap (λ q. Ok (with_open (with_more q (Statement (kept 0 text)) opened) reading)) (sym quiet_is)
    ∙ ap (λ t. Ok (with_open (with_more quiet (Statement t) opened) reading)) (sym kept_is) ∙ ap Ok (sym new_is)
