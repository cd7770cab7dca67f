-- The entries of pieces, one after the other.
use Rattle.std.proofs.Common.{◌≡◌, ℕ, zero, suc, ◌+◌, ◌-◌, ◌<◌, ◌≤◌, length, take, drop_of_length-le, List, [], ◌∷◌, map, drop, get_or, is_some, Option, None, Some, cond, refl, ap, ◌∙◌, sym, arith}
use Rattle.std.proofs.lemmas.List.{take_rest, drop_more, drop-drop}
use Rattle.macro_expand.specs.Source.{What, Row, Invoked, Note, Piece}
use Rattle.macro_expand.specs.Source as source
use Rattle.asm_reader.specs.Entries.{entry, entries, note_first, note_taken, behind}

-- a note that was taken is read no more
note_passed : (what : What) (pieces : List Piece) (note : List ℕ) → note_taken what pieces ≡ Some note → drop 1 (entries pieces) ≡ entries (drop 1 pieces)
unfolding entries
note_passed Row pieces note e = cc
note_passed Invoked pieces note e = cc
note_passed (Note text) pieces note e = cc
note_passed (source.Statement text) [] note e = cc
note_passed (source.Statement text) (piece ∷ pieces) note e = of piece.what refl
  where
    of : (what : What) → piece.what ≡ what → behind (note_taken piece.what pieces) (entries pieces) ≡ entries pieces
    of Row is = ap (λ w. behind (note_taken w pieces) (entries pieces)) is
    of Invoked is = ap (λ w. behind (note_taken w pieces) (entries pieces)) is
    of (Note text) is = ap (λ w. behind (note_taken w pieces) (entries pieces)) is
    of (source.Statement other) is =
        let none : None ≡ Some note = sym (ap (λ w. note_first (record piece { what = w } ∷ [])) is) ∙ e in cc

-- the first entry of some pieces, and those behind it
pub entries_step : (piece : Piece) (pieces : List Piece) (note : Option (List ℕ)) → note_taken piece.what pieces ≡ note
    → entries (piece ∷ pieces) ≡ entry piece.line piece.what note ∷ entries (drop (cond (is_some note) 1 0) pieces)
unfolding entries
entries_step piece pieces None e = ap (λ n. entry piece.line piece.what n ∷ behind n (entries pieces)) e
entries_step piece pieces (Some note) e =
    ap (λ n. entry piece.line piece.what n ∷ behind n (entries pieces)) e
    ∙ ap (λ all. entry piece.line piece.what (Some note) ∷ all) (note_passed piece.what pieces note e)

-- ---- pieces of the code, from a place on

drop_shown : {X : Type 0} (f : X → Piece) (xs : List X) (place : ℕ) → map f (drop place xs) ≡ drop place (map f xs)
drop_shown f [] zero = refl
drop_shown f [] (suc place) = refl
drop_shown f (x ∷ xs) zero = refl
drop_shown f (x ∷ xs) (suc place) = drop_shown f xs place

-- those of a slice
pub shown_rest : {X : Type 0} (f : X → Piece) (xs : List X) (place : ℕ) → map f (take (length xs - place) (drop place xs)) ≡ drop place (map f xs)
shown_rest f xs place = ap (map f) (take_rest xs place) ∙ drop_shown f xs place

pub shown_step : {X : Type 0} (f : X → Piece) (xs : List X) (place : ℕ) (none : X) → place < length xs → drop place (map f xs) ≡ f (get_or xs place none) ∷ drop (place + 1) (map f xs)
shown_step f xs place none within =
    sym (drop_shown f xs place) ∙ ap (map f) (drop_more xs place none within) ∙ ap (λ rest. f (get_or xs place none) ∷ rest) (drop_shown f xs (place + 1))

-- behind a note that was taken, or none
pub passed : {X : Type 0} (taken : Option X) (place step : ℕ) (pieces : List Piece) → step ≡ cond (is_some taken) 1 0
    → drop (place + (1 + step)) pieces ≡ drop step (drop (place + 1) pieces)
passed taken place step pieces e =
    let sum : place + (1 + step) ≡ (place + 1) + step = omega arith in
    ap (λ n. drop n pieces) sum ∙ sym (drop-drop step (place + 1) pieces)

-- behind all of them nothing is left
pub none_left : (pieces : List Piece) (place : ℕ) → length pieces ≤ place → entries (drop place pieces) ≡ []
unfolding entries
none_left pieces place behind = ap entries (drop_of_length-le pieces behind)
