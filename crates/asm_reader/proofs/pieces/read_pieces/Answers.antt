use Rattle.std.proofs.Common.{◌≡◌, ℕ, ◌+◌, ◌-◌, ◌<◌, ◌∷◌, List, map, take, drop, length, get_or, arith, cond, is_some, Option, None, Some, refl, ap, sym, ◌∙◌, subst, Bor}
use Rattle.std.proofs.lemmas.Result.{err_from_is_err_and}
use Rattle.macro_expand.specs.Source.{Piece}
use Rattle.macro_expand.specs.Views.{piece_of}
use Rattle.std.proofs.lemmas.List.{length-map}
use Rattle.sl_model.specs.Answers.{Refuses}
use Rattle.asm_reader.specs.Views.{refusal_of}
use Rattle.asm_reader.specs.DraftViews.{progress_value}
use Rattle.asm_reader.specs.Entries.{entry, entries, note_taken}
use Rattle.asm_reader.specs.Reading.{with_entries}
use Rattle.asm_reader.specs.WordViews.{bytes_value}
use Rattle.asm_reader.proofs.EntryLemmas.{entries_step, shown_step, shown_rest, passed, none_left}
use Rattle.asm_reader.proofs.Steps.{no_entries, entry_read, entry_fails}
use Rattle.asm_reader.proofs.pieces.read_pieces.Goals as goal

-- the entries of pieces from a place on: that of the piece there, and those behind it
same_some : (note : Option (Bor (List ℕ))) → is_some (bytes_value note) ≡ is_some note
same_some None = refl
same_some (Some text) = refl

from_place : {X : Type 0} (f : X → Piece) (xs : List X) (place : ℕ) (first none : X) (note : Option (Bor (List ℕ))) → place < length xs → first ≡ get_or xs place none
    → bytes_value note ≡ note_taken (f first).what (map f (take (length xs - (place + 1)) (drop (place + 1) xs)))
    → (step : ℕ) → step ≡ cond (is_some note) 1 0
    → entries (drop place (map f xs)) ≡ entry (f first).line (f first).what (bytes_value note) ∷ entries (drop (place + (1 + step)) (map f xs))
from_place f xs place first none note within is taken step count =
    let behind = drop (place + 1) (map f xs) in
    let takes : note_taken (f first).what behind ≡ bytes_value note = ap (note_taken (f first).what) (sym (shown_rest f xs (place + 1))) ∙ sym taken in
    let steps : step ≡ cond (is_some (bytes_value note)) 1 0 = count ∙ ap (λ b. cond b 1 0) (sym (same_some note)) in
    ap entries (shown_step f xs place none within)
    ∙ ap (λ x. entries (f x ∷ behind)) (sym is)
    ∙ entries_step (f first) behind (bytes_value note) takes
    ∙ ap (λ n. entry (f first).line (f first).what (bytes_value note) ∷ entries (drop n behind)) (sym steps)
    ∙ ap (λ ps. entry (f first).line (f first).what (bytes_value note) ∷ entries ps) (sym (passed note place step (map f xs) count))

pub returns-in_err-push_piece : goal.returns-in_err-push_piece
returns-in_err-push_piece g c =
    let p = err_from_is_err_and c.from_residual.result c.from_residual.ensures.1 in
    let language = g.A.Arch.language in
    let wants = c.args.manner.wants in
    let read = progress_value c.loop-place.read in
    let note = c.note_taken-note.result in
    let all = from_place piece_of c.args.pieces.now c.loop-place.place c.index-pieces-place.result _ note c.loop-place-test.true c.index-pieces-place.is c.note_taken-note.ensures (cond (is_some note) 1 0) refl in
    let first = piece_of c.index-pieces-place.result in
    rw (p.1, p.2)
    (subst (λ answer. Refuses (refusal_of c.in_err-push_piece.field-0.0) answer)
    (ap (with_entries language wants read) (sym all) ∙ c.loop-place.invariant.read)
    (entry_fails language wants read (entry first.line first.what (bytes_value note)) _ c.in_err-push_piece.field-0.0 c.in_err-push_piece.ensures.answer))

pub loop-place-preserved : goal.loop-place-preserved
loop-place-preserved g c =
    let language = g.A.Arch.language in
    let wants = c.args.manner.wants in
    let read = progress_value c.loop-place.read in
    let more = progress_value c.push_piece.new.read in
    let note = c.note_taken-note.result in
    let all = from_place piece_of c.args.pieces.now c.loop-place.place c.index-pieces-place.result _ note c.loop-place-test.true c.index-pieces-place.is c.note_taken-note.ensures (cond (is_some note) 1 0) refl in
    let first = piece_of c.index-pieces-place.result in
    record {
      read =
          ap (λ n. with_entries language wants more (entries (drop (c.loop-place.place + n) (map piece_of c.args.pieces.now)))) c.count_taken-place.ensures
          ∙ sym (entry_read language wants read more (entry first.line first.what (bytes_value note)) _ c.in_ok-push_piece.ensures.answer)
          ∙ ap (with_entries language wants read) (sym all) ∙ c.loop-place.invariant.read;
      few = c.in_ok-push_piece.ensures.few;
    }

pub returns : goal.returns
returns g c =
    let language = g.A.Arch.language in
    let wants = c.args.manner.wants in
    let read = progress_value c.loop-place.read in
    sym c.loop-place.invariant.read
    ∙ ap (with_entries language wants read) (none_left (map piece_of c.args.pieces.now) c.loop-place.place (omega (arith, c.loop-place-test.false, length-map c.args.pieces.now piece_of)))
    ∙ no_entries language wants read
