use Rattle.std.proofs.Common.{◌≡◌, length, rules, map, sym, ap, subst}
use Rattle.std.proofs.lemmas.Result.{err_from_is_err_and}
use Rattle.macro_expand.specs.Slices.{HaveSlices}
use Rattle.macro_expand.proofs.SliceLemmas.{first-piece, other-pieces}
use Rattle.macro_expand.specs.Region.{read_all}
use Rattle.macro_expand.specs.Views.{piece_of, reading_of}
use Rattle.macro_expand.proofs.ReadingLemmas.{read-more, read-fails, read-done, none-left}
use Rattle.macro_expand.proofs.reading.read_all.Goals as goal

pub loop-piece-init : goal.loop-piece-init
loop-piece-init c =
    let gives : c.into_iter-piece-iterator.result.rest.items ≡ c.args.pieces.items = search rules in (
      ap (λ ps. read_all c.args.region (map piece_of ps) (reading_of c.args.reading.now)) gives,
      λ texts pieces reading. reading,
      λ texts pieces. subst (HaveSlices texts) (sym gives) pieces,
    )

pub loop-piece-preserved : goal.loop-piece-preserved
loop-piece-preserved c = (
  read-more c.args.region (map piece_of c.loop-piece.piece-iterator.rest.items) (map piece_of c.next.new.self.rest.items) (piece_of c.in-Some.piece) (reading_of c.loop-piece.reading) (reading_of c.read_piece.new.reading) _
      (ap (map piece_of) c.in-Some.ensures.steps.0) c.in_ok-read_piece.ensures.reading c.loop-piece.invariant.0,
  λ texts pieces reading.
      let all = subst (HaveSlices texts) c.in-Some.ensures.steps.0 (c.loop-piece.invariant.2 texts pieces) in
      c.in_ok-read_piece.ensures.slices texts (first-piece texts c.in-Some.piece c.next.new.self.rest.items all) (c.loop-piece.invariant.1 texts pieces reading),
  λ texts pieces. other-pieces texts c.in-Some.piece c.next.new.self.rest.items (subst (HaveSlices texts) c.in-Some.ensures.steps.0 (c.loop-piece.invariant.2 texts pieces)),
)

pub returns-in_err-read_piece-clause-reading : goal.returns-in_err-read_piece-clause-reading
returns-in_err-read_piece-clause-reading c =
    let p = err_from_is_err_and c.from_residual.result c.from_residual.ensures.1 in
    rw (p.1, p.2) (read-fails c.args.region (map piece_of c.loop-piece.piece-iterator.rest.items) (map piece_of c.next.new.self.rest.items) (piece_of c.in-Some.piece) (reading_of c.loop-piece.reading) _ c.in_err-read_piece.field-0.0
    (ap (map piece_of) c.in-Some.ensures.steps.0) c.in_err-read_piece.ensures.reading c.loop-piece.invariant.0)

pub returns-clause-reading : goal.returns-clause-reading
returns-clause-reading c =
    let none : length c.loop-piece.piece-iterator.rest.items ≡ 0 = search rules in
    read-done c.args.region (map piece_of c.loop-piece.piece-iterator.rest.items) (reading_of c.loop-piece.reading) _ (none-left piece_of c.loop-piece.piece-iterator.rest.items none) c.loop-piece.invariant.0

pub returns-clause-slices : goal.returns-clause-slices
returns-clause-slices c = c.loop-piece.invariant.1
