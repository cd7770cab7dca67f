use Rattle.std.proofs.Common.{◌++◌, map, ap, sym, ◌∙◌, subst, inl, inr}
use Rattle.std.proofs.lemmas.Result.{err_from_is_err_and}
use Rattle.sl_model.specs.Answers.{Gives}
use Rattle.sl_model.specs.Text.{numbered_lines}
use Rattle.sl_text.specs.Cut.{parts_of}
use Rattle.macro_expand.proofs.SliceLemmas.{no-pieces, whole-slice}
use Rattle.macro_expand.specs.Source.{rows}
use Rattle.macro_expand.specs.Region.{before_rows, region_rows}
use Rattle.macro_expand.specs.Views.{piece_of, reading_of, refusal_of}
use Rattle.macro_expand.proofs.ReadingLemmas.{rows-only, before-fails, region-fails, region-done}
use Rattle.macro_expand.proofs.reading.expand.Goals as goal

pub returns-in_err-read_all-clause-pieces : goal.returns-in_err-read_all-clause-pieces
returns-in_err-read_all-clause-pieces c =
    let p = err_from_is_err_and c.from_residual-in_err-read_all.result c.from_residual-in_err-read_all.ensures.1 in
    let cut = c.args.cut.now in
    let before = rows-only c.new-before.result.items (before_rows c.args.comments (parts_of cut)) (map piece_of c.push_rows.new.out.items) piece_of c.new-before.ensures.items c.in_ok-inside.ensures.rows in
    rw (p.1, p.2) (before-fails c.args.comments (parts_of cut) c.in_err-read_all.field-0.0 (map piece_of c.push_rows.new.out.items) (reading_of c.nothing_known-reading.result) before c.nothing_known-reading.ensures.reading c.in_err-read_all.ensures.reading)

pub returns-in_err-read_all-2-clause-pieces : goal.returns-in_err-read_all-2-clause-pieces
returns-in_err-read_all-2-clause-pieces c =
    let p = err_from_is_err_and c.from_residual-in_err-read_all-2.result c.from_residual-in_err-read_all-2.ensures.1 in
    let cut = c.args.cut.now in
    let before = rows-only c.new-before.result.items (before_rows c.args.comments (parts_of cut)) (map piece_of c.push_rows.new.out.items) piece_of c.new-before.ensures.items c.in_ok-inside.ensures.rows in
    let region = rows-only c.new-body.result.items (region_rows c.args.comments (parts_of cut)) (map piece_of c.push_rows-2.new.out.items) piece_of c.new-body.ensures.items
    (c.in_ok-push_rows.ensures.rows ∙ ap (λ b. map piece_of c.new-body.result.items ++ rows c.args.comments b (numbered_lines cut.first cut.body.now)) c.in_ok-inside.ensures.unclosed) in
    rw (p.1, p.2) (region-fails c.args.comments (parts_of cut) c.in_err-read_all-2.field-0.0 (map piece_of c.push_rows.new.out.items) (map piece_of c.push_rows-2.new.out.items)
    (reading_of c.nothing_known-reading.result) (reading_of c.read_all.new.reading) before c.nothing_known-reading.ensures.reading c.in_ok-read_all.ensures.reading region c.in_err-read_all-2.ensures.reading)

pub returns-clause-pieces : goal.returns-clause-pieces
returns-clause-pieces c =
    let cut = c.args.cut.now in
    let before = rows-only c.new-before.result.items (before_rows c.args.comments (parts_of cut)) (map piece_of c.push_rows.new.out.items) piece_of c.new-before.ensures.items c.in_ok-inside.ensures.rows in
    let region = rows-only c.new-body.result.items (region_rows c.args.comments (parts_of cut)) (map piece_of c.push_rows-2.new.out.items) piece_of c.new-body.ensures.items
    (c.in_ok-push_rows.ensures.rows ∙ ap (λ b. map piece_of c.new-body.result.items ++ rows c.args.comments b (numbered_lines cut.first cut.body.now)) c.in_ok-inside.ensures.unclosed) in
    subst (λ answer. Gives refusal_of (λ pieces. map piece_of pieces.items) c.all_closed.result answer)
    (sym (region-done c.args.comments (parts_of cut) (map piece_of c.push_rows.new.out.items) (map piece_of c.push_rows-2.new.out.items)
    (reading_of c.nothing_known-reading.result) (reading_of c.read_all.new.reading) (reading_of c.read_all-2.new.reading) before c.nothing_known-reading.ensures.reading c.in_ok-read_all.ensures.reading region c.in_ok-read_all-2.ensures.reading))
    c.all_closed.ensures.pieces

pub returns-clause-slices : goal.returns-clause-slices
returns-clause-slices c =
    let texts = parts_of c.args.cut.now in
    let before = c.in_ok-inside.ensures.slices texts (inl (whole-slice texts.before)) (no-pieces texts c.new-before.result.items c.new-before.ensures.items) in
    let body = c.in_ok-push_rows.ensures.slices texts (inr (whole-slice texts.body)) (no-pieces texts c.new-body.result.items c.new-body.ensures.items) in
    let reading = c.in_ok-read_all.ensures.slices texts before (c.nothing_known-reading.ensures.slices texts) in
    c.all_closed.ensures.slices texts (c.in_ok-read_all-2.ensures.slices texts body reading)
