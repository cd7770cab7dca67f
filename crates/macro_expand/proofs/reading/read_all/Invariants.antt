use Rattle.std.proofs.Common.{◌≡◌, map}
use Rattle.sl_model.specs.Text.{Parts}
use Rattle.macro_expand.specs.Slices.{HaveSlices, ReadsSlices}
use Rattle.macro_expand.specs.Region.{read_all}
use Rattle.macro_expand.specs.Views.{piece_of, reading_of}
use Rattle.macro_expand.proofs.reading.read_all.Given as goal

-- what is read of the pieces that are left is read of all
abbrev pub invariant-loop-piece : goal.invariant-loop-piece
invariant-loop-piece l =
    (read_all l.region (map piece_of l.piece-iterator.rest.items) (reading_of l.reading)
    ≡ read_all l.region (map piece_of l.fn.pieces.items) (reading_of l.fn.reading))
    × ((texts : Parts) → HaveSlices texts l.fn.pieces.items → ReadsSlices texts l.fn.reading → ReadsSlices texts l.reading)
    × ((texts : Parts) → HaveSlices texts l.fn.pieces.items → HaveSlices texts l.piece-iterator.rest.items)
