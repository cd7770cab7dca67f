use Rattle.std.proofs.Common.{length, ◌-◌, ◌≡◌, map, drop}
use Rattle.macro_expand.specs.Views.{piece_of}
use Rattle.asm_reader.specs.DraftViews.{HasFewNames, progress_value}
use Rattle.asm_reader.specs.Entries.{entries}
use Rattle.asm_reader.specs.Reading.{no_progress, with_entries}
use Rattle.asm_reader.proofs.pieces.read_pieces.Given as goal

-- what was read so far, with the pieces that are left, is what is read of all
abbrev pub invariant-loop-place : goal.invariant-loop-place
invariant-loop-place g l = record {
  read : with_entries g.A.Arch.language l.manner.wants (progress_value l.read) (entries (drop l.place (map piece_of l.pieces)))
      ≡ with_entries g.A.Arch.language l.manner.wants no_progress (entries (map piece_of l.pieces));
  few : HasFewNames l.read;
}

abbrev pub decreases-loop-place : goal.decreases-loop-place
decreases-loop-place g l = length l.pieces - l.place
