use Rattle.std.proofs.Common.{◌≡◌, ◌++◌, ◌≤◌, map, length, All}
use Rattle.sl_model.specs.Text.{Parts, numbered_lines}
use Rattle.sl_text.specs.Lines.{lines_left}
use Rattle.macro_expand.specs.Slices.{HaveSlices, IsSliceIn, IsSliceOf}
use Rattle.macro_expand.specs.Source.{rows}
use Rattle.macro_expand.specs.Region.{open_after}
use Rattle.macro_expand.specs.Views.{piece_of}
use Rattle.macro_expand.proofs.source.push_rows.Given as goal

-- what was added, with the rows of the lines that are left, is all; what is open behind those is open behind all
abbrev pub invariant-loop-line : goal.invariant-loop-line
invariant-loop-line l = record {
  rows : map piece_of l.out.items ++ rows l.comments l.unclosed (lines_left l.line-iterator)
      ≡ map piece_of l.fn.out.items ++ rows l.comments l.fn.inside (numbered_lines l.first l.text);
  unclosed : open_after l.comments l.unclosed (lines_left l.line-iterator) ≡ open_after l.comments l.fn.inside (numbered_lines l.first l.text);
  short : All (λ line. length line.1 ≤ length l.text) (lines_left l.line-iterator);
  within : All (λ line. IsSliceOf l.text line.1) (lines_left l.line-iterator);
  slices : (texts : Parts) → IsSliceIn texts l.text → HaveSlices texts l.fn.out.items → HaveSlices texts l.out.items;
}
