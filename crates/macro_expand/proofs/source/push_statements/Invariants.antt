use Rattle.std.proofs.Common.{◌≡◌, ◌++◌, map, All}
use Rattle.sl_model.specs.Text.{Parts}
use Rattle.macro_expand.specs.Slices.{AreCutOf, HaveSlices, IsSliceIn}
use Rattle.macro_expand.specs.Source.{each_parted, on_line, statements}
use Rattle.macro_expand.specs.Spelled.{lexemes}
use Rattle.macro_expand.specs.Views.{piece_of}
use Rattle.macro_expand.proofs.WordLemmas.{fields_of, left_of}
use Rattle.macro_expand.proofs.source.push_statements.Given as goal

-- what was added, with what the statements that are left give, is all
abbrev pub invariant-loop-rest : goal.invariant-loop-rest
invariant-loop-rest l =
    (map piece_of l.out.items ++ map (on_line l.number) (each_parted l.line (fields_of 59 l.rest))
    ≡ map piece_of l.fn.out.items ++ map (on_line l.number) (each_parted l.line (statements (lexemes l.tokens))))
    × ((texts : Parts) → IsSliceIn texts l.line → AreCutOf l.line (lexemes l.tokens) → HaveSlices texts l.fn.out.items → HaveSlices texts l.out.items)
    × (AreCutOf l.line (lexemes l.tokens) → All (AreCutOf l.line) (fields_of 59 l.rest))

abbrev pub decreases-loop-rest : goal.decreases-loop-rest
decreases-loop-rest l = left_of l.rest
