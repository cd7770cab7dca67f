use Rattle.std.proofs.Common.{◌≡◌, ◌++◌, map, drop}
use Rattle.sl_model.specs.Text.{Parts}
use Rattle.macro_expand.specs.Slices.{HaveSlices}
use Rattle.macro_expand.specs.Source.{Note, notes_in, on_line}
use Rattle.macro_expand.specs.Spelled.{lexemes}
use Rattle.macro_expand.specs.Views.{piece_of}
use Rattle.macro_expand.proofs.source.push_notes.Given as goal

-- what was added, with the notes among the tokens that are left, is all
abbrev pub invariant-loop-token : goal.invariant-loop-token
invariant-loop-token l =
    (map piece_of l.out.items ++ map (on_line l.line) (map Note (notes_in (lexemes (drop l.token-index l.tokens))))
    ≡ map piece_of l.fn.out.items ++ map (on_line l.line) (map Note (notes_in (lexemes l.tokens))))
    × ((texts : Parts) → HaveSlices texts l.fn.out.items → HaveSlices texts l.out.items)
