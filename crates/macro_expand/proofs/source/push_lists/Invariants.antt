use Rattle.std.proofs.Common.{◌≡◌, ◌++◌, map}
use Rattle.sl_model.specs.Text.{Parts}
use Rattle.macro_expand.specs.Slices.{AreLists, HaveSlices}
use Rattle.macro_expand.specs.Source.{Statement, on_line}
use Rattle.macro_expand.specs.Spelled.{spelled_lists}
use Rattle.macro_expand.specs.Views.{piece_of}
use Rattle.macro_expand.proofs.source.push_lists.Given as goal

-- what was added, with the statements that are left, is all
abbrev pub invariant-loop-list : goal.invariant-loop-list
invariant-loop-list l =
    (map piece_of l.out.items ++ map (on_line l.line) (map Statement (spelled_lists l.list-iterator.rest.items))
    ≡ map piece_of l.fn.out.items ++ map (on_line l.line) (map Statement (spelled_lists l.fn.lists.items)))
    × ((texts : Parts) → AreLists texts l.fn.lists.items → HaveSlices texts l.fn.out.items → HaveSlices texts l.out.items)
    × ((texts : Parts) → AreLists texts l.fn.lists.items → AreLists texts l.list-iterator.rest.items)
