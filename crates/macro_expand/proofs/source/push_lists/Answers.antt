use Rattle.std.proofs.Common.{◌≡◌, ◌++◌, map, ap, sym, subst, ◌∙◌, append_assoc, rules}
use Rattle.std.proofs.lemmas.List.Elements.{All-head, All-tail}
use Rattle.macro_expand.specs.Source.{Statement, on_line}
use Rattle.macro_expand.specs.Slices.{AreLists, AreSlices}
use Rattle.macro_expand.specs.Spelled.{spelled_lists}
use Rattle.macro_expand.specs.Views.{piece_of}
use Rattle.macro_expand.proofs.RowLemmas.{piece-added}
use Rattle.macro_expand.proofs.SliceLemmas.{one-piece}
use Rattle.macro_expand.proofs.source.push_lists.Goals as goal

pub loop-list-init : goal.loop-list-init
loop-list-init c =
    let gives : c.into_iter-list-iterator.result.rest.items ≡ c.args.lists.items = search rules in (
      ap (λ ls. map piece_of c.args.out.now.items ++ map (on_line c.args.line) (map Statement (spelled_lists ls))) gives,
      λ texts lists out. out,
      λ texts lists. subst (AreLists texts) (sym gives) lists,
    )

pub loop-list-preserved : goal.loop-list-preserved
loop-list-preserved c =
    let left = c.next.new.self.rest.items in
    let behind = map (on_line c.args.line) (map Statement (spelled_lists left)) in (
      ap (λ v. v ++ behind) (piece-added c.loop-list.out.items c.push.new.self.items _ c.in_ok-push.ensures.items)
          ∙ append_assoc (map piece_of c.loop-list.out.items) _ behind
          ∙ ap (λ ls. map piece_of c.loop-list.out.items ++ map (on_line c.args.line) (map Statement (spelled_lists ls))) (sym c.in-Some.ensures.steps.0)
          ∙ c.loop-list.invariant.0,
      λ texts lists out.
          let all = subst (AreLists texts) c.in-Some.ensures.steps.0 (c.loop-list.invariant.2 texts lists) in
          one-piece texts c.loop-list.out.items c.push.new.self.items _ c.in_ok-push.ensures.items
          (All-head (λ list. AreSlices texts list.items) c.in-Some.list left all) (c.loop-list.invariant.1 texts lists out),
      λ texts lists.
          All-tail (λ list. AreSlices texts list.items) c.in-Some.list left (subst (AreLists texts) c.in-Some.ensures.steps.0 (c.loop-list.invariant.2 texts lists)),
    )
