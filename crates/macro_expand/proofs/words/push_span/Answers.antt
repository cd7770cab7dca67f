use Rattle.std.proofs.Common.{ap, ◌∙◌, ◌∷◌, [], ◌++◌}
use Rattle.std.proofs.lemmas.List.{map-append}
use Rattle.macro_expand.proofs.SliceLemmas.{no-parts, one-list}
use Rattle.macro_expand.specs.Spelled.{spelled, spelled_lists}
use Rattle.macro_expand.proofs.CycleLemmas.{none-before}
use Rattle.macro_expand.proofs.words.push_span.Goals as goal

pub returns-clause-span : goal.returns-clause-span
returns-clause-span c =
    ap spelled_lists c.in_ok-push.ensures.items ∙ map-append (λ list. spelled list.items) c.args.out.now.items (c.push_between.new.out ∷ [])
    ∙ ap (λ s. spelled_lists c.args.out.now.items ++ s ∷ []) (c.in_ok-next.ensures.span ∙ none-before c.new-span.result.items _ c.new-span.ensures.items)

pub returns-clause-slices : goal.returns-clause-slices
returns-clause-slices c texts parts lists =
    one-list texts c.args.out.now.items c.push.new.self.items _ c.in_ok-push.ensures.items
    (c.in_ok-next.ensures.slices texts parts (no-parts texts c.new-span.result.items c.new-span.ensures.items)) lists
