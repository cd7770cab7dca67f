use Rattle.std.proofs.Common.{ap, ◌∙◌, Some, sym, subst}
use Rattle.macro_expand.specs.Slices.{AreSlices}
use Rattle.macro_expand.specs.Spelled.{spelled}
use Rattle.macro_expand.proofs.FilledLemmas.{value-absent, value-past, value-here}
use Rattle.macro_expand.proofs.filled.value_of.Goals as goal

pub returns-in_default-clause-value : goal.returns-in_default-clause-value
returns-in_default-clause-value c = value-absent c.args.name.now c.args.names.now.keys c.args.values.now c.get_index_of.result c.get_index_of.ensures.index c.in_default.is

pub returns-then-place-values-clause-value : goal.returns-then-place-values-clause-value
returns-then-place-values-clause-value c =
    value-past c.args.name.now c.args.names.now.keys c.args.values.now c.get_index_of.result c.in-Some.place c.get_index_of.ensures.index c.in-Some.is c.if-place-values.true

pub returns-clause-value : goal.returns-clause-value
returns-clause-value c =
    ap (λ ps. Some (spelled ps)) c.deref.ensures.value ∙ ap (λ v. Some (spelled v.items)) c.index-values-place.is
    ∙ value-here c.args.name.now c.args.names.now.keys c.args.values.now c.get_index_of.result c.in-Some.place _ c.get_index_of.ensures.index c.in-Some.is c.if-place-values.false

pub returns-clause-slices : goal.returns-clause-slices
returns-clause-slices c texts lists =
    subst (AreSlices texts) (sym (c.deref.ensures.value ∙ ap (λ v. v.items) c.index-values-place.is)) (lists c.in-Some.place c.index-values-place.result c.if-place-values.false)
