use Rattle.std.proofs.Common.{ap, sym, ◌∙◌}
use Rattle.std.proofs.lemmas.List.{take_rest}
use Rattle.std.proofs.lemmas.Result.{err_from_is_err_and}
use Rattle.macro_expand.proofs.SliceLemmas.{no-parts}
use Rattle.macro_expand.specs.Spelled.{spelled}
use Rattle.macro_expand.specs.Views.{known_of}
use Rattle.macro_expand.proofs.CycleLemmas.{none-before}
use Rattle.macro_expand.proofs.AliasLemmas.{alias-at, whole-of, alias-refused, free-fails, free-done}
use Rattle.macro_expand.proofs.expansion.with_alias.Goals as goal

pub returns-then-branch-clause-known : goal.returns-then-branch-clause-known
returns-then-branch-clause-known c =
    let text = spelled c.args.parts.now in
    let words = c.args.words.now in
    let known = known_of c.args.known.now in
    let spelt = c.deref-2.ensures ∙ c.in_ok-text.ensures ∙ ap spelled c.deref.ensures.value in
    let value_is = spelt ∙ c.in_ok-push_replaced.ensures.text ∙ none-before c.new-value.result.items _ c.new-value.ensures.items in
    rw c.refused.ensures (alias-refused c.args.line text c.deref-2.result.now words _ _ _ known c.in-len3-up.len_at_least (take_rest words 3) c.in-len1-up.len_at_least value_is
    (sym c.in_ok-is_other_alias.ensures ∙ c.if-branch.true))

pub returns-in_err-count-clause-known : goal.returns-in_err-count-clause-known
returns-in_err-count-clause-known c =
    let p = err_from_is_err_and c.from_residual-in_err-count.result c.from_residual-in_err-count.ensures.1 in
    let text = spelled c.args.parts.now in
    let words = c.args.words.now in
    let known = known_of c.args.known.now in
    let spelt = c.deref-2.ensures ∙ c.in_ok-text.ensures ∙ ap spelled c.deref.ensures.value in
    let value_is = spelt ∙ c.in_ok-push_replaced.ensures.text ∙ none-before c.new-value.result.items _ c.new-value.ensures.items in
    let whole_is = whole-of c.deref-5.result.now _ _ c.deref-2.result.now _ _ (c.deref-5.ensures ∙ c.in_ok-joined.ensures ∙ ap spelled c.deref-4.ensures.value) c.in_ok-push_all.ensures.text
    (c.in_ok-push_cut.ensures.cut ∙ none-before c.new-whole.result.items _ c.new-whole.ensures.items) (spelt ∙ ap spelled (sym c.deref-3.ensures.value)) in
    let all = alias-at c.args.line text c.deref-2.result.now c.deref-5.result.now words _ _ _ known c.in-len3-up.len_at_least (take_rest words 3) c.in-len1-up.len_at_least value_is whole_is in
    rw (p.1, p.2) (free-fails c.args.line c.deref-2.result.now c.deref-5.result.now _ _ known _ c.in_err-count.field-0.0 all (sym c.in_ok-is_other_alias.ensures ∙ c.if-branch.false) c.in_err-count.ensures.known)

pub returns-clause-known : goal.returns-clause-known
returns-clause-known c =
    let text = spelled c.args.parts.now in
    let words = c.args.words.now in
    let known = known_of c.args.known.now in
    let spelt = c.deref-2.ensures ∙ c.in_ok-text.ensures ∙ ap spelled c.deref.ensures.value in
    let value_is = spelt ∙ c.in_ok-push_replaced.ensures.text ∙ none-before c.new-value.result.items _ c.new-value.ensures.items in
    let whole_is = whole-of c.deref-5.result.now _ _ c.deref-2.result.now _ _ (c.deref-5.ensures ∙ c.in_ok-joined.ensures ∙ ap spelled c.deref-4.ensures.value) c.in_ok-push_all.ensures.text
    (c.in_ok-push_cut.ensures.cut ∙ none-before c.new-whole.result.items _ c.new-whole.ensures.items) (spelt ∙ ap spelled (sym c.deref-3.ensures.value)) in
    let all = alias-at c.args.line text c.deref-2.result.now c.deref-5.result.now words _ _ _ known c.in-len3-up.len_at_least (take_rest words 3) c.in-len1-up.len_at_least value_is whole_is in
    free-done c.args.line c.deref-2.result.now c.deref-5.result.now _ _ _ known (known_of c.count.new.known) (known_of c.set_alias.new.known) _ all (sym c.in_ok-is_other_alias.ensures ∙ c.if-branch.false) c.in_ok-count.ensures.known spelt c.in_ok-set_alias.ensures.known

pub returns-clause-slices : goal.returns-clause-slices
returns-clause-slices c texts parts known =
    let value = c.in_ok-push_replaced.ensures.slices texts parts known.aliases (no-parts texts c.new-value.result.items c.new-value.ensures.items) in
    c.in_ok-set_alias.ensures.slices texts value (c.in_ok-count.ensures.slices texts known)
