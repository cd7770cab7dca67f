use Rattle.std.proofs.Common.{◌++◌, ap, sym, ◌∙◌, append-nil, refl}
use Rattle.macro_expand.specs.Spelled.{spelled}
use Rattle.macro_expand.proofs.WordLemmas.{span-none, span-from, on-ok}
use Rattle.macro_expand.proofs.words.push_between.Goals as goal

pub returns-in_default-clause-span : goal.returns-in_default-clause-span
returns-in_default-clause-span c =
    sym (append-nil (spelled c.args.out.now.items)) ∙ ap (λ v. spelled c.args.out.now.items ++ v) (span-none (spelled c.args.parts.now) c.args.words.now c.in_default.len_below)

pub returns-clause-span : goal.returns-clause-span
returns-clause-span c =
    on-ok c.push_cut.result
    (λ cut. cut ∙ ap (λ v. spelled c.args.out.now.items ++ v) (span-from (spelled c.args.parts.now) c.args.words.now _ _ c.last_end.result c.in-len1-up.len_at_least c.last_end.ensures refl))
    c.push_cut.ensures.cut
