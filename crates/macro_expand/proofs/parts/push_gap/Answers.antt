use Rattle.std.proofs.Common.{◌++◌, ◌∙◌, ap}
use Rattle.macro_expand.specs.Spelled.{spelled}
use Rattle.macro_expand.specs.declared.parts.Part.TheVariants as part
use Rattle.macro_expand.proofs.PartLemmas.{spelled-one, gap-whole}
use Rattle.macro_expand.proofs.parts.push_gap.Goals as goal

pub returns-in_ok-push-clause-text : goal.returns-in_ok-push-clause-text
returns-in_ok-push-clause-text c =
    ap spelled c.in_ok-push.ensures.items ∙ spelled-one c.args.out.now.items part.Gap
    ∙ ap (λ v. spelled c.args.out.now.items ++ v) (gap-whole c.args.from c.args.to c.if-from-eq0.true c.if-to-gt0.true)
