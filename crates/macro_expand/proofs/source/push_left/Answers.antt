use Rattle.std.proofs.Common.{◌∷◌, [], ◌++◌, cond, ap, sym, ◌∙◌}
use Rattle.macro_expand.specs.Words.{gap}
use Rattle.macro_expand.specs.Spelled.{spelled}
use Rattle.macro_expand.specs.declared.parts.Part.TheVariants as part
use Rattle.macro_expand.proofs.PartLemmas.{spelled-one}
use Rattle.macro_expand.proofs.source.push_left.Goals as goal

pub returns-then-not-is_comment-clause-text : goal.returns-then-not-is_comment-clause-text
returns-then-not-is_comment-clause-text c =
    let text = c.args.token.now.text.now in
    ap spelled c.in_ok-push.ensures.items ∙ spelled-one c.args.out.now.items (part.Text c.args.token.now.text)
    ∙ ap (λ b. spelled c.args.out.now.items ++ cond b (cond c.args.touches [] (gap ∷ [])) text) (sym c.if-not-is_comment.true ∙ c.is_comment.ensures)

pub returns-clause-text : goal.returns-clause-text
returns-clause-text c =
    let text = c.args.token.now.text.now in
    let before = spelled c.args.out.now.items in
    ap spelled c.in_ok-push-2.ensures.items ∙ spelled-one c.args.out.now.items part.Gap
    ∙ ap (λ t. before ++ cond t [] (gap ∷ [])) (sym c.if-touches.false)
    ∙ ap (λ b. before ++ cond b (cond c.args.touches [] (gap ∷ [])) text) (sym c.if-not-is_comment.false ∙ c.is_comment.ensures)
