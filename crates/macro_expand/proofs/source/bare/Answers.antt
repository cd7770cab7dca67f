use Rattle.std.proofs.Common.{◌∙◌}
use Rattle.macro_expand.proofs.SliceLemmas.{no-parts}
use Rattle.macro_expand.proofs.RowLemmas.{bare-none, bare-some}
use Rattle.macro_expand.proofs.CycleLemmas.{none-before}
use Rattle.macro_expand.proofs.PartLemmas.{spelled-nil}
use Rattle.macro_expand.proofs.source.bare.Goals as goal

pub returns-in_default-clause-text : goal.returns-in_default-clause-text
returns-in_default-clause-text c = spelled-nil c.new-out.result.items c.new-out.ensures.items ∙ bare-none c.args.line.now c.args.statement.now c.in_default.len_below

pub returns-clause-text : goal.returns-clause-text
returns-clause-text c =
    c.in_ok-push_bared.ensures.text ∙ none-before c.new-out.result.items _ c.new-out.ensures.items
    ∙ bare-some c.args.line.now c.args.statement.now _ c.in-len1-up.len_at_least

pub returns-clause-slices : goal.returns-clause-slices
returns-clause-slices c texts line cut = c.in_ok-push_bared.ensures.slices texts line cut (no-parts texts c.new-out.result.items c.new-out.ensures.items)
