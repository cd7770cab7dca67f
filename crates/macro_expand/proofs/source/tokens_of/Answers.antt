use Rattle.std.proofs.Common.{◌∙◌}
use Rattle.sl_text.proofs.ForCallers.{open_behind_same, open_behind_end}
use Rattle.macro_expand.proofs.RowLemmas.{token_added}
use Rattle.macro_expand.proofs.source.tokens_of.Goals as goal

pub loop-token-preserved : goal.loop-token-preserved
loop-token-preserved c = record {
  all = token_added c.loop-token.left c.next.new.self c.in-Some.token c.loop-token.list.items c.push.new.self.items _ c.in_ok-push.ensures.items
      c.in-Some.ensures.steps c.loop-token.invariant.all;
  unclosed = open_behind_same c.loop-token.left c.next.new.self _ c.in-Some.ensures.steps ∙ c.loop-token.invariant.unclosed;
}

pub returns-clause-unclosed : goal.returns-clause-unclosed
returns-clause-unclosed c =
    c.still_inside.ensures ∙ open_behind_end c.loop-token.left c.next.new.self c.in_default.ensures.steps ∙ c.loop-token.invariant.unclosed
