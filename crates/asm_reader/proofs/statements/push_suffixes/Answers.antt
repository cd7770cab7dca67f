use Rattle.std.proofs.Common.{sym, ◌∙◌}
use Rattle.sl_text.specs.Tokens.{token_value}
use Rattle.asm_reader.proofs.Tokens.{suffix_more, suffix_none, suffix_end}
use Rattle.asm_reader.proofs.statements.push_suffixes.Goals as goal

pub loop-rest-preserved : goal.loop-rest-preserved
loop-rest-preserved c =
    suffix_more (token_value c.loop-rest.before) c.loop-rest.rest.now _ c.in-len2-up.len_at_least (sym c.is_suffix.ensures ∙ c.if-not-is_suffix.false)
    c.loop-rest.name.items c.push_suffix.new.name.items _ c.in_ok-push_suffix.ensures c.loop-rest.invariant

pub returns-then-not-is_suffix : goal.returns-then-not-is_suffix
returns-then-not-is_suffix c =
    suffix_none (token_value c.loop-rest.before) c.loop-rest.rest.now _ c.in-len2-up.len_at_least (sym c.is_suffix.ensures ∙ c.if-not-is_suffix.true)
    c.loop-rest.name.items _ c.loop-rest.invariant

pub returns : goal.returns
returns c = suffix_end (token_value c.loop-rest.before) c.loop-rest.rest.now c.in_default.len_below c.loop-rest.name.items _ c.loop-rest.invariant
