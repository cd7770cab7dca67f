use Rattle.std.proofs.Common.{◌≡◌, ◌++◌}
use Rattle.sl_model.specs.Token.{tokens, open_behind}
use Rattle.sl_text.specs.Tokens.{is_inside, tokens_left}
use Rattle.macro_expand.specs.Spelled.{lexemes}
use Rattle.macro_expand.proofs.source.tokens_of.Given as goal

-- the tokens that were given and those that are left are all, and what is open behind those that are left is open behind all
abbrev pub invariant-loop-token : goal.invariant-loop-token
invariant-loop-token l = record {
  all : lexemes l.list.items ++ tokens_left l.left ≡ tokens l.fn.comments l.fn.inside l.fn.line.text.now;
  unclosed : open_behind (is_inside l.left) (tokens_left l.left) ≡ open_behind l.fn.inside (tokens l.fn.comments l.fn.inside l.fn.line.text.now);
}
