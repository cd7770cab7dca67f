use Rattle.std.proofs.Common.{◌≡◌, subst}
use Rattle.std.specs.Prelude.{IfOk}
use Rattle.std.proofs.lemmas.Iterator.Consumers.{map_from_collect}
use Rattle.sl_text.proofs.ForCallers.{tokens_yield}
use Rattle.macro_expand.specs.Spelled.{lexemes}
use Rattle.macro_expand.proofs.words.all_tokens.Goals as goal

pub returns : goal.returns
returns c = subst (λ all. IfOk c.collect.result (λ list. lexemes list.items ≡ all)) c.tokens.ensures.all (map_from_collect c.collect.result c.collect.ensures.ran (tokens_yield c.tokens.result))
