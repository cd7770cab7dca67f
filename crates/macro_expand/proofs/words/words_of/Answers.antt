use Rattle.std.proofs.Common.{ap, ◌∙◌}
use Rattle.macro_expand.specs.Words.{without_gaps}
use Rattle.macro_expand.specs.Spelled.{lexemes}
use Rattle.macro_expand.proofs.WordLemmas.{gaps-filtered}
use Rattle.macro_expand.proofs.words.words_of.Goals as goal

pub returns : goal.returns
returns c = ap lexemes c.in_ok-words.ensures ∙ gaps-filtered c.deref.result.now ∙ ap without_gaps (ap lexemes c.deref.ensures.value ∙ c.in_ok-tokens.ensures)
