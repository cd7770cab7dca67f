use Rattle.std.proofs.Common.{sym, ◌∙◌}
use Rattle.macro_expand.proofs.WordLemmas.{names-other, names-filled}
use Rattle.macro_expand.proofs.words.are_names.Goals as goal

pub returns-then-not-are_words_or_commas : goal.returns-then-not-are_words_or_commas
returns-then-not-are_words_or_commas c =
    names-other c.args.words.now (sym c.is_empty.ensures ∙ c.if-is_empty.false) (sym c.are_words_or_commas.ensures ∙ c.if-not-are_words_or_commas.true)

pub returns : goal.returns
returns c = c.are_filled.ensures ∙ names-filled c.args.words.now (sym c.is_empty.ensures ∙ c.if-is_empty.false) (sym c.are_words_or_commas.ensures ∙ c.if-not-are_words_or_commas.false)
