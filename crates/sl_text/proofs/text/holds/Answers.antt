use Rattle.std.proofs.lemmas.Str.Pattern.{contains_text}
use Rattle.sl_text.proofs.WordLemmas.{holds_is}
use Rattle.sl_text.proofs.text.holds.Goals as goal

pub returns : goal.returns
returns c = holds_is _ _ _ (contains_text _ _ _ c.contains.ensures.cases)
