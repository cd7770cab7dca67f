use Rattle.macro_expand.proofs.RowLemmas.{notes-none}
use Rattle.macro_expand.proofs.source.begun_here.Goals as goal

pub returns-in_default : goal.returns-in_default
returns-in_default c = notes-none c.args.inside c.args.tokens.now c.in_default.len_below
