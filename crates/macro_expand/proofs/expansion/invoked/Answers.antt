use Rattle.macro_expand.proofs.SliceLemmas.{body-at}
use Rattle.macro_expand.proofs.expansion.invoked.Goals as goal

pub returns-clause-slices : goal.returns-clause-slices
returns-clause-slices c texts macros = body-at texts c.args.macros.now _ c.get.result c.get.ensures.value macros
