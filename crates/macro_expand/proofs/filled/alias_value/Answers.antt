use Rattle.std.proofs.Common.{sym, subst}
use Rattle.macro_expand.specs.Slices.{AreSlices}
use Rattle.macro_expand.proofs.SliceLemmas.{alias-at}
use Rattle.macro_expand.proofs.filled.alias_value.Goals as goal

pub returns-in-Some-clause-slices : goal.returns-in-Some-clause-slices
returns-in-Some-clause-slices c texts aliases =
    subst (AreSlices texts) (sym c.deref.ensures.value) (alias-at texts c.args.aliases.now c.args.name.now c.in-Some.value c.in-Some.ensures.value aliases)
