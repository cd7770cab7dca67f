use Rattle.macro_expand.proofs.reading.given_of.Goals as goal

pub returns-clause-slices : goal.returns-clause-slices
returns-clause-slices c texts known = known.given
