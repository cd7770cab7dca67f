use Rattle.macro_expand.proofs.expansion.without_alias.Goals as goal

pub returns-clause-slices : goal.returns-clause-slices
returns-clause-slices c texts known = c.end_alias.ensures.slices texts (c.in_ok-count_if.ensures.slices texts known)
