use Rattle.macro_expand.proofs.reading.closing.Goals as goal

pub returns-clause-slices : goal.returns-clause-slices
returns-clause-slices c texts known = c.in_ok-give_row.ensures.slices texts (c.in_ok-count_if-2.ensures.slices texts (c.in_ok-count_if.ensures.slices texts known))
