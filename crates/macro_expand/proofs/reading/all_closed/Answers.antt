use Rattle.macro_expand.proofs.reading.all_closed.Goals as goal

pub returns-clause-slices : goal.returns-clause-slices
returns-clause-slices c texts reading = c.given_of.ensures.slices texts reading.known
