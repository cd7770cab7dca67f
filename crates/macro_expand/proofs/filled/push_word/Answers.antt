use Rattle.macro_expand.proofs.filled.push_word.Goals as goal

pub returns-clause-slices : goal.returns-clause-slices
returns-clause-slices c texts parts aliases out = c.in_ok-push_all.ensures.slices texts (c.in-Some.ensures.slices texts aliases) out
