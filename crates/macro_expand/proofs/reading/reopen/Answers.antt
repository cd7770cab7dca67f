use Rattle.macro_expand.proofs.reading.reopen.Goals as goal

pub returns-clause-slices : goal.returns-clause-slices
returns-clause-slices c texts opened reading = record { macros = reading.macros; opened = opened; known = reading.known }
