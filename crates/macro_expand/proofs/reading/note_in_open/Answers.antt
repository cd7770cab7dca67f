use Rattle.macro_expand.proofs.reading.note_in_open.Goals as goal

pub returns-clause-slices : goal.returns-clause-slices
returns-clause-slices c texts opened reading =
    c.reopen.ensures.slices texts opened (record { macros = reading.macros; opened = reading.opened; known = c.in_ok-give_note.ensures.slices texts reading.known })
