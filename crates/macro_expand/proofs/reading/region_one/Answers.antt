use Rattle.macro_expand.proofs.reading.region_one.Goals as goal

pub returns-in_ok-give-in-Row-clause-slices : goal.returns-in_ok-give-in-Row-clause-slices
returns-in_ok-give-in-Row-clause-slices c texts what reading =
    record { macros = reading.macros; opened = reading.opened; known = c.in_ok-give-in-Row.ensures.slices texts tt reading.known }

pub returns-in_ok-give-in-Note-clause-slices : goal.returns-in_ok-give-in-Note-clause-slices
returns-in_ok-give-in-Note-clause-slices c texts what reading =
    record { macros = reading.macros; opened = reading.opened; known = c.in_ok-give-in-Note.ensures.slices texts tt reading.known }
