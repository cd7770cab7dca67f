use Rattle.macro_expand.proofs.reading.close.Goals as goal

pub returns-clause-slices : goal.returns-clause-slices
returns-clause-slices c texts opened reading = record {
  macros = c.in_ok-define.ensures.slices texts opened.body reading.macros;
  opened = tt;
  known = c.in_ok-closing.ensures.slices texts reading.known;
}
