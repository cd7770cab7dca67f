use Rattle.macro_expand.proofs.reading.define.Goals as goal

pub returns-clause-slices : goal.returns-clause-slices
returns-clause-slices c texts body macros = c.add_macro.ensures.slices texts body macros
