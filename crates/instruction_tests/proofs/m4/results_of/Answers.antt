use Rattle.m4_table.specs.M4.{m4}
use Rattle.m4_table.specs.Laws.{m4_lawful}
use Rattle.instruction_tests.proofs.m4.results_of.Goals as goal

pub put_all-requires : goal.put_all-requires
put_all-requires c = c.new-state.ensures.fits m4.isa m4_lawful.set
