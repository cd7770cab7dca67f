use Rattle.arm64_table.specs.Arm64.{arm64}
use Rattle.arm64_table.specs.Laws.{arm64_lawful}
use Rattle.instruction_tests.proofs.results.results_of.Goals as goal

pub put_all-requires : goal.put_all-requires
put_all-requires c = c.new-state.ensures.fits arm64.isa arm64_lawful.set
