use Rattle.std.proofs.Common.{length, ap}
use Rattle.sl_model.specs.declared.instruction.Instr.{Instr}
use Rattle.sl_model.specs.Source.{operands}
use Rattle.sample_set.specs.FewForms.{few}
use Rattle.schedule_tests.proofs.OtherSources.{four-valid, four-sources}
use Rattle.schedule_tests.proofs.graphs.other_sources.Goals as goal

pub from_sources-requires-clause-valid : goal.from_sources-requires-clause-valid
from_sources-requires-clause-valid c =
    four-valid few.isa c.load_of.result c.store_of.result c.subs_of.result c.sum_of.result c.load_of.ensures.valid c.store_of.ensures.valid c.subs_of.ensures.valid c.sum_of.ensures.valid

pub from_sources-requires-clause-sources : goal.from_sources-requires-clause-sources
from_sources-requires-clause-sources c =
    four-sources c.load_of.result c.store_of.result c.subs_of.result c.sum_of.result _ _
    (ap (λ (i : Instr). length (operands i)) c.load_of.ensures.is) (ap (λ (i : Instr). length (operands i)) c.store_of.ensures.is)
    (ap (λ (i : Instr). length (operands i)) c.subs_of.ensures.is) (ap (λ (i : Instr). length (operands i)) c.sum_of.ensures.is)
