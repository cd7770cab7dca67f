use Rattle.std.proofs.Common.{◌≡◌, length}
use Rattle.sl_model.specs.Lawful.{AreValid}
use Rattle.sample_set.specs.FewForms.{few}
use Rattle.schedule_tests.proofs.lines.items_of.Given as goal

-- the items so far are instructions of the set, one for each line
abbrev pub invariant-loop-line : goal.invariant-loop-line
invariant-loop-line l = record {
  valid : AreValid few.isa l.items.items;
  count : length l.items.items ≡ l.line-index;
}
